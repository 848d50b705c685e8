-- The loop that goes on with the step that is due.
--     pending              its measure: the unused places, where a step is due
--     going-driving, going_less    a step keeps the one and lowers the other
--     Kept                 what the loop keeps: the lengths, and what held of the marks at its start
--     Passes, kept_step, step_less    what a step does, which keeps it and lowers the measure
-- Assumes nothing.
use Prim.Native.Nat.{ℕ, suc, ◌<◌}
use mathlib.Core.Path.{◌≡◌, ◌∙◌}
use mathlib.Core.List.{List}
use native.Mathlib.Omega.{arith}
use lib.ListN.{length}
use Rattle.refinement.specs.Match.{Place}
use Rattle.std.specs.declared.result.Result.{Result}
use Rattle.std.specs.declared.result.Result.TheVariants.{Ok, Err}
use Rattle.refining.specs.Columns.{Columns}
use Rattle.carrying_group.specs.declared.TooMany.{TooMany}
use Rattle.tracks.specs.Engine.{books_of, unused}
use Rattle.stepping.specs.Steps.{Going}
use Rattle.stepping.specs.declared.Closing.{Closing}
use Rattle.driving.specs.Driving.{Driving, Driven}

abbrev pub pending : ℕ → ℕ → List ℕ → List ℕ → Closing → ℕ
pending n cap a b Closing.Done = 0
pending n cap a b (Closing.MoreA k) = suc (unused (books_of a b) n cap)
pending n cap a b (Closing.MoreB k) = suc (unused (books_of a b) n cap)

module _ (c : Columns) (gs : List ℕ) (g n cap free : ℕ) (ys a b : List ℕ) (marks : List Place) where
  pub going-driving :
      (answer : Result Closing TooMany) → Going c gs g marks n cap free ys a b answer
      → Driving c gs g marks n cap ys a b answer
  going-driving (Ok Closing.Done) h = h
  going-driving (Ok (Closing.MoreA k)) h = h.0
  going-driving (Ok (Closing.MoreB k)) h = h.0
  going-driving (Err none) h = h

  going_less :
      (answer : Closing) → Going c gs g marks n cap free ys a b (Ok answer) → pending n cap a b answer < suc free
  going_less Closing.Done h = omega arith
  going_less (Closing.MoreA k) h = omega (arith, h.1)
  going_less (Closing.MoreB k) h = omega (arith, h.1)

-- the work and the books are as long as at the start, some marks hold, and so do those that held at the start
pub record Kept (c : Columns) (gs : List ℕ) (g n cap : ℕ) (xs a₀ b₀ : List ℕ) (first : Result Closing TooMany)
    (ys a b : List ℕ) (closing : Closing) : Type 0 where
  pub same_work : length ys ≡ length xs
  pub same_a : length a ≡ length a₀
  pub same_b : length b ≡ length b₀
  pub driven : Driven c gs g n cap ys a b (Ok closing)
  pub still :
      (marks : List Place) → Driving c gs g marks n cap xs a₀ b₀ first → Driving c gs g marks n cap ys a b (Ok closing)

-- what a step does that `due` asks for
abbrev pub Passes :
    Columns → List ℕ → ℕ → ℕ → ℕ → List ℕ → List ℕ → List ℕ → Closing → List ℕ → List ℕ → List ℕ
    → Result Closing TooMany → Type 0
Passes c gs g n cap xs a b due ys a' b' answer =
    (marks : List Place) → Driving c gs g marks n cap xs a b (Ok due)
    → Going c gs g marks n cap (unused (books_of a b) n cap) ys a' b' answer

module _ {c : Columns} {gs : List ℕ} {g n cap : ℕ} {xs₀ a₀ b₀ : List ℕ} {first : Result Closing TooMany}
    {xs a b : List ℕ} {due : Closing} (kept : Kept c gs g n cap xs₀ a₀ b₀ first xs a b due) where
  pub kept_step :
      {ys a' b' : List ℕ} {answer : Closing} → length ys ≡ length xs → length a' ≡ length a → length b' ≡ length b
      → Passes c gs g n cap xs a b due ys a' b' (Ok answer) → Kept c gs g n cap xs₀ a₀ b₀ first ys a' b' answer
  kept_step {ys} {a'} {b'} {answer} l la lb passes =
      record {
        same_work = l ∙ kept.same_work;
        same_a = la ∙ kept.same_a;
        same_b = lb ∙ kept.same_b;
        driven = (kept.driven.0, goes kept.driven.0 kept.driven.1);
        still = λ marks d. goes marks (kept.still marks d);
      }
    where
      goes :
          (marks : List Place) → Driving c gs g marks n cap xs a b (Ok due)
          → Driving c gs g marks n cap ys a' b' (Ok answer)
      goes marks d =
          going-driving c gs g n cap (unused (books_of a b) n cap) ys a' b' marks (Ok answer) (passes marks d)

  pub step_less :
      (ys a' b' : List ℕ) (answer : Closing) → Passes c gs g n cap xs a b due ys a' b' (Ok answer)
      → pending n cap a' b' answer < suc (unused (books_of a b) n cap)
  step_less ys a' b' answer passes =
      going_less c gs g n cap (unused (books_of a b) n cap) ys a' b' kept.driven.0 answer
      (passes kept.driven.0 kept.driven.1)
