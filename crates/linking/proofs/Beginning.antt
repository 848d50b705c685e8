-- Where the best chain begins.
--     first-none, second_more, first_more, second-lower, first-lower
--                            which of two rows `foremost_of` is, by facts
--     foremost-alone         a row alone
--     foremost-more          one row more
--     foremost-scores        only the scores of the rows themselves matter
--     foremost-members       the same rows in another order
-- Assumes nothing.
use Prim.Native.Nat.{ℕ, ◌≤◌, ◌<◌}
use mathlib.Core.Bool.{cond}
use mathlib.Core.Path.{◌≡◌, refl, sym, subst}
use mathlib.Core.Logic.{inl, inr, ◌↔◌, dite}
use mathlib.Core.List.Memᴰ.{head as here}
use mathlib.Core.List.Memᴰ.{tail as there}
use mathlib.Core.List.{List, ◌∷◌}
use native.Mathlib.Omega.{arith}
use native.Mathlib.Decide.{dec_lt}
use lib.Dec.{ltb}
use borrow.Author.Tests.{lt-ltb, le-ltb, eq-eqb, ne_eqb}
use Rattle.refinement.specs.Order.{◌∈◌}
use Rattle.best_chains.specs.Best.{Outdone}
use Rattle.weighing.specs.Weighing.{score_at}
use Rattle.linking.specs.Linking.{foremost_of, Foremost}

module _ (scores : List ℕ) (first k : ℕ) where
  pub first-none : first ≡ 0 → k ≡ foremost_of scores first k
  unfolding foremost_of
  first-none e = rw (eq-eqb first 0 e)

  module _ (some : 1 ≤ first) where
    abbrev one : ℕ
    one = score_at scores first

    abbrev other : ℕ
    other = score_at scores k

    -- the tests that are left
    tests : foremost_of scores first k ≡ cond (ltb one other) k (cond (ltb other one) first (cond (ltb k first) k first))
    unfolding foremost_of
    tests = rw (ne_eqb first 0 (λ z. omega arith))

    pub second_more : one < other → k ≡ foremost_of scores first k
    second_more l = rw (tests, lt-ltb one other l)

    pub first_more : other < one → first ≡ foremost_of scores first k
    first_more l = rw (tests, le-ltb one other (omega arith), lt-ltb other one l)

    -- equal ones
    numbers : one ≡ other → foremost_of scores first k ≡ cond (ltb k first) k first
    numbers e = rw (tests, le-ltb one other (omega arith), le-ltb other one (omega arith))

    pub second-lower : one ≡ other → k < first → k ≡ foremost_of scores first k
    second-lower e l = rw (numbers e, lt-ltb k first l)

    pub first-lower : one ≡ other → first ≤ k → first ≡ foremost_of scores first k
    first-lower e l = rw (numbers e, le-ltb k first l)

-- row j is no better than row k
abbrev Below : List ℕ → ℕ → ℕ → Type 0
Below scores j k = Outdone (score_at scores j) (score_at scores k) k j

module _ (scores : List ℕ) where
  below-trans : (i j k : ℕ) → Below scores i j → Below scores j k → Below scores i k
  below-trans i j k (inl less) (inl less') = inl (omega arith)
  below-trans i j k (inl less) (inr (same, le)) = inl (omega arith)
  below-trans i j k (inr (same, le)) (inl less) = inl (omega arith)
  below-trans i j k (inr (same, le)) (inr (same', le')) = inr (omega arith, omega arith)

  module _ (es : List ℕ) (k : ℕ) where
    -- k is first, if none of the others is better
    new-first : ((j : ℕ) → j ∈ es → Below scores j k) → Foremost scores (k ∷ es) k
    new-first low = record { one = here refl; most = most }
      where
        most : (j : ℕ) → j ∈ (k ∷ es) → Below scores j k
        most j (here e) = rw e (inr (refl, omega arith))
        most j (there m) = low j m

    pub foremost-alone : ((j : ℕ) → ¬ (j ∈ es)) → Foremost scores (k ∷ es) (foremost_of scores 0 k)
    foremost-alone none =
        subst (Foremost scores (k ∷ es)) (first-none scores 0 k refl) (new-first λ j m. absurd (none j m))

    module _ {first : ℕ} (f : Foremost scores es first) (some : 1 ≤ first) where
      taken : Below scores first k → k ≡ foremost_of scores first k
          → Foremost scores (k ∷ es) (foremost_of scores first k)
      taken low e =
          subst (Foremost scores (k ∷ es)) e (new-first λ j m. below-trans j first k (f.most j m) low)

      kept : Below scores k first → first ≡ foremost_of scores first k
          → Foremost scores (k ∷ es) (foremost_of scores first k)
      kept low e = subst (Foremost scores (k ∷ es)) e (record { one = there f.one; most = most })
        where
          most : (j : ℕ) → j ∈ (k ∷ es) → Below scores j first
          most j (here e) = rw e low
          most j (there m) = f.most j m

      equal : score_at scores first ≡ score_at scores k → Foremost scores (k ∷ es) (foremost_of scores first k)
      equal e =
          dite (dec_lt k first) (λ l. taken (inr (e, omega arith)) (second-lower scores first k some e l))
          (λ l. kept (inr (sym e, omega arith)) (first-lower scores first k some e (omega arith)))

      pub foremost-more : Foremost scores (k ∷ es) (foremost_of scores first k)
      foremost-more =
          dite (dec_lt (score_at scores first) (score_at scores k))
          (λ l. taken (inl l) (second_more scores first k some l))
          (λ l. dite (dec_lt (score_at scores k) (score_at scores first))
          (λ m. kept (inl m) (first_more scores first k some m)) (λ m. equal (omega arith)))

pub foremost-scores : (scores scores' : List ℕ) {es : List ℕ} {v : ℕ}
    → ((k : ℕ) → k ∈ es → score_at scores' k ≡ score_at scores k) → Foremost scores es v → Foremost scores' es v
foremost-scores scores scores' {v = v} same f =
    record { one = f.one; most = λ j m. rw (same j m, same v f.one) (f.most j m) }

pub foremost-members : {scores es es' : List ℕ} {v : ℕ} → ((k : ℕ) → (k ∈ es) ↔ (k ∈ es')) → Foremost scores es v
    → Foremost scores es' v
foremost-members {v = v} same f = record { one = (same v).0 f.one; most = λ j m. f.most j ((same j).1 m) }
