-- What the walk that fills the columns keeps, and what they hold at its end.
--     Filled           the columns hold what the commands said
--     Filling          good commands alone were passed, of a script that is admitted, and the columns are filled so
--     filling-start, filling-taken, filling-kept     at the start, and behind one more match or mark
--     filling-ends     at the end the columns hold what the reading leaves
--     kept-columns     behind a refusal
-- Assumes nothing.
use Prim.Native.Nat.{ℕ, ◌+◌}
use mathlib.Core.Path.{◌≡◌, refl, sym, ap, ◌∙◌}
use mathlib.Core.Bool.{Bool}
use mathlib.Core.List.{List, [], ◌∷◌, ◌++◌}
use lib.ListN.{length, drop, set}
use Rattle.std.specs.Prelude.{Result, Ok, Err}
use Rattle.script.specs.Commands.{lengths_width, match_width, mark_width, command_of}
use Rattle.script.specs.Steps.{step_of}
use Rattle.script.specs.Reading.{read_script, verdict_of}
use Rattle.script.specs.Columns.{column_of, ColumnsRead, MarksRead}
use Rattle.script.specs.declared.command.Match.{Match}
use Rattle.script.specs.declared.command.Mark.{Mark}
use Rattle.script.specs.declared.refusal.Refusal.{Refusal}
use Rattle.script.specs.declared.step.Step.{Step}
use Rattle.script.specs.declared.Admitted.{Admitted}
use Rattle.script.proofs.Holding.{reading-refused}
use Rattle.script.proofs.Columns.{column-next}
use Rattle.reader.specs.Walking.{Admits, next_of, MatchPut, MarkPut}
use Rattle.reader.proofs.Progress.{Progress, progress_start, step-finished, step-taken, step_kept}
use Rattle.reader.proofs.Walks.{admits-reach, next-is}

-- ---- the walk

-- the columns with what was passed; each before and now
pub record Filled (ms : List Match) (ks : List Mark) (a b d : List ℕ) (r : List Bool) (z x : List ℕ)
    (a' b' d' : List ℕ) (r' : List Bool) (z' x' : List ℕ) : Type 0 where
  pub left_a : a' ≡ column_of ms (λ m. m.left_a) a
  pub left_b : b' ≡ column_of ms (λ m. m.left_b) b
  pub letters : d' ≡ column_of ms (λ m. m.length) d
  pub reversed : r' ≡ column_of ms (λ m. m.reversed) r
  pub side : z' ≡ column_of ks (λ k. k.side) z
  pub position : x' ≡ column_of ks (λ k. k.position) x

-- one more value, stored behind those that are
one_more : {X Y : Type 0} (field : X → Y) (column : List Y) (xs : List X) {n : ℕ} {now next : List Y} (x : X)
    → length xs ≡ n → now ≡ column_of xs field column → next ≡ set now n (field x)
    → next ≡ column_of (xs ++ x ∷ []) field column
one_more field column xs x counted is put = put ∙ rw (is, ← counted) (sym (column-next xs field column x))

pub record Filling (s : List ℕ) (a b d : List ℕ) (r : List Bool) (z x : List ℕ) (a' b' d' : List ℕ)
    (r' : List Bool) (z' x' : List ℕ) (count marks at : ℕ) : Type 0 where
  pub admits : Admits s
  pub progress : Progress s admits.admitted.p admits.admitted.q count marks at
  pub filled : Filled progress.matches progress.points a b d r z x a' b' d' r' z' x'

module _ {s : List ℕ} {a b d : List ℕ} {r : List Bool} {z x : List ℕ} where
  pub filling-start : Admits s → Filling s a b d r z x a b d r z x 0 0 lengths_width
  unfolding column_of
  filling-start admits =
      record {
        admits = admits;
        progress = progress_start (admits-reach admits);
        filled =
            record { left_a = refl; left_b = refl; letters = refl; reversed = refl; side = refl; position = refl };
      }

  module _ {a' b' d' : List ℕ} {r' : List Bool} {z' x' : List ℕ} {count marks at : ℕ}
      (h : Filling s a b d r z x a' b' d' r' z' x' count marks at) {t : Step}
      (en : t ≡ next_of s at) where
    -- the byte tells the step
    et : Ok t ≡ step_of h.admits.admitted.p h.admits.admitted.q count marks at (command_of (drop at s))
    et = next-is h.admits h.progress en

    pub filling-taken : {m : Match} {a'' b'' d'' : List ℕ} {r'' : List Bool} → t ≡ Step.Take m
        → MatchPut m count a' b' d' r' a'' b'' d'' r''
        → Filling s a b d r z x a'' b'' d'' r'' z' x' (count + 1) marks (at + match_width)
    unfolding step-taken
    filling-taken {m} e put =
        let f = h.filled in
        let ms = h.progress.matches in
        let n = h.progress.counted in
        record {
          admits = h.admits;
          progress = step-taken h.progress et (ap Ok e);
          filled =
              record {
                left_a = one_more (λ m. m.left_a) a ms m n f.left_a put.left_a;
                left_b = one_more (λ m. m.left_b) b ms m n f.left_b put.left_b;
                letters = one_more (λ m. m.length) d ms m n f.letters put.letters;
                reversed = one_more (λ m. m.reversed) r ms m n f.reversed put.reversed;
                side = f.side;
                position = f.position;
              };
        }

    pub filling-kept : {k : Mark} {z'' x'' : List ℕ} → t ≡ Step.Keep k → MarkPut k marks z' x' z'' x''
        → Filling s a b d r z x a' b' d' r' z'' x'' count (marks + 1) (at + mark_width)
    unfolding step_kept
    filling-kept {k} e put =
        let f = h.filled in
        let ks = h.progress.points in
        let n = h.progress.counted_marks in
        record {
          admits = h.admits;
          progress = step_kept h.progress et (ap Ok e);
          filled =
              record {
                left_a = f.left_a;
                left_b = f.left_b;
                letters = f.letters;
                reversed = f.reversed;
                side = one_more (λ k. k.side) z ks k n f.side put.side;
                position = one_more (λ k. k.position) x ks k n f.position put.position;
              };
        }

    pub filling-ends : t ≡ Step.Finish → ColumnsRead s a b d r a' b' d' r' × MarksRead s z x z' x'
    filling-ends e =
        let f = h.filled in
        let read = step-finished h.progress et (ap Ok e) in (
          record {
            left_a = rw read f.left_a;
            left_b = rw read f.left_b;
            letters = rw read f.letters;
            reversed = rw read f.reversed;
          },
          record { side = rw read f.side; position = rw read f.position },
        )

-- ---- the call

module _ (s : List ℕ) {told : Result Admitted Refusal} (reads : told ≡ verdict_of (read_script s)) where
  pub kept-columns : {f : Refusal} → told ≡ Err f → (a b d : List ℕ) (r : List Bool) (z x : List ℕ)
      → ColumnsRead s a b d r a b d r × MarksRead s z x z x
  unfolding column_of
  kept-columns v a b d r z x =
      let refused = reading-refused s reads v in (
        record { left_a = rw refused; left_b = rw refused; letters = rw refused; reversed = rw refused },
        record { side = rw refused; position = rw refused },
      )
