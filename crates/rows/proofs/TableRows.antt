-- Where the rows of a table lie in its numbers.
--     rows-length     as many rows as the numbers fill
--     row-held        a row is read off the numbers from its place on
--     row_read        and number by number
--     take_more       the first rows, with one more
--     reading         how many rows there are and what each holds: what the functions are proved by
-- Assumes nothing.
use Prim.Native.Nat.{ℕ, zero, suc, ◌+◌, ◌*◌, ◌/◌, ◌<◌}
use mathlib.Core.Path.{◌≡◌, refl, ap, ◌∙◌}
use mathlib.Core.List.{List, [], ◌∷◌, ◌++◌}
use native.Mathlib.Omega.{arith}
use native.Mathlib.Numerals.{add-one}
use native.Mathlib.Nat.{le_of_suc-le-suc, not-suc-le-zero, add-zero}
use lib.ListN.{length, get_or, take, drop}
use lib.Seq.{take-suc, drop-drop, get_or-drop}
use Rattle.rows.specs.declared.Row.{Row}
use Rattle.rows.specs.Rows.{row_width, row_of, first_rows, rows_of, row_at}

first-rows-length : (n : ℕ) (t : List ℕ) → length (first_rows n t) ≡ n
unfolding first_rows
first-rows-length zero t = refl
first-rows-length (suc n) t = ap suc (first-rows-length n (drop row_width t))

pub rows-length : (t : List ℕ) → length (rows_of t) ≡ length t / row_width
unfolding rows_of
rows-length t = first-rows-length (length t / row_width) t

first-rows-held : (n : ℕ) (t : List ℕ) (k : ℕ) → k < n → row_at (first_rows n t) k ≡ row_of (drop (k * row_width) t)
unfolding first_rows
first-rows-held zero t k h = absurd (not-suc-le-zero h)
first-rows-held (suc n) t zero h = refl
first-rows-held (suc n) t (suc k) h =
    let further : row_width + k * row_width ≡ suc k * row_width = omega arith in
    first-rows-held n (drop row_width t) k (le_of_suc-le-suc h)
    ∙ ap row_of (drop-drop (k * row_width) row_width t ∙ ap (λ (i : ℕ). drop i t) further)

pub row-held : (t : List ℕ) (k : ℕ) → k < length (rows_of t) → row_at (rows_of t) k ≡ row_of (drop (k * row_width) t)
unfolding rows_of
row-held t k h = first-rows-held (length t / row_width) t k (omega (arith, rows-length t))

pub row_read : (t : List ℕ) (k : ℕ) → k < length (rows_of t)
    → record {
      number = get_or t (k * row_width) 0;
      left_a = get_or t (k * row_width + 1) 0;
      left_b = get_or t (k * row_width + 2) 0;
      length = get_or t (k * row_width + 3) 0;
      direction = get_or t (k * row_width + 4) 0;
    }
    ≡ row_at (rows_of t) k
row_read t k h = rw (row-held t k h) (simp (get_or-drop, add-zero))

pub take_more : (rs : List Row) (k : ℕ) → k < length rs → take (k + 1) rs ≡ take k rs ++ row_at rs k ∷ []
take_more rs k h = rw (add-one) (take-suc rs k (row_of []) h)

pub ruleset reading = (rows-length, row_read)
