-- Rows and the numbers that a table of them holds.
--     numbers-length     as many numbers for each row as a row has
--     numbers-append     the numbers of two lists of rows, one behind the other
--     rows_back          a table that holds the numbers of rs, and behind them too few for a row, has the rows rs
--     rows_whole         and one that holds nothing behind them
-- Assumes nothing.
use Prim.Native.Nat.{ℕ, ◌*◌, ◌<◌}
use mathlib.Core.Path.{◌≡◌, refl, sym, ap, ◌∙◌}
use mathlib.Core.List.{List, [], ◌∷◌, ◌++◌, append-nil}
use native.Mathlib.Omega.{arith}
use lib.ListN.{length, length-append}
use Rattle.rows.specs.declared.Row.{Row}
use Rattle.rows.specs.Rows.{row_width, first_rows, rows_of, row_numbers, numbers_of}
use Rattle.rows.proofs.TableRows.{rows-length}

pub numbers-length : (rs : List Row) → length (numbers_of rs) ≡ row_width * length rs
unfolding numbers_of
numbers-length [] = refl
numbers-length (r ∷ rs) = omega (arith, numbers-length rs)

pub numbers-append : (rs qs : List Row) → numbers_of (rs ++ qs) ≡ numbers_of rs ++ numbers_of qs
unfolding numbers_of
numbers-append [] qs = refl
numbers-append (r ∷ rs) qs = ap (λ ns. row_numbers r ++ ns) (numbers-append rs qs)

first-rows-back : (rs : List Row) (rest : List ℕ) → first_rows (length rs) (numbers_of rs ++ rest) ≡ rs
unfolding numbers_of first_rows
first-rows-back [] rest = refl
first-rows-back (r ∷ rs) rest = ap (λ (qs : List Row). r ∷ qs) (first-rows-back rs rest)

pub rows_back : (rs : List Row) (rest : List ℕ) → length rest < row_width → rows_of (numbers_of rs ++ rest) ≡ rs
unfolding rows_of
rows_back rs rest short =
    let t = numbers_of rs ++ rest in
    let long = length-append (numbers_of rs) rest in
    let counted : length (rows_of t) ≡ length rs = omega (arith, rows-length t, long, numbers-length rs) in
    ap (λ (n : ℕ). first_rows n t) (sym (rows-length t) ∙ counted) ∙ first-rows-back rs rest

pub rows_whole : (rs : List Row) → rows_of (numbers_of rs) ≡ rs
rows_whole rs = ap rows_of (sym (append-nil (numbers_of rs))) ∙ rows_back rs [] (omega arith)
