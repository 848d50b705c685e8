-- How long the printed lines can be, from a number's twenty digits at most.
--     refusal-text-short      of a refusal's line
--     lengths-line-short, summary-line-short     of the first two lines of a table
--     row-line-short, row-lines-short            of a row's line, and of all
--     class-line-short, class-lines-short        of a class's line, and of all
--     table-text-short        of a table
-- Assumes nothing.
use Prim.Native.Nat.{ℕ, suc, ◌+◌, ◌*◌, ◌≤◌}
use mathlib.Core.Path.{◌≡◌}
use mathlib.Core.Bool.{Bool, true, false, cond}
use mathlib.Core.List.{List, [], ◌∷◌, ◌++◌}
use native.Mathlib.Omega.{arith}
use lib.Dec.{eqb}
use lib.ListN.{length, get_or, length-append}
use Rattle.script.specs.declared.refusal.Refusal.{Refusal}
use Rattle.script.specs.Refusals.{number_of, place_of}
use Rattle.table.specs.Summing.{class_count, summary_of_rows}
use Rattle.rows.specs.declared.Row.{Row}
use Rattle.table.specs.declared.summing.Summary.{Summary}
use Rattle.table.proofs.Sums.{classes-length}
use Rattle.text.specs.Decimal.{decimal}
use Rattle.text.proofs.Digits.{decimal-short}
use Rattle.reporting.specs.Lines.{class, line, refusal_text, lengths_line, summary_line, row_line, row_lines, class_line}
use Rattle.reporting.specs.Lines.{class_lines, table_text}

pub refusal-text-short : (r : Refusal) → length (refusal_text r) ≤ 50
refusal-text-short r = simp length-append (omega (arith, decimal-short (number_of r), decimal-short (place_of r)))

pub lengths-line-short : (p q : ℕ) → length (lengths_line p q) ≤ 50
lengths-line-short p q = simp length-append (omega (arith, decimal-short p, decimal-short q))

pub summary-line-short : (count : ℕ) (s : Summary) → length (summary_line count s) ≤ 136
summary-line-short count s =
    simp length-append
    (omega (
      arith,
      decimal-short count,
      decimal-short s.pieces,
      decimal-short s.distinct,
      decimal-short (get_or s.covers 0 0),
      decimal-short (get_or s.covers 1 0),
    ))

pub row-line-short : (r : Row) → length (row_line r) ≤ 86
row-line-short r =
    simp length-append
    (omega (
      arith,
      decimal-short r.number,
      decimal-short r.left_a,
      decimal-short r.left_b,
      decimal-short r.length,
    ))

pub row-lines-short : (rs : List Row) → length (row_lines rs) ≤ 86 * length rs
unfolding row_lines
row-lines-short [] = omega arith
row-lines-short (r ∷ rs) =
    omega (arith, length-append (row_line r) (row_lines rs), row-line-short r, row-lines-short rs)

pub class-line-short : (c n : ℕ) → length (class_line c n) ≤ 48
class-line-short c n = go (eqb n 0)
  where
    go : (b : Bool) → length (cond b [] (line (class ∷ decimal c ∷ decimal n ∷ []))) ≤ 48
    go true = omega arith
    go false = simp length-append (omega (arith, decimal-short c, decimal-short n))

pub class-lines-short : (c : ℕ) (ns : List ℕ) → length (class_lines c ns) ≤ 48 * length ns
unfolding class_lines
class-lines-short c [] = omega arith
class-lines-short c (n ∷ ns) =
    simp length-append (omega (arith, class-line-short c n, class-lines-short (suc c) ns))

length-parts : (a b c d : List ℕ) → length (a ++ b ++ c ++ d) ≡ length a + length b + length c + length d
length-parts a b c d = simp length-append

pub table-text-short : (p q count : ℕ) (rs : List Row) → length (table_text p q count rs) ≤ 1626 + 86 * length rs
table-text-short p q count rs =
    let s = summary_of_rows rs in
    omega (
      arith,
      length-parts (lengths_line p q) (summary_line count s) (row_lines rs) (class_lines 0 s.classes),
      lengths-line-short p q,
      summary-line-short count s,
      row-lines-short rs,
      class-lines-short 0 s.classes,
      classes-length class_count 0 rs,
    )
