-- What is printed can be read back: two different tables never print alike, nor do a table and a refusal.
--     Printable          a row of numbers of 64 bits, whose direction is 0 or 1
--     rows-read-back     tables that print alike have the same rows
--     Said, text_of       what a text says, and the text
--     Sayable            its numbers have 64 bits, and its rows are Printable
--     table-not-refusal  no table prints as a refusal
--     text-read-back     texts that are alike say the same
-- Assumes nothing.
use Prim.Native.Nat.{ℕ, zero, suc, ◌^◌, ◌≤◌, ◌<◌}
use mathlib.Core.Path.{◌≡◌, refl, sym, ap, ap₂, ◌∙◌}
use mathlib.Core.Bool.{Bool, true, false, cond}
use mathlib.Core.List.{List, [], ◌∷◌, ◌++◌, append_assoc}
use mathlib.Core.List.Memᴰ.{head as here}
use mathlib.Core.List.Memᴰ.{tail as there}
use native.Mathlib.Omega.{arith}
use borrow.Author.Tests.{ne_eqb}
use lib.Dec.{eqb}
use lib.ListN.{get_or, take, drop}
use Rattle.refinement.specs.Order.{◌∈◌}
use Rattle.table.specs.Summing.{summary_of_rows}
use Rattle.rows.specs.declared.Row.{Row}
use Rattle.text.specs.Decimal.{decimal}
use Rattle.text.proofs.Reading.{decimal-inj, decimal-cut, decimal-start}
use Rattle.reporting.specs.Lines.{class, refused, sign, line, row_line, row_lines, class_lines, table_text}

-- a row as tables hold them: the numbers have 64 bits, and the direction is one of the two
pub record Printable (r : Row) : Type 0 where
  pub number_fits : r.number < 2 ^ 64
  pub left_a_fits : r.left_a < 2 ^ 64
  pub left_b_fits : r.left_b < 2 ^ 64
  pub length_fits : r.length < 2 ^ 64
  pub a_direction : r.direction < 2

-- every row of a table is
abbrev pub AllPrintable : List Row → Type 0
AllPrintable rs = (r : Row) → r ∈ rs → Printable r

-- ---- a row

signs-differ : (d : ℕ) → sign 0 ≡ sign (suc d) → ⊥
signs-differ d e =
    let minus : sign (suc d) ≡ 45 ∷ [] = rw (ne_eqb (suc d) 0 (omega arith)) in
    let z : ◌≡◌ {A = ℕ} 43 45 = cc in omega arith

sign-inj : (d d' : ℕ) → d < 2 → d' < 2 → sign d ≡ sign d' → d ≡ d'
sign-inj zero zero h h' e = refl
sign-inj zero (suc d') h h' e = absurd (signs-differ d' e)
sign-inj (suc d) zero h h' e = absurd (signs-differ d (sym e))
sign-inj (suc d) (suc d') h h' e = omega arith

row_cut :
    (r r' : Row) {s t : List ℕ} → Printable r → Printable r' → row_line r ++ s ≡ row_line r' ++ t → (r ≡ r') × (s ≡ t)
row_cut r r' {s} {t} h h' e =
    let a = decimal-cut r.number r'.number (omega arith) (simp append_assoc at e) in
    let b = decimal-cut r.left_a r'.left_a (omega arith) a.1 in
    let c = decimal-cut r.left_b r'.left_b (omega arith) b.1 in
    let d = decimal-cut r.length r'.length (omega arith) c.1 in
    let number = decimal-inj h.number_fits h'.number_fits a.0 in
    let on_a = decimal-inj h.left_a_fits h'.left_a_fits b.0 in
    let on_b = decimal-inj h.left_b_fits h'.left_b_fits c.0 in
    let letters = decimal-inj h.length_fits h'.length_fits d.0 in
    let direction = sign-inj r.direction r'.direction h.a_direction h'.a_direction (ap (take 1) d.1) in (
      λ i. record {
        number = number i;
        left_a = on_a i;
        left_b = on_b i;
        length = letters i;
        direction = direction i;
      },
      ap (drop 2) d.1,
    )

-- ---- the rows

-- the first byte; behind the rows the text goes on with `c`, which is 99, or ends
abbrev first : List ℕ → ℕ
first text = get_or text 0 99

classes-first : (c : ℕ) (ns : List ℕ) → first (class_lines c ns) ≡ 99
unfolding class_lines
classes-first c [] = refl
classes-first c (n ∷ ns) = go (eqb n 0) (classes-first (suc c) ns)
  where
    go : (empty : Bool) → first (class_lines (suc c) ns) ≡ 99
        → first (cond empty [] (line (class ∷ decimal c ∷ decimal n ∷ [])) ++ class_lines (suc c) ns) ≡ 99
    go true h = h
    go false h = refl

row_first : (r : Row) (rs : List Row) (s : List ℕ) → first (row_lines (r ∷ rs) ++ s) ≤ 57
unfolding row_lines
row_first r rs s = simp append_assoc (decimal-start r.number _ 32 99 (omega arith))

rows_cut :
    (rs rs' : List Row) (s t : List ℕ) → AllPrintable rs → AllPrintable rs' → first s ≡ 99 → first t ≡ 99
    → row_lines rs ++ s ≡ row_lines rs' ++ t → rs ≡ rs'
unfolding row_lines
rows_cut [] [] s t h h' c c' e = refl
rows_cut [] (r' ∷ rs') s t h h' c c' e = absurd (omega (arith, c, ap first e, row_first r' rs' t))
rows_cut (r ∷ rs) [] s t h h' c c' e = absurd (omega (arith, c', ap first e, row_first r rs s))
rows_cut (r ∷ rs) (r' ∷ rs') s t h h' c c' e =
    let both = sym (append_assoc (row_line r) (row_lines rs) s) ∙ e ∙ append_assoc (row_line r') (row_lines rs') t in
    let cut = row_cut r r' (h r (here refl)) (h' r' (here refl)) both in
    ap₂ ◌∷◌ cut.0 (rows_cut rs rs' s t (λ x i. h x (there i)) (λ x i. h' x (there i)) c c' cut.1)

-- ---- the whole text

-- the lines behind the first two
abbrev lower : List Row → List ℕ
lower rs = row_lines rs ++ class_lines 0 (summary_of_rows rs).classes

table-cut :
    (p q count p' q' count' : ℕ) (rs rs' : List Row) → table_text p q count rs ≡ table_text p' q' count' rs'
    → (decimal p ≡ decimal p') × (decimal q ≡ decimal q') × (decimal count ≡ decimal count') × (lower rs ≡ lower rs')
table-cut p q count p' q' count' rs rs' e =
    let s = summary_of_rows rs in
    let s' = summary_of_rows rs' in
    let a = decimal-cut p p' (omega arith) (ap (drop 8) (simp append_assoc at e)) in
    let b = decimal-cut q q' (omega arith) a.1 in
    let c = decimal-cut count count' (omega arith) (ap (drop 8) b.1) in
    let d = decimal-cut s.pieces s'.pieces (omega arith) (ap (drop 7) c.1) in
    let f = decimal-cut s.distinct s'.distinct (omega arith) (ap (drop 9) d.1) in
    let g = decimal-cut (get_or s.covers 0 0) (get_or s'.covers 0 0) (omega arith) (ap (drop 7) f.1) in
    let h = decimal-cut (get_or s.covers 1 0) (get_or s'.covers 1 0) (omega arith) g.1 in
    (a.0, b.0, c.0, h.1)

pub rows-read-back :
    (p q count p' q' count' : ℕ) (rs rs' : List Row) → AllPrintable rs → AllPrintable rs'
    → table_text p q count rs ≡ table_text p' q' count' rs' → rs ≡ rs'
rows-read-back p q count p' q' count' rs rs' h h' e =
    let classes = (summary_of_rows rs).classes in
    let classes' = (summary_of_rows rs').classes in
    rows_cut rs rs' (class_lines 0 classes) (class_lines 0 classes') h h' (classes-first 0 classes)
    (classes-first 0 classes') (table-cut p q count p' q' count' rs rs' e).3

-- ---- what a text says

-- "prints the table and its summary", or "one line: `refused`, the number and the place"; the rows have the summary
pub data Said : Type 0 where
  table : (p q count : ℕ) → List Row → Said
  refusal : (number place : ℕ) → Said

abbrev pub text_of : Said → List ℕ
text_of (table p q count rs) = table_text p q count rs
text_of (refusal number place) = line (refused ∷ decimal number ∷ decimal place ∷ [])

abbrev pub Sayable : Said → Type 0
Sayable (table p q count rs) = (p < 2 ^ 64) × (q < 2 ^ 64) × (count < 2 ^ 64) × AllPrintable rs
Sayable (refusal number place) = (number < 2 ^ 64) × (place < 2 ^ 64)

-- a table starts with `l` and a refusal with `r`
pub table-not-refusal : (p q count number place : ℕ) (rs : List Row)
    → text_of (table p q count rs) ≡ text_of (refusal number place) → ⊥
table-not-refusal p q count number place rs e = omega (arith, ap first e)

pub text-read-back : (a b : Said) → Sayable a → Sayable b → text_of a ≡ text_of b → a ≡ b
text-read-back (table p q count rs) (table p' q' count' rs') h h' e =
    let cut = table-cut p q count p' q' count' rs rs' e in
    let rows = rows-read-back p q count p' q' count' rs rs' h.3 h'.3 e in
    λ i. table (decimal-inj h.0 h'.0 cut.0 i) (decimal-inj h.1 h'.1 cut.1 i)
    (decimal-inj h.2 h'.2 cut.2 i) (rows i)
text-read-back (table p q count rs) (refusal number place) h h' e =
    absurd (table-not-refusal p q count number place rs e)
text-read-back (refusal number place) (table p q count rs) h h' e =
    absurd (table-not-refusal p q count number place rs (sym e))
text-read-back (refusal number place) (refusal number' place') h h' e =
    let a = decimal-cut number number' (omega arith) (ap (drop 8) e) in
    let b = decimal-cut place place' (omega arith) a.1 in
    ap₂ refusal (decimal-inj h.0 h'.0 a.0) (decimal-inj h.1 h'.1 b.0)
