-- What a printed text shows, number by number from left to right, as a reader would find it.
--     first_fours         of every five numbers the first four: the direction is shown by a sign
--     classes_shown       each class that has pieces with its count, rising
--     table-shown        a table's text shows p and q, the count of matches, the summary, the rows and the classes
--     refusal-shown      a refusal's text shows its number and its place
-- Not here: words and signs, which the printed lines of `vectors` have letter by letter. Assumes nothing.
use Prim.Native.Nat.{ℕ, zero, suc, ◌+◌, ◌/◌, ◌^◌, ◌<◌}
use mathlib.Core.Path.{◌≡◌, refl, ap, ◌∙◌}
use mathlib.Core.Bool.{Bool, true, false, cond}
use mathlib.Core.List.{List, [], ◌∷◌, ◌++◌, append_assoc}
use native.Mathlib.Omega.{arith}
use borrow.Author.Tests.{ne_eqb}
use lib.ListN.{length, get_or, drop}
use lib.Seq.{get_or-drop}
use lib.Dec.{eqb}
use Rattle.script.specs.Refusals.{number_of, place_of}
use Rattle.script.specs.declared.refusal.Refusal.{Refusal}
use Rattle.refinement.specs.declared.Side.TheVariants.{A, B}
use Rattle.rows.specs.Rows.{row_width, row_of, first_rows, rows_of}
use Rattle.table.specs.Covering.{cover_of}
use Rattle.table.specs.Summing.{class_count, summary_of}
use Rattle.rows.specs.declared.Row.{Row}
use Rattle.table.specs.declared.summing.Summary.{Summary}
use Rattle.table.proofs.Laws.{sum_of, distinct-inside, classes-inside, covers-fit}
use Rattle.table.proofs.Sums.{classes-length}
use Rattle.rows.proofs.TableRows.{rows-length}
use Rattle.text.specs.Decimal.{decimal}
use Rattle.text.proofs.Reading.{shown, shown-decimal}
use Rattle.reporting.specs.Lines.{class, line, lengths_line, summary_line, row_line, row_lines, class_lines, table_text}
use Rattle.reporting.specs.Lines.{refusal_text}

-- ---- what is shown

unfoldable pub first_fours : ℕ → List ℕ → List ℕ
first_fours zero t = []
first_fours (suc n) t = get_or t 0 0 ∷ get_or t 1 0 ∷ get_or t 2 0 ∷ get_or t 3 0 ∷ first_fours n (drop 5 t)

-- "the classes that aren't empty, rising, with their counts": ns are the counts from class c on
unfoldable pub classes_shown : ℕ → List ℕ → List ℕ
classes_shown c [] = []
classes_shown c (zero ∷ ns) = classes_shown (suc c) ns
classes_shown c (suc n ∷ ns) = c ∷ suc n ∷ classes_shown (suc c) ns

-- ---- lines

-- a number and the byte behind it are read off
module _ (rest : List ℕ) {ns : List ℕ} (later : shown rest ≡ ns) where
  lengths-shown : (p q : ℕ) → p < 2 ^ 64 → q < 2 ^ 64 → shown (lengths_line p q ++ rest) ≡ p ∷ q ∷ ns
  lengths-shown p q hp hq =
      simp append_assoc
      (shown-decimal p _ 32 hp (omega arith)
      ∙ ap (λ (l : List ℕ). p ∷ l) (shown-decimal q _ 10 hq (omega arith) ∙ ap (λ (l : List ℕ). q ∷ l) later))

  summary-shown : (count : ℕ) (s : Summary) → count < 2 ^ 64 → s.pieces < 2 ^ 64 → s.distinct < 2 ^ 64
      → get_or s.covers 0 0 < 2 ^ 64 → get_or s.covers 1 0 < 2 ^ 64
      → shown (summary_line count s ++ rest)
      ≡ count ∷ s.pieces ∷ s.distinct ∷ get_or s.covers 0 0 ∷ get_or s.covers 1 0 ∷ ns
  summary-shown count s a b c d e =
      simp append_assoc
      (shown-decimal count _ 32 a (omega arith)
      ∙ ap (λ (l : List ℕ). count ∷ l)
      (shown-decimal s.pieces _ 32 b (omega arith)
      ∙ ap (λ (l : List ℕ). s.pieces ∷ l)
      (shown-decimal s.distinct _ 32 c (omega arith)
      ∙ ap (λ (l : List ℕ). s.distinct ∷ l)
      (shown-decimal (get_or s.covers 0 0) _ 32 d (omega arith)
      ∙ ap (λ (l : List ℕ). get_or s.covers 0 0 ∷ l)
      (shown-decimal (get_or s.covers 1 0) _ 10 e (omega arith)
      ∙ ap (λ (l : List ℕ). get_or s.covers 1 0 ∷ l) later)))))

  sign-shown : (plus : Bool) → shown (cond plus 43 45 ∷ 10 ∷ rest) ≡ ns
  sign-shown true = later
  sign-shown false = later

  row-shown : (r : Row) → r.number < 2 ^ 64 → r.left_a < 2 ^ 64 → r.left_b < 2 ^ 64 → r.length < 2 ^ 64
      → shown (row_line r ++ rest) ≡ r.number ∷ r.left_a ∷ r.left_b ∷ r.length ∷ ns
  row-shown r a b c d =
      simp append_assoc
      (shown-decimal r.number _ 32 a (omega arith)
      ∙ ap (λ (l : List ℕ). r.number ∷ l)
      (shown-decimal r.left_a _ 32 b (omega arith)
      ∙ ap (λ (l : List ℕ). r.left_a ∷ l)
      (shown-decimal r.left_b _ 32 c (omega arith)
      ∙ ap (λ (l : List ℕ). r.left_b ∷ l)
      (shown-decimal r.length _ 32 d (omega arith)
      ∙ ap (λ (l : List ℕ). r.length ∷ l) (sign-shown (eqb r.direction 0))))))

  class-shown : (c n : ℕ) → c < 2 ^ 64 → n < 2 ^ 64
      → shown (line (class ∷ decimal c ∷ decimal n ∷ []) ++ rest) ≡ c ∷ n ∷ ns
  class-shown c n a b =
      simp append_assoc
      (shown-decimal c _ 32 a (omega arith)
      ∙ ap (λ (l : List ℕ). c ∷ l) (shown-decimal n _ 10 b (omega arith) ∙ ap (λ (l : List ℕ). n ∷ l) later))

rows-shown : (n : ℕ) (t rest : List ℕ) {ns : List ℕ} → ((k : ℕ) → get_or t k 0 < 2 ^ 64) → shown rest ≡ ns
    → shown (row_lines (first_rows n t) ++ rest) ≡ first_fours n t ++ ns
unfolding row_lines first_rows first_fours
rows-shown zero t rest fits later = later
rows-shown (suc n) t rest fits later =
    let after = drop row_width t in
    let next = rows-shown n after rest (λ k. rw get_or-drop (fits (row_width + k))) later in
    ap shown (append_assoc (row_line (row_of t)) (row_lines (first_rows n after)) rest)
    ∙ row-shown (row_lines (first_rows n after) ++ rest) next (row_of t) (fits 0) (fits 1) (fits 2) (fits 3)

classes-shown : (c : ℕ) (ns : List ℕ) → c + length ns < 2 ^ 64 → sum_of ns < 2 ^ 64
    → shown (class_lines c ns) ≡ classes_shown c ns
unfolding class_lines classes_shown sum_of
classes-shown c [] few small = refl
classes-shown c (zero ∷ ns) few small = classes-shown (suc c) ns (omega arith) (omega arith)
classes-shown c (suc n ∷ ns) few small =
    rw (ne_eqb (suc n) 0 (omega arith))
    (class-shown (class_lines (suc c) ns) (classes-shown (suc c) ns (omega arith) (omega arith)) c (suc n) (omega arith)
    (omega arith))

-- ---- texts

all-rows-shown : (t rest : List ℕ) {ns : List ℕ} → ((k : ℕ) → get_or t k 0 < 2 ^ 64) → shown rest ≡ ns
    → shown (row_lines (rows_of t) ++ rest) ≡ first_fours (length t / 5) t ++ ns
unfolding rows_of
all-rows-shown t rest fits later = rows-shown (length t / row_width) t rest fits later

parts : (a b c d : List ℕ) → a ++ b ++ c ++ d ≡ a ++ (b ++ (c ++ d))
parts a b c d = simp append_assoc

pub table-shown :
    (p q count : ℕ) (t : List ℕ) → p < 2 ^ 64 → q < 2 ^ 64 → count < 2 ^ 64 → length t < 2 ^ 64
    → ((k : ℕ) → get_or t k 0 < 2 ^ 32)
    → shown (table_text p q count (rows_of t))
    ≡ p ∷ q ∷ count ∷ (summary_of t).pieces ∷ (summary_of t).distinct ∷ cover_of A (rows_of t) ∷ cover_of B (rows_of t)
    ∷ first_fours (length t / 5) t ++ classes_shown 0 (summary_of t).classes
table-shown p q count t hp hq hcount small fits =
    let s = summary_of t in
    let few = rows-length t in
    let classes = classes-shown 0 s.classes (omega (arith, classes-length class_count 0 (rows_of t)))
    (omega (arith, classes-inside t)) in
    let below = class_lines 0 s.classes in
    let rows = all-rows-shown t below (λ k. omega (arith, fits k)) classes in
    let middle = row_lines (rows_of t) ++ below in
    let counts =
    summary-shown middle rows count s hcount (omega arith) (omega (arith, distinct-inside t))
    (omega (arith, covers-fit A t fits)) (omega (arith, covers-fit B t fits)) in
    ap shown (parts (lengths_line p q) (summary_line count s) (row_lines (rows_of t)) below)
    ∙ lengths-shown (summary_line count s ++ middle) counts p q hp hq

pub refusal-shown : (r : Refusal) → number_of r < 2 ^ 64 → place_of r < 2 ^ 64
    → shown (refusal_text r) ≡ number_of r ∷ place_of r ∷ []
refusal-shown r a b =
    shown-decimal (number_of r) _ 32 a (omega arith)
    ∙ ap (λ (l : List ℕ). number_of r ∷ l) (shown-decimal (place_of r) [] 10 b (omega arith))
