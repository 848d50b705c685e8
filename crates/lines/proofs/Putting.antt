-- What is put is a text, if its words and lines are put one behind the other.
--     put_three, put-nine     lines of so many words
--     put_refused          the line of a refusal
--     put-parts            the text of a table
--     classes-put-more     the lines of the first classes with one more
-- Assumes nothing.
use Prim.Native.Nat.{ℕ, suc, ◌+◌, ◌<◌}
use mathlib.Core.Path.{◌≡◌, sym, ap, ◌∙◌}
use mathlib.Core.List.{List, [], ◌∷◌, ◌++◌, append_assoc, append-nil}
use native.Mathlib.Omega.{arith}
use native.Mathlib.Nat.{add-zero}
use native.Mathlib.Numerals.{add-one}
use lib.ListN.{length, get_or, take}
use lib.Seq.{take-suc, length-take-le}
use Rattle.script.specs.Refusals.{number_of, place_of}
use Rattle.script.specs.declared.refusal.Refusal.{Refusal}
use Rattle.table.specs.Summing.{summary_of_rows}
use Rattle.rows.specs.declared.Row.{Row}
use Rattle.table.specs.declared.summing.Summary.{Summary}
use Rattle.text.specs.Decimal.{decimal}
use Rattle.text.specs.Putting.{Put}
use Rattle.text.proofs.Stores.{put_then, put_same}
use Rattle.reporting.specs.Lines.{refused, line, refusal_text, lengths_line, summary_line, row_lines}
use Rattle.reporting.specs.Lines.{class_line, class_lines, table_text}

-- ---- lines

pub put_three : (w a b t₀ t₁ t₂ : List ℕ) (k₀ k₁ k₂ : ℕ) → Put ((w ++ 32 ∷ []) ++ (a ++ 32 ∷ [])) t₀ k₀ t₁ k₁
    → Put (b ++ 10 ∷ []) t₁ k₁ t₂ k₂
    → Put (line (w ∷ a ∷ b ∷ [])) t₀ k₀ t₂ k₂
put_three w a b t₀ t₁ t₂ k₀ k₁ k₂ p q = put_same (simp append_assoc) (put_then p q)

pub put_refused :
    (r : Refusal) {n p k₀ k₁ k₂ : ℕ} {t₀ t₁ t₂ : List ℕ} → n ≡ number_of r → p ≡ place_of r
    → Put ((refused ++ 32 ∷ []) ++ (decimal n ++ 32 ∷ [])) t₀ k₀ t₁ k₁
    → Put (decimal p ++ 10 ∷ []) t₁ k₁ t₂ k₂
    → Put (refusal_text r) t₀ k₀ t₂ k₂
put_refused r {n} {p} number place x y =
    rw (← number, ← place) (put_three refused (decimal n) (decimal p) _ _ _ _ _ _ x y)

pub put-nine :
    (v w x y a b c d e t₀ t₁ t₂ t₃ t₄ : List ℕ) (k₀ k₁ k₂ k₃ k₄ : ℕ)
    → Put ((v ++ 32 ∷ []) ++ (a ++ 32 ∷ [])) t₀ k₀ t₁ k₁
    → Put ((w ++ 32 ∷ []) ++ (b ++ 32 ∷ [])) t₁ k₁ t₂ k₂
    → Put ((x ++ 32 ∷ []) ++ (c ++ 32 ∷ [])) t₂ k₂ t₃ k₃
    → Put (line (y ∷ d ∷ e ∷ [])) t₃ k₃ t₄ k₄
    → Put (line (v ∷ a ∷ w ∷ b ∷ x ∷ c ∷ y ∷ d ∷ e ∷ [])) t₀ k₀ t₄ k₄
put-nine v w x y a b c d e t₀ t₁ t₂ t₃ t₄ k₀ k₁ k₂ k₃ k₄ p q r s =
    put_same (simp append_assoc) (put_then (put_then (put_then p q) r) s)

pub put-parts :
    (p q count : ℕ) (rs : List Row) {s : Summary} {t₀ t₁ t₂ t₃ t₄ : List ℕ} {k₁ k₂ k₃ k₄ : ℕ} → s ≡ summary_of_rows rs
    → Put (lengths_line p q) t₀ 0 t₁ k₁
    → Put (summary_line count s) t₁ k₁ t₂ k₂
    → Put (row_lines rs) t₂ k₂ t₃ k₃
    → Put (class_lines 0 s.classes) t₃ k₃ t₄ k₄
    → Put (table_text p q count rs) t₀ 0 t₄ k₄
put-parts p q count rs e a b c d =
    let text : Summary → List ℕ =
    λ s. lengths_line p q ++ summary_line count s ++ row_lines rs ++ class_lines 0 s.classes in
    put_same (ap text e) (put_then (put_then (put_then a b) c) d)

-- ---- one line more

class-lines-last : (c : ℕ) (ns : List ℕ) (n : ℕ)
    → class_lines c (ns ++ n ∷ []) ≡ class_lines c ns ++ class_line (c + length ns) n
unfolding class_lines
class-lines-last c [] n = simp (append-nil, add-zero)
class-lines-last c (x ∷ ns) n =
    rw (class-lines-last (suc c) ns n)
    (sym (append_assoc (class_line c x) (class_lines (suc c) ns) (class_line (suc c + length ns) n))
    ∙ ap (λ (k : ℕ). class_line c x ++ class_lines (suc c) ns ++ class_line k n) (omega arith))

class-lines-more : (ns : List ℕ) (k : ℕ) → k < length ns
    → class_lines 0 (take k ns) ++ class_line k (get_or ns k 0) ≡ class_lines 0 (take (k + 1) ns)
class-lines-more ns k h =
    let here : 0 + length (take k ns) ≡ k = omega (arith, length-take-le k ns (omega arith)) in
    rw (add-one, take-suc ns k 0)
    (sym (class-lines-last 0 (take k ns) (get_or ns k 0)
    ∙ ap (λ (j : ℕ). class_lines 0 (take k ns) ++ class_line j (get_or ns k 0)) here))

-- ---- one line more, as a loop meets it

pub classes-put-more :
    (ns : List ℕ) (k : ℕ) {t₀ t₁ t₂ : List ℕ} {k₀ k₁ k₂ : ℕ} → k < length ns
    → Put (class_lines 0 (take k ns)) t₀ k₀ t₁ k₁
    → Put (class_line k (get_or ns k 0)) t₁ k₁ t₂ k₂
    → Put (class_lines 0 (take (k + 1) ns)) t₀ k₀ t₂ k₂
classes-put-more ns k h p q = put_same (class-lines-more ns k h) (put_then p q)
