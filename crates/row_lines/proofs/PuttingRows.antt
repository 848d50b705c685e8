-- The line of a row is put word by word, and the lines of the rows one behind the other.
--     put-none             nothing is put
--     put_five             a line of five words
--     row-lines-more       the lines of the first rows, with one more
-- Assumes nothing.
use Prim.Native.Nat.{ℕ, ◌+◌, ◌<◌}
use mathlib.Core.Path.{◌≡◌, refl, sym}
use mathlib.Core.List.{List, [], ◌∷◌, ◌++◌, append_assoc, append-nil}
use native.Mathlib.Omega.{arith}
use lib.ListN.{length, take}
use Rattle.rows.specs.Rows.{row_at}
use Rattle.rows.specs.declared.Row.{Row}
use Rattle.rows.proofs.TableRows.{take_more}
use Rattle.text.specs.Putting.{Put}
use Rattle.text.proofs.Stores.{put_then, put_same}
use Rattle.reporting.specs.Lines.{line, row_line, row_lines}

pub put-none : (t : List ℕ) (at : ℕ) → Put [] t at t at
put-none t at = record { place = omega arith; stored = refl }

pub put_five :
    {t₀ t₁ t₂ t₃ t₄ t₅ : List ℕ} {k₀ k₁ k₂ k₃ k₄ k₅ : ℕ} (a b c d e : List ℕ) → Put (a ++ 32 ∷ []) t₀ k₀ t₁ k₁
    → Put (b ++ 32 ∷ []) t₁ k₁ t₂ k₂
    → Put (c ++ 32 ∷ []) t₂ k₂ t₃ k₃
    → Put (d ++ 32 ∷ []) t₃ k₃ t₄ k₄
    → Put (e ++ 10 ∷ []) t₄ k₄ t₅ k₅
    → Put (line (a ∷ b ∷ c ∷ d ∷ e ∷ [])) t₀ k₀ t₅ k₅
put_five a b c d e p q r s u = put_same (simp append_assoc) (put_then (put_then (put_then (put_then p q) r) s) u)

row-lines-last : (rs : List Row) (r : Row) → row_lines (rs ++ r ∷ []) ≡ row_lines rs ++ row_line r
unfolding row_lines
row-lines-last [] r = append-nil (row_line r)
row-lines-last (x ∷ rs) r = rw (row-lines-last rs r) (sym (append_assoc (row_line x) (row_lines rs) (row_line r)))

pub row-lines-more : (rs : List Row) (k : ℕ) {r : Row} → k < length rs → r ≡ row_at rs k
    → row_lines (take k rs) ++ row_line r ≡ row_lines (take (k + 1) rs)
row-lines-more rs k h e = rw (e, take_more rs k h) (sym (row-lines-last (take k rs) (row_at rs k)))
