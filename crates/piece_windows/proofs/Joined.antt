-- Spans side by side: what stands before a span and what lies in it.
--     span-open       before an unclosed span or in it are all pieces
--     span-closed     before a closed span or in it are the pieces before its end
-- Assumes nothing.
use Prim.Native.Nat.{◌+◌}
use mathlib.Core.Bool.{Bool, true, false, cond, not, ◌&&◌}
use mathlib.Core.Logic.{⊎_elim}
use mathlib.Core.Path.{◌≡◌, refl}
use Rattle.sorted_pieces.specs.Order.{before}
use Rattle.piece_windows.specs.Windows.{in_span}
use Rattle.rows.specs.declared.Row.{Row}
use Rattle.piece_windows.specs.declared.Span.{Span}
use Rattle.table.proofs.Pieces.{never_both}
use Rattle.sorted_pieces.proofs.Order.{before-trans, before_same, before-total}

module _ (span : Span) (r : Row) where
  pub span-open : span.closed ≡ false → cond (before r span.from) 1 0 + cond (in_span span r) 1 0 ≡ 1
  unfolding in_span
  span-open e = rw e (go (before r span.from))
    where
      go : (b : Bool) → cond b 1 0 + cond (not b && true) 1 0 ≡ 1
      go true = refl
      go false = refl

  pub span-closed : span.closed ≡ true → before span.to span.from ≡ false
      → cond (before r span.from) 1 0 + cond (in_span span r) 1 0 ≡ cond (before r span.to) 1 0
  unfolding in_span
  span-closed e forward = rw e (go (before r span.from) (before r span.to) further)
    where
      further : before r span.from ≡ true → before r span.to ≡ true
      further b =
          ⊎_elim (before-trans r span.from span.to b)
          (⊎_elim (before_same r span.from span.to b) (λ back. absurd (never_both back forward)))
          (before-total span.from span.to)

      go : (a b : Bool) → (a ≡ true → b ≡ true) → cond a 1 0 + cond (not a && b) 1 0 ≡ cond b 1 0
      go true true h = refl
      go true false h = absurd (never_both (h refl) refl)
      go false true h = refl
      go false false h = refl
