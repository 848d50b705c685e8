-- What it is to lie in a span.
--     span-start, span-end     a piece of a span stands not before its start, and before its end if it is closed
--     span-is                  and such a piece is in the span
--     in-span-same             rows of the same piece are in one span
-- Assumes nothing.
use mathlib.Core.Bool.{Bool, true, false, not, ◌&&◌, ◌||◌, false≢true}
use mathlib.Core.Path.{◌≡◌, refl, sym}
use Rattle.table.specs.Distinct.{same}
use Rattle.sorted_pieces.specs.Order.{before}
use Rattle.piece_windows.specs.Windows.{in_span}
use Rattle.rows.specs.declared.Row.{Row}
use Rattle.piece_windows.specs.declared.Span.{Span}
use Rattle.table.proofs.Pieces.{same_numbers}

first-test : (a c b : Bool) → (not a && (not c || b)) ≡ true → a ≡ false
first-test true c b e = absurd (false≢true e)
first-test false c b e = refl

second-test : (a c b : Bool) → (not a && (not c || b)) ≡ true → c ≡ true → b ≡ true
second-test true c b e l = absurd (false≢true e)
second-test false true b e l = e
second-test false false b e l = absurd (false≢true l)

both-tests : (a c b : Bool) → a ≡ false → (c ≡ true → b ≡ true) → (not a && (not c || b)) ≡ true
both-tests true c b e h = absurd (false≢true (sym e))
both-tests false true b e h = h refl
both-tests false false b e h = refl

module _ (span : Span) (r : Row) where
  pub span-start : in_span span r ≡ true → before r span.from ≡ false
  unfolding in_span
  span-start e = first-test (before r span.from) span.closed (before r span.to) e

  pub span-end : in_span span r ≡ true → span.closed ≡ true → before r span.to ≡ true
  unfolding in_span
  span-end e l = second-test (before r span.from) span.closed (before r span.to) e l

  pub span-is : before r span.from ≡ false → (span.closed ≡ true → before r span.to ≡ true)
      → in_span span r ≡ true
  unfolding in_span
  span-is e h = both-tests (before r span.from) span.closed (before r span.to) e h

pub in-span-same : (span : Span) (r s : Row) → same r s ≡ true → in_span span r ≡ in_span span s
unfolding in_span before
in-span-same span r s e = rw (same_numbers r s e)
