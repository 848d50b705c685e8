-- Pieces counted window by window.
--     sorted-counts, sorted-spanned     a window's numbers, once they are sorted, are as many as its pieces
--     Sized numbers spare               the lengths of the two arrays
--     Passed rs from found              the pieces before `from` are counted
--     passed-starts                     none before four zeros
--     passed-more, passed-less          after a closed window, and there is less to do
--     passed-all                        after a window that is not closed
--     passed-bound                      no more pieces than rows
-- Assumes nothing.
use Prim.Native.Nat.{ℕ, ◌+◌, ◌-◌, ◌≤◌, ◌<◌}
use mathlib.Core.Bool.{Bool, true, false, not, not-not}
use mathlib.Core.Path.{◌≡◌, refl, sym, ap, ◌∙◌}
use mathlib.Core.List.{List, []}
use native.Mathlib.Omega.{arith}
use lib.ListN.{length, take, replicate}
use lib.Seq.{take-length}
use Rattle.table.specs.Distinct.{first_of_each, piece_of}
use Rattle.table.specs.Summing.{count}
use Rattle.sorted_pieces.specs.Order.{before, Sorted}
use Rattle.piece_windows.specs.Windows.{in_span, Spanned, Gathered, Counted}
use Rattle.rows.specs.declared.Row.{Row}
use Rattle.piece_windows.specs.declared.Span.{Span}
use Rattle.piece_windows.specs.declared.Window.{Window}
use Rattle.table.proofs.Counting.{count-inside, count-agrees, count-every, count-no-one, count-joined}
use Rattle.table.proofs.Pieces.{firsts-inside}
use Rattle.sorted_pieces.proofs.Order.{nothing-before}
use Rattle.piece_windows.proofs.Parts.{among-taken, taken-among, taken-length}
use Rattle.piece_windows.proofs.Rising.{rising-count}
use Rattle.piece_windows.proofs.Room.{sorted-some}
use Rattle.piece_windows.proofs.Joined.{span-open, span-closed}

-- ---- one window

module _ {rs : List Row} {ns ns' : List ℕ} {used c : ℕ} {span : Span} (g : Gathered rs (length rs) ns used span)
    (s : Sorted rs (take used ns) ns' c) where
  pub sorted-counts : c ≡ count (in_span span) (first_of_each rs)
  sorted-counts =
      rising-count rs ns' c (in_span span) s.named s.rising
      (λ r a. g.inside r (taken-among rs ns used g.within r (s.of_them r a)))
      (λ r e o.
      let gathered = g.complete r e (rw (take-length rs) o) in
      s.all r (among-taken rs ns used g.within r gathered))

  pub sorted-spanned : Spanned c span
  sorted-spanned =
      record {
        some = λ e. sorted-some s (omega (arith, taken-length g, g.spanned.some e));
        forward = g.spanned.forward;
      }

-- ---- windows on each other

-- the two arrays of a count in windows
pub record Sized (numbers spare : List ℕ) : Type 0 where
  pub numbers_room : length numbers ≡ 8192
  pub spare_room : length spare ≡ 8192

pub record Passed (rs : List Row) (from : Row) (found : ℕ) : Type 0 where
  pub counted : found ≡ count (λ r. before r from) (first_of_each rs)

pub passed-starts : (rs : List Row) (from : Row) → piece_of from ≡ replicate 4 0 → Passed rs from 0
passed-starts rs from zeros =
    let none = count-agrees (λ r. before r from) false (λ r. nothing-before r from zeros) (first_of_each rs) in
    record { counted = sym (none ∙ count-no-one (first_of_each rs)) }

turned : {b d : Bool} → not b ≡ d → b ≡ not d
turned {b} e = sym (not-not b) ∙ ap not e

module _ {rs : List Row} {from : Row} {found : ℕ} (w : Window) (p : Passed rs from found) (c : Counted rs from w) where
  pub passed-all : not w.span.closed ≡ true → found + w.used ≡ length (first_of_each rs)
  passed-all e =
      let joined = count-joined (λ r. before r w.span.from) (in_span w.span) (λ r. true)
      (λ r. span-open w.span r (turned e)) (first_of_each rs) in
      omega (arith, rw (← c.start) at p.counted, c.counted, joined, count-every (first_of_each rs))

  module _ (e : not w.span.closed ≡ false) where
    pub passed-more : Passed rs w.span.to (found + w.used)
    passed-more =
        let joined = count-joined (λ r. before r w.span.from) (in_span w.span) (λ r. before r w.span.to)
        (λ r. span-closed w.span r (turned e) (c.spanned.forward (turned e))) (first_of_each rs) in
        record { counted = omega (arith, rw (← c.start) at p.counted, c.counted, joined) }

    closed-bound : found + w.used ≤ length (first_of_each rs)
    closed-bound =
        omega (arith, passed-more.counted, count-inside (λ r. before r w.span.to) (first_of_each rs))

    pub passed-less : length (first_of_each rs) - (found + w.used) < length (first_of_each rs) - found
    passed-less = omega (arith, closed-bound, c.spanned.some (turned e))

  pub passed-bound : found + w.used ≤ length rs
  passed-bound = omega (arith, either (not w.span.closed) refl, firsts-inside [] rs)
    where
      either : (b : Bool) → not w.span.closed ≡ b → found + w.used ≤ length (first_of_each rs)
      either true e = omega (arith, passed-all e)
      either false e = closed-bound e
