-- `gather` meets its contract. The loop keeps `Filling`: what is gathered are rows of the span, and if the step is one,
-- all its pieces among the first k rows. Assumes nothing.
use mathlib.Core.Path.{sym, ◌∙◌}
use native.Mathlib.Omega.{arith}
use borrow.Author.Rules.{rules}
use Rattle.rows.proofs.TableRows.{rows-length}
use Rattle.piece_windows.proofs.Gathering.{filling-other, filling-one}
use Rattle.piece_windows.proofs.Gathering.{filling-roomier}
use Rattle.piece_windows.proofs.gather.Goals as goal

pub loop-k-preserved-then-used-numbers : goal.loop-k-preserved-then-used-numbers
loop-k-preserved-then-used-numbers c =
    filling-roomier c.loop-k.invariant (omega arith) c.make_room-shorter.ensures (search rules) (search rules)

pub overflow_add-k : goal.overflow_add-k
overflow_add-k c =
    omega (arith, c.requires.step_nonzero, rows-length c.args.table.now)

pub loop-k-preserved-then-is_in_span : goal.loop-k-preserved-then-is_in_span
loop-k-preserved-then-is_in_span c =
    let it = rw c.row_at.ensures at (sym c.is_in_span.ensures ∙ c.if-is_in_span.true) in
    filling-one c.loop-k.invariant (omega arith) (omega (arith, c.loop-k.invariant.gathered.within)) it

pub loop-k-preserved : goal.loop-k-preserved
loop-k-preserved c =
    let other = rw c.row_at.ensures at (sym c.is_in_span.ensures ∙ c.if-is_in_span.false) in
    filling-other c.loop-k.invariant (omega arith) other
