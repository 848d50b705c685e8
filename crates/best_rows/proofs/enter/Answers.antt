-- The middle is behind the place, or the row is entered there.
-- Assumes nothing.
use Rattle.best_rows.proofs.Entering.{entering-first, entering-later, entering-end}
use Rattle.best_rows.proofs.enter.Goals as goal

pub loop-lo-preserved-then-place-mid : goal.loop-lo-preserved-then-place-mid
loop-lo-preserved-then-place-mid c =
    entering-first c.loop-lo.invariant c.loop-lo-test.true c.if-place-mid.true

pub loop-lo-preserved : goal.loop-lo-preserved
loop-lo-preserved c =
    entering-later c.loop-lo.invariant c.loop-lo-test.true c.requires.count_in_bounds c.requires.le_number.0
    c.requires.le_number.1 c.if-place-mid.false c.better.ensures

pub returns : goal.returns
returns c =
    entering-end c.loop-lo.invariant c.loop-lo-test.false
