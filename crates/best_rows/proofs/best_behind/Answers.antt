-- The middle is behind the place, and its best row is taken in, or it is not.
-- Assumes nothing.
use borrow.Author.Rules.{rules}
use Rattle.best_rows.proofs.Finding.{nearing-start, nearing-first, nearing-later}
use Rattle.best_rows.proofs.best_behind.Goals as goal

pub loop-lo-init : goal.loop-lo-init
loop-lo-init c =
    nearing-start (search rules)

pub loop-lo-preserved-then-place-mid : goal.loop-lo-preserved-then-place-mid
loop-lo-preserved-then-place-mid c =
    rw c.better-best.ensures
    (nearing-first c.loop-lo.invariant c.requires.holding c.requires.count_in_bounds c.loop-lo-test.true
    c.if-place-mid.true)

pub loop-lo-preserved : goal.loop-lo-preserved
loop-lo-preserved c =
    nearing-later c.loop-lo.invariant c.loop-lo-test.true c.if-place-mid.false
