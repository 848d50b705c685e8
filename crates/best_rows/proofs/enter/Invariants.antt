-- The row is entered but from `lo` up to `hi`; the measure is how many places are left.
-- Assumes nothing.
use Prim.Native.Nat.{◌-◌}
use Rattle.rows.specs.Rows.{rows_of}
use Rattle.best_rows.proofs.Entering.{Entering}
use Rattle.best_rows.proofs.enter.Given as goal

abbrev pub invariant-loop-lo : goal.invariant-loop-lo
invariant-loop-lo l = Entering l.price (rows_of l.table) l.scores l.count l.place l.number l.initial.held l.lo l.hi l.held

abbrev pub decreases-loop-lo : goal.decreases-loop-lo
decreases-loop-lo l = l.hi - l.lo
