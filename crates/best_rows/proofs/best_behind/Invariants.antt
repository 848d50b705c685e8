-- The best row behind the place is `best`, or entered from `lo` up to `hi`; the measure is how many places are left.
-- Assumes nothing.
use Prim.Native.Nat.{◌-◌}
use Rattle.rows.specs.Rows.{rows_of}
use Rattle.best_rows.proofs.Finding.{Nearing}
use Rattle.best_rows.proofs.best_behind.Given as goal

abbrev pub invariant-loop-lo : goal.invariant-loop-lo
invariant-loop-lo l = Nearing l.price (rows_of l.table) l.scores l.held l.count l.place l.lo l.hi l.best

abbrev pub decreases-loop-lo : goal.decreases-loop-lo
decreases-loop-lo l = l.hi - l.lo
