-- `pool_of` only has to end: the measure is how many rows are left.
use Rattle.std.proofs.Common.{◌-◌, ◌≤◌}
use Rattle.distinct_pieces.proofs.pool_of.Given as goal

abbrev pub invariant-loop-k : goal.invariant-loop-k
invariant-loop-k l = l.k ≤ l.rows

abbrev pub decreases-loop-k : goal.decreases-loop-k
decreases-loop-k l = l.rows - l.k
