-- The direct ones of the first k rows are collected. Assumes nothing.
use Prim.Native.Nat.{◌≤◌}
use lib.ListN.{length}
use Rattle.rows.specs.Rows.{rows_of}
use Rattle.direct_rows.proofs.Collecting.{CollectedTo}
use Rattle.direct_rows.proofs.collect.Given as goal

abbrev pub invariant-loop-k : goal.invariant-loop-k
invariant-loop-k l = (length (rows_of l.table) ≤ length l.initial.out) × CollectedTo (rows_of l.table) l.initial.out l.out l.used l.k
