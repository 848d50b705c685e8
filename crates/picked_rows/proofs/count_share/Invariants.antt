-- The share's pieces among the first rows are counted; the measure is how many rows are left.
use Prim.Native.Nat.{◌-◌}
use Rattle.rows.specs.Rows.{rows_of}
use Rattle.distinct_store.specs.Store.{Dealt}
use Rattle.picked_rows.proofs.count_share.Given as goal

abbrev pub invariant-loop-from : goal.invariant-loop-from
invariant-loop-from l = Dealt l.by l.share (rows_of l.table) l.slots l.counted.found l.from

abbrev pub decreases-loop-from : goal.decreases-loop-from
decreases-loop-from l = l.rows - l.from
