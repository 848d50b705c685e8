-- The first i picked rows are enrolled.
use Rattle.rows.specs.Rows.{rows_of}
use Rattle.picked_rows.proofs.Runs.{Gone}
use Rattle.picked_rows.proofs.count_run.Given as goal

abbrev pub invariant-loop-i : goal.invariant-loop-i
invariant-loop-i l = Gone l.by l.share (rows_of l.table) l.from l.to l.picked l.count l.i l.slots l.found
