-- The rows of the share before row k are picked.
use Rattle.rows.specs.Rows.{rows_of}
use Rattle.picked_rows.proofs.Picks.{Picking}
use Rattle.picked_rows.proofs.pick.Given as goal

abbrev pub invariant-loop-k : goal.invariant-loop-k
invariant-loop-k l = Picking l.by l.share (rows_of l.table) l.from l.k l.picked l.used
