-- Each slot from `from` on is taken, and by another piece.
use Rattle.rows.specs.Rows.{rows_of}
use Rattle.distinct_store.proofs.Slots.{Passing}
use Rattle.distinct_store.proofs.seek.Given as goal

abbrev pub invariant-loop-at : goal.invariant-loop-at
invariant-loop-at l = Passing (rows_of l.table) l.slots l.from l.row l.at
