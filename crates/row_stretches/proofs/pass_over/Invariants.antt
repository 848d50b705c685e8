-- The first k rows are taken in.
-- Assumes nothing.
use Rattle.rows.specs.Rows.{rows_of}
use Rattle.row_stretches.proofs.Gathering.{SameRoom, Passing}
use Rattle.row_stretches.proofs.pass_over.Given as goal

abbrev pub invariant-loop-k : goal.invariant-loop-k
invariant-loop-k l =
    SameRoom l.initial.lows l.initial.highs l.lows l.highs
    × Passing l.side (rows_of l.table) l.from l.lows l.highs l.pass l.k
