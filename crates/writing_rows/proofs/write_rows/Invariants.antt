-- What is written of the matches so far.
use Rattle.match_columns.specs.Held.{columns_in}
use Rattle.writing_rows.proofs.Placing.{Done}
use Rattle.writing_rows.proofs.write_rows.Given as goal

abbrev pub invariant-loop-k : goal.invariant-loop-k
invariant-loop-k l = Done (columns_in l.matches) l.work l.lo l.hi l.initial.table l.table l.row l.k
