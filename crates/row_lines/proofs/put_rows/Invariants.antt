-- The loop has put the lines of the first k rows. Assumes nothing.
use lib.ListN.{take}
use Rattle.rows.specs.Rows.{rows_of}
use Rattle.text.specs.Putting.{Put}
use Rattle.reporting.specs.Lines.{row_lines}
use Rattle.row_lines.proofs.put_rows.Given as goal

abbrev pub invariant-loop-k : goal.invariant-loop-k
invariant-loop-k l = Put (row_lines (take l.k (rows_of l.table))) l.initial.text l.at l.text l.next
