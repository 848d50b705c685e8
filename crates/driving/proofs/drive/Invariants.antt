-- The loop keeps `Driving`, what a step promises of its answer, with the marks that it had at the start. The measure is
-- the number of unused places where a step is due.
use Rattle.match_columns.specs.Held.{columns_in}
use Rattle.driving.proofs.Drives.{pending, Kept}
use Rattle.driving.proofs.drive.Given as goal

abbrev pub invariant-loop-closing : goal.invariant-loop-closing
invariant-loop-closing l =
    Kept (columns_in l.grouped.matches) l.grouped.groups.now l.grouped.count l.grouped.sets l.capacity l.initial.work
    l.initial.book_a l.initial.book_b l.fn.first l.work l.book_a l.book_b l.closing

abbrev pub decreases-loop-closing : goal.decreases-loop-closing
decreases-loop-closing l = pending l.grouped.sets l.capacity l.book_a l.book_b l.closing
