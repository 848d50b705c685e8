-- `Filling` of the first k rows. The measure is twice how many rows are left, and one more for each number: a full
-- window loses some, a row adds one.
use Prim.Native.Nat.{◌+◌, ◌*◌, ◌-◌}
use Rattle.rows.specs.Rows.{rows_of}
use Rattle.piece_windows.proofs.Gathering.{Filling}
use Rattle.piece_windows.proofs.gather.Given as goal

abbrev pub invariant-loop-k : goal.invariant-loop-k
invariant-loop-k l = Filling (rows_of l.table) l.initial.span.from l.step l.initial.numbers l.initial.spare l.numbers l.spare l.used l.span l.k

abbrev pub decreases-loop-k : goal.decreases-loop-k
decreases-loop-k l = 2 * (l.rows - l.k) + l.used
