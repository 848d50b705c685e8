-- The pieces before the next window are counted; the measure is how many are left, since a closed window has at least
-- one.
use Prim.Native.Nat.{◌-◌}
use lib.ListN.{length}
use Rattle.rows.specs.Rows.{rows_of}
use Rattle.table.specs.Distinct.{first_of_each}
use Rattle.piece_windows.proofs.Windows.{Sized, Passed}
use Rattle.piece_windows.proofs.count_in_windows.Given as goal

abbrev pub invariant-loop-numbers : goal.invariant-loop-numbers
invariant-loop-numbers l = Sized l.numbers l.spare × Passed (rows_of l.table) l.from l.found

abbrev pub decreases-loop-numbers : goal.decreases-loop-numbers
decreases-loop-numbers l = length (first_of_each (rows_of l.table)) - l.found
