-- Good commands alone stand before `at`; the measure is what is left of the script.
use Prim.Native.Nat.{◌-◌}
use lib.ListN.{length}
use Rattle.reader.proofs.Filled.{Filling}
use Rattle.reader.proofs.columns.fill_columns.Given as goal

abbrev pub invariant-loop-found : goal.invariant-loop-found
invariant-loop-found l = Filling l.script l.initial.left_a l.initial.left_b l.initial.lengths l.initial.reversed l.initial.sides l.initial.positions l.left_a l.left_b l.lengths l.reversed l.sides l.positions l.count l.marks l.at

abbrev pub decreases-loop-found : goal.decreases-loop-found
decreases-loop-found l = length l.script - l.at
