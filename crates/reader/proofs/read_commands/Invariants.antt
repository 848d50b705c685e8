-- Good commands alone stand before `at`; the measure is what is left of the script.
use Prim.Native.Nat.{◌-◌}
use lib.ListN.{length}
use Rattle.reader.proofs.Progress.{Progress}
use Rattle.reader.proofs.read_commands.Given as goal

abbrev pub invariant-loop-count : goal.invariant-loop-count
invariant-loop-count l = Progress l.script l.p l.q l.count l.marks l.at

abbrev pub decreases-loop-count : goal.decreases-loop-count
decreases-loop-count l = length l.script - l.at
