-- Good commands alone stand before `at`; the measure is what is left of the script.
use Prim.Native.Nat.{◌-◌}
use lib.ListN.{length}
use Rattle.reader.proofs.Finds.{Seeking}
use Rattle.reader.proofs.find.walk_to.Given as goal

abbrev pub invariant-loop-found : goal.invariant-loop-found
invariant-loop-found l = Seeking l.script l.number l.count l.at

abbrev pub decreases-loop-found : goal.decreases-loop-found
decreases-loop-found l = length l.script - l.at
