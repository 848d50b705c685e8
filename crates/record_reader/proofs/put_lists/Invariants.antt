-- `put_lists` meets its contract. The loop keeps `Listing`: good commands alone stand before `at`, and the buffers hold
-- what they said. The measure is what is left of the script. Assumes nothing.
use Prim.Native.Nat.{◌-◌}
use lib.ListN.{length}
use Rattle.record_reader.proofs.Listed.{Listing}
use Rattle.record_reader.proofs.put_lists.Given as goal

abbrev pub invariant-loop-found : goal.invariant-loop-found
invariant-loop-found l = Listing l.script l.initial.out l.initial.marks l.out l.marks l.count l.marked l.at

abbrev pub decreases-loop-found : goal.decreases-loop-found
decreases-loop-found l = length l.script - l.at
