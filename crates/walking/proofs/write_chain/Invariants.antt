-- The chain is written up to `number`; the measure is the room left. Assumes nothing.
use Prim.Native.Nat.{◌-◌}
use lib.ListN.{length}
use Rattle.walking.proofs.Trail.{OnWay}
use Rattle.walking.proofs.write_chain.Given as goal

abbrev pub invariant-loop-number : goal.invariant-loop-number
invariant-loop-number l = OnWay l.links l.first l.initial.chain l.chain l.number l.used

abbrev pub decreases-loop-number : goal.decreases-loop-number
decreases-loop-number l = length l.initial.chain - l.used
