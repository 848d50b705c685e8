-- The matches up to `at` are passed over; the measure is the matches that are left. Assumes nothing.
use Prim.Native.Nat.{◌-◌}
use lib.ListN as List
use Rattle.near_matches.specs.Near.{Passable}
use Rattle.near_matches.proofs.pass_many.Given as goal

abbrev pub invariant-loop-at : goal.invariant-loop-at
invariant-loop-at l = Passable l.lefts l.rights l.lowest l.highest l.k l.at

abbrev pub decreases-loop-at : goal.decreases-loop-at
decreases-loop-at l = List.length l.lefts - l.at
