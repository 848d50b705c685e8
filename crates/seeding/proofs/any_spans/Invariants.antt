-- `any_spans` meets its contract. The loop keeps that the matches before k do not span x. Assumes nothing.
use Prim.Native.Nat.{◌-◌}
use lib.ListN as List
use Rattle.near_matches.specs.Near.{Passable}
use Rattle.seeding.proofs.any_spans.Given as goal

abbrev pub invariant-loop-k : goal.invariant-loop-k
invariant-loop-k l = Passable l.lefts l.rights l.x l.x 0 l.k

abbrev pub decreases-loop-k : goal.decreases-loop-k
decreases-loop-k l = List.length l.lefts - l.k
