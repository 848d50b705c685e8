-- The loop of `exceed` keeps `Spent`; its measure is the matches that are left. Assumes nothing.
use Prim.Native.Nat.{◌-◌}
use lib.ListN.{length}
use Rattle.cut_set.specs.Store.{found_in}
use Rattle.counting_hits.proofs.Exceeding.{Spent}
use Rattle.counting_hits.proofs.exceed.Given as goal

abbrev pub invariant-loop-k : goal.invariant-loop-k
invariant-loop-k l = Spent l.lefts l.rights (found_in l.work l.from) l.room l.free l.k

abbrev pub decreases-loop-k : goal.decreases-loop-k
decreases-loop-k l = length l.lefts - l.k
