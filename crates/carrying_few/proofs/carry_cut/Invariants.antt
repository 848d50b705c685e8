-- The loop keeps `PlacesPassed`; its measure is the places that are left. Assumes nothing.
use Prim.Native.Nat.{◌-◌}
use Rattle.match_columns.specs.Held.{columns_in}
use Rattle.carrying_few.proofs.Placing.{PlacesPassed}
use Rattle.carrying_few.proofs.carry_cut.Given as goal

abbrev pub invariant-loop-k : goal.invariant-loop-k
invariant-loop-k l = PlacesPassed (columns_in l.matches) l.index l.initial.work l.initial.held.to l.cut l.hits l.most l.work l.held.to l.held.hits l.k

abbrev pub decreases-loop-k : goal.decreases-loop-k
decreases-loop-k l = l.n - l.k
