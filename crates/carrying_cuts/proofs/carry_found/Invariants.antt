-- `carry_found` meets its contract. The loop keeps `Passed`; its measure is the matches that are left. Assumes nothing.
use Prim.Native.Nat.{◌-◌}
use lib.ListN as List
use Rattle.match_columns.specs.Held.{columns_in}
use Rattle.carrying_cuts.proofs.Passing.{Passed}
use Rattle.carrying_cuts.proofs.carry_found.Given as goal

abbrev pub invariant-loop-k : goal.invariant-loop-k
invariant-loop-k l = Passed (columns_in l.matches) l.initial.work l.from l.initial.held.to l.hits l.most l.work l.held.to l.held.hits l.k

abbrev pub decreases-loop-k : goal.decreases-loop-k
decreases-loop-k l = List.length l.matches.reversed.now - l.k
