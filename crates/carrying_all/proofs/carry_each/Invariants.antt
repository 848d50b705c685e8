-- The first k numbers are written, and what is left is on the way.
use Rattle.refinement.specs.Match.{between, carry_to}
use Rattle.carrying_all.proofs.Loops.{Writing}
use Rattle.carrying_all.proofs.carry_each.Given as goal

abbrev pub invariant-loop-k : goal.invariant-loop-k
invariant-loop-k l =
    Writing (between l.way.from l.way.from_right) (carry_to l.way.reversed l.way.from l.way.to l.way.to_right)
    l.positions l.initial.carried l.carried l.k
