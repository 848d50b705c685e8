-- The loop keeps `Walked`. Assumes nothing.
use Rattle.carrying_match.proofs.Walking.{Walked}
use Rattle.carrying_match.proofs.carry_match.Given as goal

abbrev pub invariant-loop-at : goal.invariant-loop-at
invariant-loop-at l = Walked l.left l.right l.other_left l.other_right l.reversed l.initial.work l.from l.initial.set l.hits l.most l.first l.end l.work l.set l.count l.at
