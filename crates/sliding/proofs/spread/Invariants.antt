-- The invariant: the sets from `u` on are spread behind `end`, and the reserve is
-- the set's number `j`, or left before `end`. Assumes nothing.
use Rattle.sliding.proofs.Sliding.{Spreading}
use Rattle.sliding.proofs.spread.Given as goal

abbrev pub invariant-loop-u : goal.invariant-loop-u
invariant-loop-u l = Spreading l.sets l.lo l.hi l.j l.reserve l.initial.work l.initial.book l.work l.book l.end l.u
