-- The invariant: the sets before `u` are gathered and have no notes. Assumes nothing.
use Rattle.sliding.proofs.Sliding.{Baring}
use Rattle.sliding.proofs.bare_sets.Given as goal

abbrev pub invariant-loop-u : goal.invariant-loop-u
invariant-loop-u l = Baring l.sets l.lo l.hi l.initial.work l.initial.book l.work l.book l.u
