-- The invariant is GatheredTo. Assumes nothing.
use Rattle.shelving.proofs.SetBySet.{GatheredTo}
use Rattle.shelving.proofs.gather_sets.Given as goal

abbrev pub invariant-loop-j : goal.invariant-loop-j
invariant-loop-j l = GatheredTo l.sets l.lo l.hi l.j l.initial.work l.initial.book l.work l.book
