-- The invariant is FinishedTo. Assumes nothing.
use Rattle.shelving.proofs.SetBySet.{FinishedTo}
use Rattle.shelving.proofs.finish_sets.Given as goal

abbrev pub invariant-loop-j : goal.invariant-loop-j
invariant-loop-j l = FinishedTo l.sets l.lo l.hi l.j l.initial.work l.initial.book l.work l.book
