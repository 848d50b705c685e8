-- The invariant: the sets before `u` stand at the front and end at `at`. Assumes nothing.
use Rattle.sliding.proofs.Sliding.{Packing}
use Rattle.sliding.proofs.pack.Given as goal

abbrev pub invariant-loop-u : goal.invariant-loop-u
invariant-loop-u l = Packing l.sets l.lo l.hi l.initial.work l.initial.book l.work l.book l.at l.u
