-- The invariant is LaidTo. Assumes nothing.
use mathlib.Core.Path.{◌≡◌}
use lib.ListN.{length}
use Rattle.shelving.proofs.Laying.{LaidTo}
use Rattle.shelving.proofs.lay_out.Given as goal

abbrev pub invariant-loop-j : goal.invariant-loop-j
invariant-loop-j l = LaidTo l.sets l.lo l.hi l.j l.at l.work l.book × (length l.book ≡ length l.initial.book)
