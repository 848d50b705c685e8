-- The invariant: no set before the number j has newly found members. Assumes nothing.
use Rattle.shelving.proofs.SetBySet.{NoneTo}
use Rattle.shelving.proofs.any_found.Given as goal

abbrev pub invariant-loop-j : goal.invariant-loop-j
invariant-loop-j l = NoneTo l.book l.sets l.j
