-- The invariant: what `at` and `size` leave brackets the bound.
-- Assumes nothing.
use Rattle.runs.proofs.Searching.{Bracket}
use Rattle.runs.proofs.lower_bound.Given as goal

abbrev pub invariant-loop-size : goal.invariant-loop-size
invariant-loop-size l = Bracket l.a l.lo l.hi l.x l.at l.size

abbrev pub decreases-loop-size : goal.decreases-loop-size
decreases-loop-size l = l.size
