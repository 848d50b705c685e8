-- `runs::by_halves` meets its contract. The invariant: all numbers before `at` are less than x, and all
-- from `at + size` on are not. The measure is `size`, which halves.
-- Assumes nothing.
use Rattle.runs.proofs.Searching.{Bracket}
use Rattle.runs.proofs.by_halves.Given as goal

abbrev pub invariant-loop-size : goal.invariant-loop-size
invariant-loop-size l = Bracket l.a l.lo l.hi l.x l.at l.size

abbrev pub decreases-loop-size : goal.decreases-loop-size
decreases-loop-size l = l.size
