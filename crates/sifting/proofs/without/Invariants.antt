-- The invariant is Sifting.
-- Assumes nothing.
use Rattle.sifting.proofs.Sifting.{Sifting}
use Rattle.sifting.proofs.without.Given as goal

abbrev pub invariant-loop-k : goal.invariant-loop-k
invariant-loop-k l = Sifting l.initial.a l.lo l.hi l.at l.end l.a l.low l.kept l.k
