-- The invariant: the first `k` numbers are moved.
-- Assumes nothing.
use Rattle.moving.proofs.Moving.{Shifting}
use Rattle.moving.proofs.move_down.Given as goal

abbrev pub invariant-loop-k : goal.invariant-loop-k
invariant-loop-k l = Shifting l.initial.a l.lo l.to l.n l.k l.a
