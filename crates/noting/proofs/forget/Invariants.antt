-- The invariant: each store is to a place of the notes.
-- Assumes nothing.
use Rattle.noting.proofs.Noting.{Clearing}
use Rattle.noting.proofs.forget.Given as goal

abbrev pub invariant-loop-k : goal.invariant-loop-k
invariant-loop-k l = Clearing l.initial.a l.top l.limit l.a l.k
