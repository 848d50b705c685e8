-- The invariant is Keeping, where what stands in a run is known.
-- Assumes nothing.
use Rattle.runs.specs.Runs.{In}
use Rattle.sifting.proofs.Keeping.{Keeping}
use Rattle.cut_set.proofs.sift_noted.Given as goal

abbrev pub invariant-loop-k : goal.invariant-loop-k
invariant-loop-k l = Keeping l.initial.a (In l.initial.a l.s.base l.s.fresh) l.s.fresh l.end l.a l.kept l.k
