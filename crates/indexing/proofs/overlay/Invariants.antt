-- The loop keeps `OverlaidTo`. Assumes nothing.
use Rattle.indexing.proofs.Raising.{OverlaidTo}
use Rattle.indexing.proofs.overlay.Given as goal

abbrev pub invariant-loop-b : goal.invariant-loop-b
invariant-loop-b l = OverlaidTo l.initial.index l.at l.count l.index l.b
