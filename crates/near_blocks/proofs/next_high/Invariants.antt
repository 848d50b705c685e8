-- The loop keeps `Short`. Assumes nothing.
use Rattle.near_blocks.specs.Places.{Short}
use Rattle.near_blocks.proofs.next_high.Given as goal

abbrev pub invariant-loop-near : goal.invariant-loop-near
invariant-loop-near l = Short l.index l.at l.end l.x l.k l.near
