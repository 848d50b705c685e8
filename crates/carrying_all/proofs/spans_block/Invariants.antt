-- What is tested so far and what is left decide.
use Rattle.refinement.specs.Match.{between}
use Rattle.carrying_all.proofs.Loops.{Testing}
use Rattle.carrying_all.proofs.spans_block.Given as goal

abbrev pub invariant-loop-position : goal.invariant-loop-position
invariant-loop-position l = Testing (between l.left l.right) l.positions l.all l.position-index
