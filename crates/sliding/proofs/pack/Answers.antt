-- `sliding::pack` meets its contract: one set more moves behind those before it. Assumes nothing.
use Rattle.sliding.proofs.Sliding.{packing-between}
use Rattle.sliding.proofs.Sliding.{packing-step}
use borrow.Author.Rules.{rules}
use Rattle.sliding.proofs.pack.Goals as goal

pub move_to-requires-clause-between : goal.move_to-requires-clause-between
move_to-requires-clause-between c =
    packing-between c.loop-u.invariant (search rules) c.load-s.ensures

pub loop-u-preserved : goal.loop-u-preserved
loop-u-preserved c =
    packing-step c.loop-u.invariant (search rules) c.load-s.ensures (search rules) c.move_to.ensures
