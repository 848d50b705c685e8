-- `shelving::finish_sets` meets its contract: one set more is finished. Assumes nothing.
use Rattle.shelving.proofs.SetBySet.{finish-next}
use borrow.Author.Rules.{rules}
use Rattle.shelving.proofs.finish_sets.Goals as goal

pub loop-j-preserved : goal.loop-j-preserved
loop-j-preserved c =
    finish-next c.loop-j.invariant (search rules) c.finish_set.ensures (search rules) (search rules)
