-- `shelving::gather_sets` meets its contract: one set more is gathered. Assumes nothing.
use Rattle.shelving.proofs.SetBySet.{gather-next}
use borrow.Author.Rules.{rules}
use Rattle.shelving.proofs.gather_sets.Goals as goal

pub loop-j-preserved : goal.loop-j-preserved
loop-j-preserved c =
    gather-next c.loop-j.invariant (search rules) c.gather_set.ensures (search rules) (search rules)
