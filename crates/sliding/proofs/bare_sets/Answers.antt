-- `sliding::bare_sets` meets its contract: one set more is bared. Assumes nothing.
use Rattle.sliding.proofs.Sliding.{baring-step}
use borrow.Author.Rules.{rules}
use Rattle.sliding.proofs.bare_sets.Goals as goal

pub loop-u-preserved : goal.loop-u-preserved
loop-u-preserved c =
    baring-step c.loop-u.invariant (search rules) (search rules) c.bare_set.ensures
