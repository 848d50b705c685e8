-- `carry_each` meets its contract. The loop has written the first k numbers, and what is left is on the way. Assumes
-- nothing.
use borrow.Author.Rules.{rules}
use Rattle.carrying_all.proofs.Loops.{writing_step}
use Rattle.carrying_all.proofs.carry_each.Goals as goal

pub loop-k-preserved : goal.loop-k-preserved
loop-k-preserved c =
    writing_step c.loop-k.invariant (search rules) c.carry.ensures
