-- `sliding::move_to` meets its contract: the set's new places are those of no other set. Assumes nothing.
use Rattle.sliding.proofs.Sliding.{moved_to}
use borrow.Author.Rules.{rules}
use Rattle.sliding.proofs.move_to.Goals as goal

pub returns : goal.returns
returns c =
    moved_to (search rules) (search rules) c.load-s.ensures c.save.ensures c.requires.slidable
    c.requires.between c.move_set-t.ensures
