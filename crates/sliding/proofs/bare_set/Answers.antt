-- `sliding::bare_set` meets its contract: a set is changed in its own part. Assumes nothing.
use Rattle.sliding.proofs.Sliding.{bared}
use borrow.Author.Rules.{rules}
use Rattle.sliding.proofs.bare_set.Goals as goal

pub returns : goal.returns
returns c =
    bared (search rules) (search rules) c.load-s.ensures c.save.ensures c.requires.shelf
    c.requires.u_lt_sets c.gather_bare-t.ensures
