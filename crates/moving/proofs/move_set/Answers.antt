-- `moving::move_set` meets its contract: the ends of the runs move along with the members. Assumes nothing.
use Rattle.moving.proofs.Moving.{moved-set}
use borrow.Author.Rules.{rules}
use Rattle.moving.proofs.move_set.Goals as goal

pub returns : goal.returns
returns c =
    rw c.place.ensures (moved-set c.requires (search rules) c.relocate.ensures)
