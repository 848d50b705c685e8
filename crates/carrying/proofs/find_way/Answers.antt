-- `find_way` meets its contract: it refuses what finding the match refuses, and has the ends of any other on both
-- sides. Assumes nothing.
use borrow.Author.Rules.{rules}
use Rattle.carrying.proofs.Ways.{from-fits, to-fits}
use Rattle.carrying.proofs.find_way.Goals as goal

pub overflow_add-from_right : goal.overflow_add-from_right
overflow_add-from_right c =
    search (rules, from-fits)

pub overflow_add-to_right : goal.overflow_add-to_right
overflow_add-to_right c =
    search (rules, to-fits)
