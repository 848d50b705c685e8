-- `try_group` meets its contract: carrying changes one set's part, and the book says so. Assumes nothing.
use borrow.Author.Rules.{rules}
use Rattle.shelf.proofs.Filling.{put_full}
use Rattle.carrying_group.proofs.OneTry.{tried}
use Rattle.carrying_group.proofs.try_group.Goals as goal

pub returns-in-Ok : goal.returns-in-Ok
returns-in-Ok c =
    tried c.load.ensures c.requires.shelf c.requires.j_lt_sets c.save.ensures (search rules) (search rules)
    c.in-Ok.ensures

pub returns-in-Err-Full : goal.returns-in-Err-Full
returns-in-Err-Full c =
    put_full c.load.ensures c.requires.shelf c.requires.j_lt_sets c.save-in-Err-Full.ensures (search rules) (search rules)
    (rw c.in-Err-Full.field-0-is at c.in-Err-Full.ensures)
