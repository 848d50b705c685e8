-- `sow_group` meets its contract. The invariant: Going, only ends have come, to the set number `j`. The measure: where
-- the set had room, more places are gathered when it is full; where it had none, it has room now. Assumes nothing.
use borrow.Author.Rules.{rules}
use Rattle.shelf.proofs.Filling.{going_less, going_step, gone, gone-jammed}
use Rattle.seeding.proofs.sow_group.Goals as goal

pub returns-then-sow_here : goal.returns-then-sow_here
returns-then-sow_here c =
    gone c.requires.j_lt_sets c.loop-sets.invariant (rw c.if-sow_here.true at c.sow_here.ensures)

pub returns-then-not-make_room : goal.returns-then-not-make_room
returns-then-not-make_room c =
    let crammed = rw c.if-sow_here.false at c.sow_here.ensures in
    gone-jammed c.requires.j_lt_sets c.loop-sets.invariant crammed c.make_room.ensures c.requires.shelf (search rules)
    c.if-not-make_room.true

pub loop-sets-smaller : goal.loop-sets-smaller
loop-sets-smaller c =
    let crammed = rw c.if-sow_here.false at c.sow_here.ensures in
    going_less c.requires.j_lt_sets c.loop-sets.invariant crammed c.make_room.ensures
    c.if-not-make_room.false

pub loop-sets-preserved : goal.loop-sets-preserved
loop-sets-preserved c =
    let crammed = rw c.if-sow_here.false at c.sow_here.ensures in
    going_step c.requires.j_lt_sets c.loop-sets.invariant crammed c.make_room.ensures (search rules)
