-- `carry_group` meets its contract. Assumes nothing.
use mathlib.Core.Path.{◌∙◌}
use mathlib.Core.Logic.{inl, inr}
use Rattle.shelf.proofs.Filling.{going_less, going_step, gone-jammed}
use Rattle.carrying_group.proofs.Going.{going-clear, going-ends, going-crammed, carried-all, gone-excess}
use Rattle.carrying_group.proofs.carry_group.Goals as goal

pub try_group-requires-clause-clear : goal.try_group-requires-clause-clear
try_group-requires-clause-clear c = going-clear c.requires.clear c.requires.j_lt_sets c.loop-count.invariant

pub try_group-requires-clause-ends_known : goal.try_group-requires-clause-ends_known
try_group-requires-clause-ends_known c =
    λ e. going-ends c.requires.clear c.requires.j_lt_sets c.loop-count.invariant (c.requires.ends_known e)

pub returns-in-Ok : goal.returns-in-Ok
returns-in-Ok c =
    carried-all c.requires.clear c.requires.j_lt_sets c.loop-count.invariant c.in-Ok.ensures

pub returns-in-Err-TooMany : goal.returns-in-Err-TooMany
returns-in-Err-TooMany c =
    inl (gone-excess c.requires.clear c.requires.j_lt_sets c.loop-count.invariant c.args.hits c.args.most
    (rw c.in-Err-TooMany.field-0-is at c.in-Err-TooMany.ensures))

pub returns-then-not-make_room : goal.returns-then-not-make_room
returns-then-not-make_room c =
    let in-book = c.requires.j_lt_sets in
    let crammed = going-crammed c.requires.clear in-book c.loop-count.invariant (rw c.in-Err-Crowded.field-0-is at c.in-Err-Crowded.ensures) in
    inr (gone-jammed in-book c.loop-count.invariant crammed c.make_room.ensures c.requires.shelf
    (c.make_room.auto.work ∙ c.try_group.auto.work) c.if-not-make_room.true)

pub loop-count-smaller : goal.loop-count-smaller
loop-count-smaller c =
    let in-book = c.requires.j_lt_sets in
    let crammed = going-crammed c.requires.clear in-book c.loop-count.invariant (rw c.in-Err-Crowded.field-0-is at c.in-Err-Crowded.ensures) in
    going_less in-book c.loop-count.invariant crammed c.make_room.ensures c.if-not-make_room.false

pub loop-count-preserved : goal.loop-count-preserved
loop-count-preserved c =
    let in-book = c.requires.j_lt_sets in
    let crammed = going-crammed c.requires.clear in-book c.loop-count.invariant (rw c.in-Err-Crowded.field-0-is at c.in-Err-Crowded.ensures) in
    going_step in-book c.loop-count.invariant crammed c.make_room.ensures
    (c.make_room.auto.work ∙ c.try_group.auto.work)
