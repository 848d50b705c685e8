-- `plant_mark` meets its contract: a mark that is not spanned takes no place, and another one is sown. Assumes nothing.
use Rattle.seeding.proofs.Planting.{spanned-named, plant-one}
use Rattle.seeding.proofs.plant_mark.Goals as goal

pub sow_group-requires-clause-j_lt_sets : goal.sow_group-requires-clause-j_lt_sets
sow_group-requires-clause-j_lt_sets c =
    spanned-named c.requires.side_groups (c.spanned.ensures.when c.if-not-spanned.false)

pub returns : goal.returns
returns c =
    let args = c.args in
    plant-one c.requires.side_groups args.mark_positions.now c.requires.q_in_bounds
    (c.spanned.ensures.when c.if-not-spanned.false)
    args.lo args.hi args.work.now args.book.now _ _ c.sow_group.result c.sow_group.ensures
