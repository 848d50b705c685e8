-- `group_spans` meets its contract: the group's part of the columns is asked, if it has the track. Assumes nothing.
use native.Mathlib.Omega.{arith}
use Rattle.seeding.proofs.OneGroup.{group-span}
use Rattle.seeding.proofs.group_spans.Goals as goal

pub offset_bounds-lefts-start : goal.offset_bounds-lefts-start
offset_bounds-lefts-start c =
    let span = group-span c.requires.side_groups c.requires.g_lt_count c.read_group-group.ensures in
    omega arith

pub offset_bounds-rights-start : goal.offset_bounds-rights-start
offset_bounds-rights-start c =
    let span = group-span c.requires.side_groups c.requires.g_lt_count c.read_group-group.ensures in
    omega arith

pub slice_bounds-any_spans-end : goal.slice_bounds-any_spans-end
slice_bounds-any_spans-end c =
    let span = group-span c.requires.side_groups c.requires.g_lt_count c.read_group-group.ensures in
    omega arith

pub slice_bounds-any_spans-end-2 : goal.slice_bounds-any_spans-end-2
slice_bounds-any_spans-end-2 c =
    let span = group-span c.requires.side_groups c.requires.g_lt_count c.read_group-group.ensures in
    omega arith
