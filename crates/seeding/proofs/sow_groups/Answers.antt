-- `sow_groups` meets its contract: one group more (Sowing), or no room for one. Assumes nothing.
use native.Mathlib.Omega.{arith}
use borrow.Author.Rules.{rules}
use Rattle.seeding.proofs.OneGroup.{group-span}
use Rattle.seeding.proofs.Sowing.{sowing-step, sowing-full, sowing-end}
use Rattle.seeding.proofs.sow_groups.Goals as goal

pub offset_bounds-lefts-start : goal.offset_bounds-lefts-start
offset_bounds-lefts-start c =
    let span = group-span c.requires.side_groups c.loop-g-test.true c.read_group-group.ensures in
    omega arith

pub offset_bounds-rights-start : goal.offset_bounds-rights-start
offset_bounds-rights-start c =
    let span = group-span c.requires.side_groups c.loop-g-test.true c.read_group-group.ensures in
    omega arith

pub slice_bounds-sow_group-end : goal.slice_bounds-sow_group-end
slice_bounds-sow_group-end c =
    let span = group-span c.requires.side_groups c.loop-g-test.true c.read_group-group.ensures in
    omega arith

pub slice_bounds-sow_group-end-in-loop-g : goal.slice_bounds-sow_group-end-in-loop-g
slice_bounds-sow_group-end-in-loop-g c =
    let span = group-span c.requires.side_groups c.loop-g-test.true c.read_group-group.ensures in
    omega arith

pub returns-then-not-sow_group : goal.returns-then-not-sow_group
returns-then-not-sow_group c =
    sowing-full c.requires.side_groups c.requires.shelf c.loop-g.invariant c.loop-g-test.true
    c.read_group-group.ensures (rw c.if-not-sow_group.true at c.sow_group.ensures)

pub loop-g-preserved : goal.loop-g-preserved
loop-g-preserved c =
    sowing-step c.requires.side_groups c.requires.shelf c.loop-g.invariant c.loop-g-test.true
    c.read_group-group.ensures (search rules)
    (rw c.if-not-sow_group.false at c.sow_group.ensures)

pub returns : goal.returns
returns c = sowing-end c.requires.side_groups c.requires.shelf c.loop-g.invariant c.loop-g-test.false
