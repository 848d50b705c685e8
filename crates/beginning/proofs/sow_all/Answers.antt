-- `sow_all` meets its contract: what each call brought to the sets of its side is what the first step begins with (Begun of
-- `seeding`). Assumes nothing.
use native.Mathlib.Omega.{arith}
use mathlib.Core.Path.{refl, ◌∙◌}
use Rattle.seeding.proofs.Begun.{laid_beside, seeded-open, sown-exceeds, planted-exceeds-a, planted-exceeds-b}
use Rattle.taking.specs.Taking.{Halves}
use Rattle.taking.proofs.Whole.{shelf-apart}
use Rattle.beginning.specs.Beginning.{zeros}
use Rattle.beginning.proofs.Beginning.{filled_in}
use Rattle.beginning.proofs.sow_all.Goals as goal

pub returns-then-not-sow_groups : goal.returns-then-not-sow_groups
returns-then-not-sow_groups c =
    let a = c.args in
    sown-exceeds c.requires.lent.fit c.requires.lent.groups a.mark_tracks.now a.mark_positions.now c.requires.laid_out
    (rw c.if-not-sow_groups.true at c.sow_groups.ensures)

pub returns-then-not-plant : goal.returns-then-not-plant
returns-then-not-plant c =
    let a = c.args in
    planted-exceeds-a c.requires.lent.fit c.requires.lent.groups a.mark_tracks.now a.mark_positions.now
    c.requires.laid_out (rw c.if-not-sow_groups.false at c.sow_groups.ensures)
    (rw c.if-not-plant.true at c.plant.ensures)

pub returns-then-not-plant-2 : goal.returns-then-not-plant-2
returns-then-not-plant-2 c =
    let a = c.args in
    let beside = laid_beside c.requires.lent.fit c.requires.lent.groups a.mark_tracks.now a.mark_positions.now a.capacity
    c.requires.laid_out_2 (rw c.if-not-sow_groups.false at c.sow_groups.ensures)
    (rw c.if-not-plant.false at c.plant.ensures)
    (c.plant.auto.work ∙ c.sow_groups.auto.work) in
    planted-exceeds-b c.requires.lent.fit c.requires.lent.groups a.mark_tracks.now a.mark_positions.now beside
    (rw c.if-not-plant-2.true at c.plant-2.ensures)

pub gather_sets-requires : goal.gather_sets-requires
gather_sets-requires c =
    let on_a = rw c.if-not-plant.false at c.plant.ensures in
    let on_b = rw c.if-not-plant-2.false at c.plant-2.ensures in
    shelf-apart on_a.shelf (Halves.behind (omega arith)) _ on_b.outside c.plant-2.auto.work

pub gather_sets-requires-2 : goal.gather_sets-requires-2
gather_sets-requires-2 c =
    let on_b = rw c.if-not-plant-2.false at c.plant-2.ensures in
    shelf-apart on_b.shelf (Halves.before (omega arith)) _ c.gather_sets.ensures.grown.outside
    c.gather_sets.auto.work

pub returns : goal.returns
returns c =
    let a = c.args in
    seeded-open c.requires.lent.fit c.requires.lent.groups a.mark_tracks.now a.mark_positions.now a.capacity
    c.requires.laid_out c.requires.laid_out_2
    (filled_in _ _ _ _ _ _ _ _ _ c.if-not-sow_groups.false c.sow_groups.ensures)
    (filled_in _ _ _ _ _ _ _ _ _ c.if-not-plant.false c.plant.ensures)
    (c.plant.auto.work ∙ c.sow_groups.auto.work)
    (filled_in _ _ _ _ _ _ _ _ _ c.if-not-plant-2.false c.plant-2.ensures)
    c.plant-2.auto.work c.gather_sets.ensures c.gather_sets.auto.work
    c.gather_sets-2.ensures c.gather_sets-2.auto.work zeros (λ w u. refl)
