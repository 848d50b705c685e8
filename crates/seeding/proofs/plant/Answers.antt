-- `plant` meets its contract: one mark more (Planting), or no room for one. Assumes nothing.
use borrow.Author.Rules.{rules}
use Rattle.seeding.proofs.Planting.{planting-step, planting-full, planting-end}
use Rattle.seeding.proofs.plant.Goals as goal

pub returns-then-not-plant_mark : goal.returns-then-not-plant_mark
returns-then-not-plant_mark c =
    planting-full c.requires.shelf c.loop-q.invariant c.loop-q-test.true
    (rw c.if-not-plant_mark.true at c.plant_mark.ensures)

pub loop-q-preserved : goal.loop-q-preserved
loop-q-preserved c =
    planting-step c.requires.shelf c.loop-q.invariant c.loop-q-test.true (search rules)
    (rw c.if-not-plant_mark.false at c.plant_mark.ensures)

pub returns : goal.returns
returns c = planting-end c.requires.shelf c.loop-q.invariant c.loop-q-test.false
