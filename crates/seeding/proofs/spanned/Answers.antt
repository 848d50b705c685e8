-- `spanned` meets its contract: one group more (Looking), or one whose match spans x. Assumes nothing.
use Rattle.seeding.proofs.Planting.{looking-step, looking-found}
use Rattle.seeding.proofs.spanned.Goals as goal

pub returns-then-group_spans : goal.returns-then-group_spans
returns-then-group_spans c =
    looking-found c.requires c.loop-g.invariant c.loop-g-test.true
    (rw c.if-group_spans.true at c.group_spans.ensures)

pub loop-g-preserved : goal.loop-g-preserved
loop-g-preserved c =
    looking-step c.requires c.loop-g.invariant c.loop-g-test.true
    (rw c.if-group_spans.false at c.group_spans.ensures)
