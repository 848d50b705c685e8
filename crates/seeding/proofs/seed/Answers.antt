-- `seed` meets its contract: one match more (Sown), or no room for one. Assumes nothing.
use Rattle.seeding.proofs.Seeds.{sown-step, sown-full, sown-end}
use Rattle.seeding.proofs.seed.Goals as goal

pub returns-in-Full : goal.returns-in-Full
returns-in-Full c = sown-full c.loop-k.invariant c.loop-k-test.true c.in-Full.ensures

pub loop-k-preserved : goal.loop-k-preserved
loop-k-preserved c = sown-step c.loop-k.invariant c.loop-k-test.true c.seed_match.auto.work c.in-Held.ensures

pub returns : goal.returns
returns c = sown-end c.loop-k.invariant c.loop-k-test.false
