-- `seed_match` meets its contract: the two ends are added, or there is no room for one. Assumes nothing.
use Rattle.seeding.proofs.Seeds.{two-added}
use Rattle.seeding.proofs.seed_match.Goals as goal

pub returns-in-Held : goal.returns-in-Held
returns-in-Held c =
    let second = c.add-in-Held in
    two-added c.args.work.now c.args.set second.new.a c.args.left c.args.right c.in-Held.ensures second.result
    second.ensures
