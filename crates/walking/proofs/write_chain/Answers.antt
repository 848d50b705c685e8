-- A number on the way has a link, and room in the chain. Assumes nothing.
use borrow.Author.Rules.{rules}
use Rattle.walking.proofs.Trail.{way-there, way-free, way-kept, way_on, way-ends}
use Rattle.walking.proofs.write_chain.Goals as goal

pub bounds-chain-used : goal.bounds-chain-used
bounds-chain-used c =
    search (rules, way-free c.loop-number.invariant c.loop-number-test.true, way-kept c.loop-number.invariant)

pub bounds-links-number : goal.bounds-links-number
bounds-links-number c =
    search (rules, way-there c.loop-number.invariant c.loop-number-test.true)

pub loop-number-smaller : goal.loop-number-smaller
loop-number-smaller c =
    search (rules, way-free c.loop-number.invariant c.loop-number-test.true)

pub loop-number-preserved : goal.loop-number-preserved
loop-number-preserved c =
    way_on c.loop-number.invariant c.loop-number-test.true

pub returns : goal.returns
returns c =
    way-ends c.loop-number.invariant c.loop-number-test.false
