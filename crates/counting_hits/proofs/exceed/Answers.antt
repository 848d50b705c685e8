-- `exceed` meets its contract: what of the room is gone are hits of the matches so far. Assumes nothing.
use Rattle.counting_hits.proofs.Exceeding.{spend-step, spend-over}
use Rattle.counting_hits.proofs.exceed.Goals as goal

pub returns-then-free-hits : goal.returns-then-free-hits
returns-then-free-hits c e = spend-over c.loop-k.invariant c.hits_of-hits.ensures c.loop-k-test.true c.if-free-hits.true

pub loop-k-preserved : goal.loop-k-preserved
loop-k-preserved c = spend-step c.loop-k.invariant c.hits_of-hits.ensures c.requires.step_nonzero c.if-free-hits.false
