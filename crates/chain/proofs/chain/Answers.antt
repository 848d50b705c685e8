-- `chain` meets its contract: a call whose price and buffers do is made, and any other is refused and alters nothing.
-- The demand follows from the five equations. Assumes nothing.
use Rattle.backbone.proofs.Demands.{chaining-contract}
use Rattle.chain.proofs.Calls.{admitting-lent, admitting-unlent}
use Rattle.chain.proofs.chain.Goals as goal

pub chain_lent-requires : goal.chain_lent-requires
chain_lent-requires c =
    let a = c.args in
    admitting-lent a.price a.table.now a.chain.now a.scores.now c.row_count.ensures c.admits.ensures c.if-admits.true

pub returns-then-admits-clause-demand : goal.returns-then-admits-clause-demand
returns-then-admits-clause-demand c =
    let a = c.args in
    let made = chaining-contract a.script.now a.price a.table.now a.work.now a.chain.now a.scores.now c.chain_lent.ensures in
    made.1.1.1.1.1

pub returns-else-admits : goal.returns-else-admits
returns-else-admits c =
    let a = c.args in
    let unlent = admitting-unlent a.price a.table.now a.chain.now a.scores.now c.row_count.ensures c.admits.ensures
    c.if-admits.false in
    let made = chaining-contract a.script.now a.price a.table.now a.work.now a.chain.now a.scores.now
    (c.refuse.ensures.refuses a.chain.now a.scores.now unlent) in
    record {
      reply = made.0;
      table = made.1.0;
      work = made.1.1.0;
      chain = made.1.1.1.0;
      scores = made.1.1.1.1.0;
      demand = made.1.1.1.1.1;
    }
