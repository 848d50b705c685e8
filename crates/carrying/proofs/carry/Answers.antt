-- `carry` meets its contract: it refuses what finding the way refuses and a position off the match, and carries any
-- other. Assumes nothing.
use borrow.Author.Rules.{rules}
use Rattle.std.proofs.Common.{◌≡◌, Err, ◌∙◌}
use Rattle.carrying.proofs.Carried.{replied, carried-refused, carried-off, carried-to}
use Rattle.carrying.proofs.carry.Goals as goal

pub returns-then-spans : goal.returns-then-spans
returns-then-spans c =
    let a = c.args in
    let r = replied
    (carried-to a.script.now a.number a.side a.position c.find_way.ensures c.in_ok-way.was c.spans.ensures.test
    c.if-spans.true c.carry.ensures)
    in
    record { value = r.0; carrying_demand = r.1 }

pub returns-in_err-way : goal.returns-in_err-way
returns-in_err-way c =
    let a = c.args in
    let e : c.from_residual.result ≡ Err c.in_err-way.field-0.0 = search rules in
    let r = replied
    (e ∙ carried-refused a.script.now a.number a.side a.position c.find_way.ensures c.in_err-way.was)
    in
    record { value = r.0; carrying_demand = r.1 }

pub returns-else-spans : goal.returns-else-spans
returns-else-spans c =
    let a = c.args in
    let r = replied
    (carried-off a.script.now a.number a.side a.position c.find_way.ensures c.in_ok-way.was c.spans.ensures.test
    c.if-spans.false)
    in
    record { value = r.0; carrying_demand = r.1 }
