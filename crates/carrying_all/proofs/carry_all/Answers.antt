-- `carry_all` meets its contract: it refuses what finding the way refuses, a buffer of another length and a position
-- off the match, in this order, and carries all positions of any other list. Assumes nothing.
use borrow.Author.Rules.{rules}
use Rattle.carrying_all.proofs.Together.{replied, no_way, other_length, some-off, all-on}
use Rattle.carrying_all.proofs.carry_all.Goals as goal

pub returns-then-positions-carried : goal.returns-then-positions-carried
returns-then-positions-carried c =
    let a = c.args in
    let r = replied
    (other_length a.script.now a.number a.side a.positions.now a.carried.now c.find_way.ensures
    c.in_ok-way.was (search rules))
    in
    record { value = r.0; carried_after = r.1.0; carrying_all_demand = r.1.1 }

pub returns-then-not-spans_all : goal.returns-then-not-spans_all
returns-then-not-spans_all c =
    let a = c.args in
    let r = replied
    (some-off a.script.now a.number a.side a.positions.now a.carried.now c.find_way.ensures
    c.in_ok-way.was (search rules) c.spans_all.ensures c.if-not-spans_all.true)
    in
    record { value = r.0; carried_after = r.1.0; carrying_all_demand = r.1.1 }

pub returns-in_err-way : goal.returns-in_err-way
returns-in_err-way c =
    let a = c.args in
    let r = replied
    (no_way a.script.now a.number a.side a.positions.now a.carried.now c.find_way.ensures
    c.in_err-way.was (search rules))
    in
    record { value = r.0; carried_after = r.1.0; carrying_all_demand = r.1.1 }

pub returns : goal.returns
returns c =
    let a = c.args in
    let r = replied
    (all-on a.script.now a.number a.side a.positions.now a.carried.now c.find_way.ensures
    c.in_ok-way.was (search rules) c.spans_all.ensures c.if-not-spans_all.false c.carry_each.ensures)
    in
    record { value = r.0; carried_after = r.1.0; carrying_all_demand = r.1.1 }
