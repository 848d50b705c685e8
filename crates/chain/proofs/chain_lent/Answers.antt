-- `chain_lent` meets its contract: what refining refuses is refused, and of the rows that it makes the backbone is
-- found. Assumes nothing.
use native.Mathlib.Omega.{arith}
use lib.ListN.{length-take}
use Rattle.chain.proofs.Calls.{refined-tabled, refined-refused, tabled-findable, tabled-found}
use Rattle.chain.proofs.chain_lent.Goals as goal

pub overflow_mul-rows : goal.overflow_mul-rows
overflow_mul-rows c =
    let a = c.args in
    let told = c.refine.ensures in
    -- the rows that refining made
    let t = refined-tabled a.script.now a.table.now a.work.now told.reply told.table told.work c.in-Ok.is in
    record { fits = omega (arith, t.room, t.count, c.well_formed) }

pub slice_bounds-find_chain-end : goal.slice_bounds-find_chain-end
slice_bounds-find_chain-end c =
    let a = c.args in
    let told = c.refine.ensures in
    let t = refined-tabled a.script.now a.table.now a.work.now told.reply told.table told.work c.in-Ok.is in
    omega (arith, t.room, t.count, c.refine.auto.table)

pub slice_bounds-find_chain-end-in-Ok : goal.slice_bounds-find_chain-end-in-Ok
slice_bounds-find_chain-end-in-Ok c =
    let a = c.args in
    let told = c.refine.ensures in
    let t = refined-tabled a.script.now a.table.now a.work.now told.reply told.table told.work c.in-Ok.is in
    simp length-take (omega (arith, t.room, t.count, c.refine.auto.table))

pub find_chain-found-requires : goal.find_chain-found-requires
find_chain-found-requires c =
    let a = c.args in
    let told = c.refine.ensures in
    let t = refined-tabled a.script.now a.table.now a.work.now told.reply told.table told.work c.in-Ok.is in
    tabled-findable a.script.now a.price a.table.now a.work.now a.chain.now a.scores.now c.requires t

pub returns-in-Err : goal.returns-in-Err
returns-in-Err c =
    let a = c.args in
    let told = c.refine.ensures in
    refined-refused a.script.now a.table.now a.work.now told.reply told.table told.work a.price
    a.chain.now a.scores.now c.requires c.in-Err.is c.clear_after.ensures

pub returns-in-Ok : goal.returns-in-Ok
returns-in-Ok c =
    let a = c.args in
    let told = c.refine.ensures in
    let t = refined-tabled a.script.now a.table.now a.work.now told.reply told.table told.work c.in-Ok.is in
    tabled-found a.script.now a.price a.table.now a.work.now a.chain.now a.scores.now c.requires t
    c.find_chain-found.auto.chain c.find_chain-found.ensures
