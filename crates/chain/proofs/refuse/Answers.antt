-- `refuse` meets its contract: the script's refusal, 11, 17 and 18 in this order. Assumes nothing.
use native.Mathlib.Omega.{arith}
use Rattle.rows.proofs.TableRows.{rows-length}
use Rattle.chain.proofs.Calls.{refuse-script, read-admitted, refuse-work, refuse-price, refuse-chain}
use Rattle.chain.proofs.refuse.Goals as goal

pub overflow_mul-row_count : goal.overflow_mul-row_count
overflow_mul-row_count c =
    record { fits = omega (arith, rows-length c.args.table.now, c.row_count.ensures) }

pub returns-then-work-row_count : goal.returns-then-work-row_count
returns-then-work-row_count c =
    let a = c.args in
    let given = read-admitted a.script.now c.read.ensures.value c.in-Ok.is in
    refuse-work a.script.now a.price a.table.now a.work.now given
    (omega (arith, rows-length a.table.now))

pub returns-then-price-gt-MOST_PRICE : goal.returns-then-price-gt-MOST_PRICE
returns-then-price-gt-MOST_PRICE c =
    let a = c.args in
    let given = read-admitted a.script.now c.read.ensures.value c.in-Ok.is in
    refuse-price a.script.now a.price a.table.now a.work.now given
    (omega (arith, rows-length a.table.now)) (omega arith)

pub returns-in-Err : goal.returns-in-Err
returns-in-Err c =
    refuse-script _ _ _ _ c.read.ensures.value c.in-Err.is

pub returns-else-price-gt-MOST_PRICE : goal.returns-else-price-gt-MOST_PRICE
returns-else-price-gt-MOST_PRICE c =
    let a = c.args in
    let given = read-admitted a.script.now c.read.ensures.value c.in-Ok.is in
    refuse-chain a.script.now a.price a.table.now a.work.now given
    (omega (arith, rows-length a.table.now)) (omega arith)
