-- `span_of` meets its contract: the rows of a match stand from the first of them to the end of their run.
-- Assumes nothing.
use Prim.Native.Nat.{◌≤◌}
use native.Mathlib.Omega.{arith}
use lib.ListN.{length, drop, length-drop}
use Rattle.rows.specs.Rows.{rows_of}
use Rattle.table.specs.Finding.{has_number, before}
use Rattle.rows.proofs.TableRows.{rows-length}
use Rattle.table.proofs.Runs.{leading-inside, start-missing, size-missing}
use Rattle.match_rows.proofs.span_of.Goals as goal

pub overflow_mul-result : goal.overflow_mul-result
overflow_mul-result c = omega (arith, rows-length c.args.table.now)

pub overflow_mul-result-then-first-rows : goal.overflow_mul-result-then-first-rows
overflow_mul-result-then-first-rows c =
    let at = c.args in
    let first = c.rows_before-first.result in
    let rs = rows_of at.table.now in
    omega (arith, rows-length at.table.now, leading-inside (has_number at.number) (drop first rs), length-drop first rs)

pub returns-else-first-rows : goal.returns-else-first-rows
returns-else-first-rows c =
    let at = c.args in
    let none : length (rows_of at.table.now) ≤ before at.number (rows_of at.table.now) = omega arith in
    rw (start-missing at.number at.table.now none, size-missing at.number at.table.now none)
