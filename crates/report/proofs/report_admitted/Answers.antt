-- `report_admitted` meets its contract: it prints what refining in the lent buffers brings. Assumes nothing.
use Prim.Native.Nat.{◌≤◌}
use native.Mathlib.Omega.{arith}
use lib.ListN.{length-take}
use Rattle.rows.proofs.TableRows.{rows-length}
use Rattle.reporting.specs.Reporting.{lent_rows}
use Rattle.report.proofs.Answers.{lent-room, report-refined}
use Rattle.report.proofs.report_admitted.Goals as goal

pub overflow_mul-table : goal.overflow_mul-table
overflow_mul-table c =
    let few : c.in-Ok.n ≤ lent_rows = lent-room _ _ _ c.refine_long.ensures c.lent_table-table.ensures c.in-Ok.is in
    omega arith

pub slice_bounds-table-end : goal.slice_bounds-table-end
slice_bounds-table-end c =
    let few : c.in-Ok.n ≤ lent_rows = lent-room _ _ _ c.refine_long.ensures c.lent_table-table.ensures c.in-Ok.is in
    omega arith

pub slice_bounds-print_table-end : goal.slice_bounds-print_table-end
slice_bounds-print_table-end c =
    let few : c.in-Ok.n ≤ lent_rows = lent-room _ _ _ c.refine_long.ensures c.lent_table-table.ensures c.in-Ok.is in
    simp length-take (omega arith)

pub print_table-requires : goal.print_table-requires
print_table-requires c =
    let few : c.in-Ok.n ≤ lent_rows = lent-room _ _ _ c.refine_long.ensures c.lent_table-table.ensures c.in-Ok.is in
    simp (rows-length, length-take) (omega arith)

pub returns-in-Err : goal.returns-in-Err
returns-in-Err c =
    report-refined _ _ _ _ _ c.requires c.lent_table-table.ensures c.lent_work-work.ensures c.refine_long.ensures
    c.in-Err.is c.print_refusal.ensures

pub returns-in-Ok : goal.returns-in-Ok
returns-in-Ok c =
    report-refined _ _ _ _ _ c.requires c.lent_table-table.ensures c.lent_work-work.ensures c.refine_long.ensures
    c.in-Ok.is c.print_table.ensures
