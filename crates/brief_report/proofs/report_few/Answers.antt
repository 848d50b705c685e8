-- `report_few` meets its contract: rows that have room in the small table are those that the program's own would have.
-- Assumes nothing.
use Prim.Native.Nat.{◌≤◌}
use native.Mathlib.Omega.{arith}
use lib.ListN.{length-take}
use borrow.Author.Rules.{rules}
use Rattle.rows.proofs.TableRows.{rows-length}
use Rattle.brief_report.specs.Few.{few_rows}
use Rattle.brief_report.proofs.Trying.{rows-room, report-few}
use Rattle.brief_report.proofs.report_few.Goals as goal

pub overflow_mul-table : goal.overflow_mul-table
overflow_mul-table c =
    let few : c.in-Ok.n ≤ few_rows = search (rules, rows-room few_rows) in omega arith

pub slice_bounds-table-end : goal.slice_bounds-table-end
slice_bounds-table-end c =
    let few : c.in-Ok.n ≤ few_rows = search (rules, rows-room few_rows) in omega arith

pub slice_bounds-print_table-end : goal.slice_bounds-print_table-end
slice_bounds-print_table-end c =
    let few : c.in-Ok.n ≤ few_rows = search (rules, rows-room few_rows) in
    simp length-take (omega arith)

pub print_table-requires : goal.print_table-requires
print_table-requires c =
    let few : c.in-Ok.n ≤ few_rows = search (rules, rows-room few_rows) in
    simp (rows-length, length-take) (omega arith)

pub returns-in-Ok : goal.returns-in-Ok
returns-in-Ok c =
    search (rules, report-few)
