-- How much the program lends, and that what it held before changes nothing that is printed.
--     lent_rows-lengths       "a table of 3,000 rows": 15,000 numbers, and 12,000 of work
--     report-lent     tables of as many rows and work buffers of enough numbers give one report ..
--     report-of-lent  .. so that the program may lend any of 3,000 rows
--     report-of-rows  a smaller table that has room gives the same report
-- Assumes nothing.
use Prim.Native.Nat.{ℕ, ◌*◌, ◌≤◌}
use mathlib.Core.Path.{◌≡◌, sym, ap, ◌∙◌}
use mathlib.Core.List.{List, [], ◌∷◌}
use native.Mathlib.Omega.{arith}
use native.Mathlib.Decide.{dec_le}
use lib.ListN.{length, take, length-replicate}
use Rattle.std.specs.Prelude.{Ok}
use Rattle.script.specs.Reading.{admitted, read_script}
use Rattle.script.specs.declared.command.Match.{Match as ScriptMatch}
use Rattle.script.specs.declared.command.Mark.{Mark}
use Rattle.rows.specs.Rows.{row_width, rows_of}
use Rattle.refining.specs.Refining.{Given, given_by, least_of, capacity_of, work_needed, refining_of_matches}
use Rattle.refining.specs.Refining.{refining_of}
use Rattle.refining.proofs.Numbered.{admitted_of}
use Rattle.reporting.specs.Lines.{table_text}
use Rattle.reporting.specs.Reporting.{lent_rows, lent_table, lent_work, report_of_refining, report_of}
use Rattle.reporting.proofs.LeastRows.{LeastRows, least_rows, report-crowded, report-rows}

pub lent_rows-lengths : (length lent_table ≡ 15000) × (length lent_work ≡ 12000)
lent_rows-lengths = (length-replicate {A = ℕ} (row_width * lent_rows) 0, length-replicate {A = ℕ} (4 * lent_rows) 0)

pub report-lent : (p q count : ℕ) (g : Given) (table table' work work' : List ℕ)
    → capacity_of table ≡ capacity_of table' → work_needed table ≤ length work → work_needed table' ≤ length work'
    → report_of_refining p q count (refining_of_matches g table work)
    ≡ report_of_refining p q count (refining_of_matches g table' work')
report-lent p q count g table table' work work' same enough enough' =
    elim (dec_le (length (least_of g)) (capacity_of table)) [
      | yes room ↦
          report-rows p q count g table work enough room
          ∙ sym (report-rows p q count g table' work' enough' (omega arith))
      | no many ↦
          report-crowded p q count g table work enough (omega arith)
          ∙ sym (report-crowded p q count g table' work' enough' (omega arith))
    ]

pub report-of-lent : (s table work : List ℕ) {p q : ℕ} {ms : List ScriptMatch} {ks : List Mark}
    → read_script s ≡ admitted (p ∷ q ∷ []) ms ks
    → capacity_of table ≡ lent_rows → 4 * lent_rows ≤ length work
    → report_of_refining p q (length ms) (refining_of s table work) ≡ report_of s
unfolding report_of refining_of
report-of-lent s table work {p} {q} {ms} {ks} read rows numbers =
    rw read
    (report-lent p q (length ms) (given_by ms ks) table lent_table work lent_work (omega (arith, lent_rows-lengths.0))
    (omega arith) (omega (arith, lent_rows-lengths)))

pub report-of-rows :
    (s table work : List ℕ) {p q n : ℕ} {ms : List ScriptMatch} {ks : List Mark}
    → read_script s ≡ admitted (p ∷ q ∷ []) ms ks
    → (refining_of s table work).reply ≡ Ok n → n ≤ lent_rows
    → table_text p q (length ms) (rows_of (take (row_width * n) (refining_of s table work).table)) ≡ report_of s
unfolding report_of
report-of-rows s table work {p} {q} {n} {ms} {ks} read replied few =
    let least : LeastRows (given_by ms ks) n (refining_of s table work).table =
    least_rows s table work (admitted_of read) replied in
    let lent =
    report-rows p q (length ms) (given_by ms ks) lent_table lent_work (omega (arith, lent_rows-lengths))
    (omega (arith, least.count, lent_rows-lengths.0)) in
    rw read (ap (table_text p q (length ms)) least.rows ∙ sym lent)
