-- What reading, and refining in a table of any size, bring to the report.
--     report-refused    the report of a refused script
--     rows-room         no more rows than the table has
--     report-few        rows that have room in the small table are the report's
-- Assumes nothing.
use Prim.Native.Nat.{ℕ, ◌*◌, ◌≤◌}
use mathlib.Core.Path.{◌≡◌, refl, sym, ap, ap₂, subst, ◌∙◌}
use mathlib.Core.List.{List}
use native.Mathlib.Omega.{arith}
use lib.ListN.{length, take, replicate, length-replicate}
use Rattle.std.specs.Prelude.{Result, Ok, Err}
use Rattle.script.specs.Reading.{read_script, verdict_of}
use Rattle.script.specs.declared.refusal.Refusal.{Refusal}
use Rattle.script.specs.declared.Admitted.{Admitted}
use Rattle.script.proofs.Holding.{holds-admitted, reading-refused}
use Rattle.rows.specs.Rows.{row_width, rows_of}
use Rattle.refining.specs.Refining.{refining_of, capacity_of}
use Rattle.refining.specs.Demands.{value, answer_of, MatchesOutcome, RefiningOutcome}
use Rattle.reporting.specs.Lines.{refusal_text, table_text}
use Rattle.reporting.specs.Reporting.{report_of, Reporting, reporting_of_text, reporting_of, ReadAs}
use Rattle.reporting.proofs.Lent.{report-of-rows}
use Rattle.brief_report.specs.Few.{few_rows}

pub report-refused :
    (script text : List ℕ) {told : Result Admitted Refusal} {f : Refusal} {answer : Reporting} → told ≡ verdict_of (read_script script)
    → told ≡ Err f
    → reporting_of_text (refusal_text f) text ≡ answer
    → reporting_of script text ≡ answer
unfolding report_of
report-refused script text e v printed = rw (reading-refused script e v) printed

outcome-room : {script table work : List ℕ} {n : ℕ} → RefiningOutcome script table work (value n) → n ≤ capacity_of table
outcome-room (RefiningOutcome.of_matches a (MatchesOutcome.least_rows enough R L room)) = room

pub rows-room :
    (rows : ℕ) {script table work : List ℕ} {reply : Result ℕ Refusal} {n : ℕ} → table ≡ replicate (row_width * rows) 0
    → RefiningOutcome script table work (answer_of reply)
    → reply ≡ Ok n
    → n ≤ rows
rows-room rows {script} {table} {work} t o e =
    let room = outcome-room (subst (λ (r : Result ℕ Refusal). RefiningOutcome script table work (answer_of r)) e o) in
    omega (arith, room, ap length t, length-replicate {A = ℕ} (row_width * rows) 0)

pub report-few :
    (script text : List ℕ) {p q count n : ℕ} {table work table' : List ℕ} {reply : Result ℕ Refusal} {answer : Reporting}
    → ReadAs script p q count
    → table ≡ replicate (row_width * few_rows) 0
    → RefiningOutcome script table work (answer_of reply)
    → reply ≡ (refining_of script table work).reply
    → table' ≡ (refining_of script table work).table
    → reply ≡ Ok n
    → reporting_of_text (table_text p q count (rows_of (take (row_width * n) table'))) text ≡ answer
    → reporting_of script text ≡ answer
report-few script text {p} {q} {count} {n} {table} {work} admits small outcome replied wrote e printed =
    let few = rows-room few_rows small outcome e in
    let held = holds-admitted script refl admits.told in
    let same = report-of-rows script table work held.read (sym replied ∙ e) (omega arith) in
    let shown : ℕ → List ℕ → List ℕ = λ k t. table_text p q k (rows_of (take (row_width * n) t)) in
    let stands = ap₂ shown (sym held.counted) wrote in
    ap (λ (b : List ℕ). reporting_of_text b text) (sym (stands ∙ same)) ∙ printed
