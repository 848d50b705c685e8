-- What refining in the lent buffers brings to the report.
--     lent-room         no more rows than the lent table has
--     report-refined    the report by the reply of refining and the table after it
--     brief-reported    the reply of a try with a small table, and what line two ends in
--     large-reported    without one the reply is that of the large table
-- Assumes nothing.
use Prim.Native.Nat.{ℕ, ◌≤◌}
use mathlib.Core.Path.{◌≡◌, refl, sym, ap, ap₂, subst, ◌∙◌}
use mathlib.Core.List.{List}
use Rattle.std.specs.Prelude.{Result, Ok}
use Rattle.script.proofs.Holding.{holds-admitted}
use Rattle.refining.specs.Refining.{Refining, refining_of}
use Rattle.script.specs.declared.refusal.Refusal.{Refusal}
use Rattle.refine.specs.Calls.{ScriptRefined}
use Rattle.refine.proofs.Calls.{refining-met}
use Rattle.brief_report.proofs.Trying.{rows-room}
use Rattle.reporting.specs.Reporting.{lent_rows, lent_table, lent_work, report_of, report_of_reply, report_of_refining}
use Rattle.reporting.specs.Reporting.{Reporting, reporting_of_text, reporting_of, ReadAs, Briefly}
use Rattle.reporting.specs.LineTwo.{LineTwoPrinted}
use Rattle.reporting.specs.declared.TextTooShort.{TextTooShort}
use Rattle.reporting.proofs.Own.{line-two-printed}
use Rattle.reporting.specs.declared.Brief.{Brief}

report-admits :
    (script : List ℕ) {p q count : ℕ} → ReadAs script p q count
    → report_of script ≡ report_of_refining p q count (refining_of script lent_table lent_work)
unfolding report_of refining_of
report-admits script v =
    let held = holds-admitted script refl v.told in
    rw (held.read, held.counted)

pub lent-room :
    (script table work : List ℕ) {reply : Result ℕ Refusal} {table' work' : List ℕ} {n : ℕ}
    → ScriptRefined script table work reply table' work' → table ≡ lent_table → reply ≡ Ok n → n ≤ lent_rows
lent-room script table work refined t e = rows-room lent_rows t (refining-met refined).1.1.1.0.stated e

pub report-refined :
    (script text : List ℕ) (p q count : ℕ) {table work table' work' : List ℕ} {reply told : Result ℕ Refusal}
    {answer : Reporting}
    → ReadAs script p q count
    → table ≡ lent_table
    → work ≡ lent_work
    → ScriptRefined script table work reply table' work'
    → reply ≡ told
    → reporting_of_text (report_of_reply p q count table' told) text ≡ answer
    → reporting_of script text ≡ answer
report-refined script text p q count admits t w refined e printed =
    let replied = ap (λ (y : Refining). y.reply) refined in
    let wrote = ap (λ (y : Refining). y.table) refined in
    let lent = ap₂ (λ (t w : List ℕ). report_of_refining p q count (refining_of script t w)) t w in
    let told = ap₂ (report_of_reply p q count) wrote (sym e ∙ replied) in
    ap (λ (b : List ℕ). reporting_of_text b text) (report-admits script admits ∙ sym (told ∙ lent)) ∙ printed

-- the reply and the text, by what they are together, and what line two then says
reported : (script text : List ℕ) {r : Result ℕ TextTooShort} {text' : List ℕ}
    → reporting_of script text ≡ record { reply = r; text = text' }
    → (r ≡ (reporting_of script text).reply) × ((text' ≡ (reporting_of script text).text) × LineTwoPrinted script r text')
reported script text e =
    let replied = ap (λ (y : Reporting). y.reply) e in
    let wrote = ap (λ (y : Reporting). y.text) e in
    (sym replied, (sym wrote, rw (← replied, ← wrote) (line-two-printed script text)))

pub brief-reported :
    (script text text' : List ℕ) {answer : Brief} {r : Result ℕ TextTooShort} → answer ≡ Brief.Answered r
    → Briefly script text text' answer
    → (r ≡ (reporting_of script text).reply) × ((text' ≡ (reporting_of script text).text) × LineTwoPrinted script r text')
brief-reported script text text' e tried = reported script text (subst (Briefly script text text') e tried)

pub large-reported :
    (script text text' : List ℕ) {answer : Brief} {p q count : ℕ} {r : Result ℕ TextTooShort} {text'' : List ℕ}
    → answer ≡ Brief.Larger p q count
    → Briefly script text text' answer
    → reporting_of script text' ≡ record { reply = r; text = text'' }
    → (r ≡ (reporting_of script text).reply) × ((text'' ≡ (reporting_of script text).text) × LineTwoPrinted script r text'')
large-reported script text text' e tried printed =
    let kept = (subst (Briefly script text text') e tried).1 in
    reported script text (ap (reporting_of script) (sym kept) ∙ printed)
