-- When a text is printed; the program's buffer is long enough.
--     report-whole     a report that is no longer than the buffer is printed whole, and the bytes behind it are kept
--     report-short     for a longer one its length is told, and every byte is kept
--     report-fits      no report is longer than longest_text ..
--     report-printed   .. so that the call prints it whole into such a buffer
--     printed-stands   what is printed is the report, at the buffer's start
-- A table has at most 3,000 rows, because refining writes no more rows than the lent table has room for.
-- Assumes nothing.
use Prim.Native.Nat.{ℕ, ◌*◌, ◌≤◌, ◌<◌}
use mathlib.Core.Path.{◌≡◌, refl, sym, ap, ◌∙◌}
use mathlib.Core.List.{List, ◌++◌, map}
use native.Mathlib.Omega.{arith}
use native.Mathlib.Decide.{dec_le}
use lib.ListN.{length, drop, length-map, length-replicate}
use borrow.Author.Tests.{lt-ltb, le-ltb}
use Rattle.std.specs.Prelude.{Result, Ok, Err}
use Rattle.script.specs.Reading.{Reading, admitted, refused, read_script, letters}
use Rattle.script.specs.declared.refusal.Refusal.TheVariants.{TooManyPieces}
use Rattle.rows.specs.Rows.{row_width}
use Rattle.refining.specs.Rows.{row_of_piece}
use Rattle.refining.specs.Refining.{Given, given_by, least_of, capacity_of, refining_of_matches}
use Rattle.reporting.specs.Reporting.{lent_rows, lent_table, lent_work, report_of_refining, report_of_reading, report_of}
use Rattle.reporting.specs.Reporting.{reporting_of, longest_text}
use Rattle.reporting.specs.declared.TextTooShort.{TextTooShort}
use Rattle.reporting.proofs.Bounds.{refusal-text-short, table-text-short}
use Rattle.reporting.proofs.LeastRows.{report-crowded, report-rows}

matches-fit : (p q count : ℕ) (g : Given) (table work : List ℕ) → length table ≡ row_width * lent_rows
    → length work ≡ 4 * lent_rows → length (report_of_refining p q count (refining_of_matches g table work)) ≤ longest_text
matches-fit p q count g table work rows numbers =
    let least = least_of g in
    let text = table-text-short p q count (map row_of_piece least) in
    elim (dec_le (length least) (capacity_of table)) [
      | yes room ↦ rw (report-rows p q count g table work (omega arith) room)
          (omega (arith, length-map least row_of_piece))
      | no many ↦ rw (report-crowded p q count g table work (omega arith) (omega arith))
          (omega (arith, refusal-text-short TooManyPieces))
    ]

pub report-fits : (s : List ℕ) → length (report_of s) ≤ longest_text
unfolding report_of
report-fits s = go (read_script s)
  where
    go : (r : Reading) → length (report_of_reading r) ≤ longest_text
    go (refused r) = omega (arith, refusal-text-short r)
    go (admitted ls ms ks) =
        matches-fit (letters ls 0) (letters ls 1) (length ms) (given_by ms ks) lent_table lent_work
        (length-replicate {A = ℕ} (row_width * lent_rows) 0) (length-replicate {A = ℕ} (4 * lent_rows) 0)

-- a text that fills the buffer to its last byte has room
pub report-whole :
    (script text : List ℕ) → length (report_of script) ≤ length text
    → reporting_of script text
    ≡ record {
      reply = Ok (length (report_of script));
      text = report_of script ++ drop (length (report_of script)) text;
    }
report-whole script text room = rw (le-ltb (length text) (length (report_of script)) room) refl

pub report-short :
    (script text : List ℕ) → length text < length (report_of script)
    → reporting_of script text ≡ record { reply = Err (record { needed = length (report_of script) }); text = text }
report-short script text short = rw (lt-ltb (length text) (length (report_of script)) short) refl

pub report-printed :
    (script text : List ℕ) → longest_text ≤ length text
    → reporting_of script text
    ≡ record {
      reply = Ok (length (report_of script));
      text = report_of script ++ drop (length (report_of script)) text;
    }
report-printed script text room = report-whole script text (omega (arith, report-fits script))

pub printed-stands :
    (script text : List ℕ) {n : ℕ} {text' : List ℕ}
    → reporting_of script text ≡ record { reply = Ok n; text = text' }
    → (n ≡ length (report_of script)) × (text' ≡ report_of script ++ drop (length (report_of script)) text)
printed-stands script text {n} e =
    elim (dec_le (length (report_of script)) (length text)) [
      | yes room ↦
          let whole = sym e ∙ report-whole script text room in
          let told : ◌≡◌ {A = Result ℕ TextTooShort} (Ok n) (Ok (length (report_of script))) = ap (λ x. x.reply) whole in
          (cc, ap (λ x. x.text) whole)
      | no many ↦
          let short = sym e ∙ report-short script text (omega arith) in
          let told : ◌≡◌ {A = Result ℕ TextTooShort} (Ok n) (Err (record { needed = length (report_of script) })) = ap (λ x. x.reply) short in
          let z : ◌≡◌ {A = ℕ} 0 1 = cc in
          absurd (omega arith)
    ]
