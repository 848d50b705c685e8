-- What the program prints, and what the call that makes its text does. TO READ: contracts mean what stands here.
--     input_room                so many bytes are read at most
--     lent_table, lent_work      what the program lends for refining
--     report_of script          what the program prints for an input
--     Reporting                the reply of the call, and what the text buffer holds after it
--     reporting_of script text  both, by what the script and the text buffer hold before it
--     ReadAs                   the script is admitted, with these lengths and so many matches
--     Briefly                  what a try with a small table does, by its answer
--     longest_text              so many bytes are room for every report; that they are is a law
-- 01, "One run, complete". Assumes nothing.
use Rattle.std.specs.Prelude.{ℕ, suc, ◌*◌, ◌≡◌, cond, List, ◌++◌, length, take, drop, replicate, ltb, Result, Ok, Err}
use Rattle.script.specs.Limits.{longest_script}
use Rattle.script.specs.Reading.{Reading, admitted, refused, read_script, letters, verdict_of}
use Rattle.script.specs.declared.refusal.Refusal.{Refusal}
use Rattle.rows.specs.Rows.{row_width, rows_of}
use Rattle.refining.specs.Refining.{given_by, Refining, refining_of_matches}
use Rattle.reporting.specs.Lines.{refusal_text, table_text}
use Rattle.reporting.specs.declared.TextTooShort.{TextTooShort}
use Rattle.reporting.specs.declared.Brief.{Brief}

-- SCOPE, "Input": one byte more than the longest admitted script has
abbrev pub input_room : ℕ
input_room = suc longest_script

-- SCOPE, "Program's table": so many rows
abbrev pub lent_rows : ℕ
lent_rows = 3000

abbrev pub lent_table : List ℕ
lent_table = replicate (row_width * lent_rows) 0

-- SCOPE, "Work": four numbers for each row
abbrev pub lent_work : List ℕ
lent_work = replicate (4 * lent_rows) 0

-- the table's text, of the rows that refining counts; or the refusal's
abbrev pub report_of_reply : ℕ → ℕ → ℕ → List ℕ → Result ℕ Refusal → List ℕ
report_of_reply p q count table (Ok n) = table_text p q count (rows_of (take (row_width * n) table))
report_of_reply p q count table (Err r) = refusal_text r

abbrev pub report_of_refining : ℕ → ℕ → ℕ → Refining → List ℕ
report_of_refining p q count x = report_of_reply p q count x.table x.reply

abbrev pub report_of_reading : Reading → List ℕ
report_of_reading (refused r) = refusal_text r
report_of_reading (admitted ls ms ks) =
    report_of_refining (letters ls 0) (letters ls 1) (length ms) (refining_of_matches (given_by ms ks) lent_table lent_work)

-- SCOPE, "Text" and "Refusal line": for any string of bytes the one or the other
unfoldable pub report_of : List ℕ → List ℕ
report_of script = report_of_reading (read_script script)

pub record Reporting : Type 0 where
  pub reply : Result ℕ TextTooShort
  pub text : List ℕ

-- a text that fits stands at the buffer's start, and the bytes behind it are kept; one that does not is not begun
abbrev pub reporting_of_text : List ℕ → List ℕ → Reporting
reporting_of_text printed text =
    let short : Reporting = record { reply = Err (record { needed = length printed }); text = text } in
    let over = printed ++ drop (length printed) text in
    let whole : Reporting = record { reply = Ok (length printed); text = over } in
    cond (ltb (length text) (length printed)) short whole

abbrev pub reporting_of : List ℕ → List ℕ → Reporting
reporting_of script text = reporting_of_text (report_of script) text

-- of the marks the text says nothing
pub record ReadAs (script : List ℕ) (p q count : ℕ) : Type 0 where
  pub marks : ℕ
  pub told : verdict_of (read_script script) ≡ Ok (record { p = p; q = q; count = count; marks = marks })

-- an answer is that of the call; without one the script is admitted, and the buffer as it was
abbrev pub Briefly : List ℕ → List ℕ → List ℕ → Brief → Type 0
Briefly script text text' (Brief.Answered reply) = reporting_of script text ≡ record { reply = reply; text = text' }
Briefly script text text' (Brief.Larger p q count) = ReadAs script p q count × (text' ≡ text)

-- 3,000 rows of at most 86 bytes, thirty classes and the first two lines take less
abbrev pub longest_text : ℕ
longest_text = 262144
