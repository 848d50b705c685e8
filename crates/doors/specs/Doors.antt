-- What each door returns and leaves behind its pointers. TO READ: contracts mean what stands here.
--     Reply X          the number returned, and what stands behind the pointers: the place, and what is handed out
--     door             what a door makes of what a call of the library says: something to hand out, or a refusal
--     read_door, match_door, refine_door, carry_from_a, carry_from_b     the doors on scripts
--     carry_all_from_a, carry_all_from_b     the doors for lists of positions
--     chain_door        the door for the backbone
--     write_door, records_door     the doors for lists
--     rows_door, summary_door     the doors on tables, which refuse nothing
--     report_door       the door for the text
-- `place` and `was` stood behind the pointers before the call. Assumes nothing.
use Rattle.std.specs.Prelude.{ℕ, List, length, Result, Ok, Err}
use Rattle.script.specs.Commands.{bit_of}
use Rattle.script.specs.Refusals.{number_of, place_of}
use Rattle.script.specs.Reading.{Reading, admitted, refused, read_script, letters}
use Rattle.script.specs.Finding.{finding_of}
use Rattle.script.specs.declared.refusal.Refusal.{Refusal}
use Rattle.script.specs.declared.refusal.Refusal.TheVariants.{BufferTooShort}
use Rattle.script.specs.declared.command.Match.{Match}
use Rattle.records.specs.Writing.{writing_of}
use Rattle.records.specs.Listing.{listing_of}
use Rattle.records.specs.declared.Listed.{Listed}
use Rattle.refinement.specs.declared.Side.{Side}
use Rattle.refinement.specs.declared.Side.TheVariants.{A, B}
use Rattle.refining.specs.Refining.{refining_of}
use Rattle.refining.specs.Carrying.{carrying_of}
use Rattle.positions.specs.CarryingAll.{carrying_all_of}
use Rattle.reporting.specs.Reporting.{reporting_of}
use Rattle.reporting.specs.declared.TextTooShort.{TextTooShort}
use Rattle.backbone.specs.Chaining.{chaining_of}
use Rattle.backbone.specs.declared.Chained.{Chained}
use Rattle.table.specs.Finding.{span_of}
use Rattle.table.specs.Summing.{summary_of}
use Rattle.table.specs.declared.finding.Span.{Span}
use Rattle.table.specs.declared.summing.Summary.{Summary}

-- ---- what the doors on scripts share

-- what is returned, the place, and what stands behind the other pointers
pub record Reply (X : Type 0) : Type 0 where
  pub number : ℕ
  pub place : ℕ
  pub given : X

-- SCOPE, "Place": a refusal gives its number and a place; 0 is no refusal's number. What is not given is as it was:
-- SCOPE, "Kept when refused" and "Kept on success".
abbrev pub door : {X : Type 0} → Result X Refusal → ℕ → X → Reply X
door (Ok x) place was = record { number = 0; place = place; given = x }
door (Err r) place was = record { number = number_of r; place = place_of r; given = was }

-- ---- reading

-- behind p, q, count and mark_count
pub record Read : Type 0 where
  pub p : ℕ
  pub q : ℕ
  pub count : ℕ
  pub marks : ℕ

-- of an admitted script its lengths and its counts of matches and marks
abbrev pub of_reading : Reading → Result Read Refusal
of_reading (admitted ls ms ks) =
    Ok (record { p = letters ls 0; q = letters ls 1; count = length ms; marks = length ks })
of_reading (refused r) = Err r

-- notchergrey_read
abbrev pub read_door : List ℕ → ℕ → Read → Reply Read
read_door script place was = door (of_reading (read_script script)) place was

-- ---- lists

-- notchergrey_write; SCOPE, "Written": the script's length. What the lent bytes are after it is the library's
-- `writing_of`.
abbrev pub write_door : ℕ → ℕ → List ℕ → List ℕ → List ℕ → ℕ → ℕ → Reply ℕ
write_door p q records marks script place was = door (writing_of p q records marks script).reply place was

-- SCOPE, "Listed": the lengths and the counts of records and marks
abbrev pub of_listed : Result Listed Refusal → Result Read Refusal
of_listed (Ok l) = Ok (record { p = l.p; q = l.q; count = l.count; marks = l.marks })
of_listed (Err r) = Err r

-- notchergrey_read_records; what the lent numbers are after it is the library's `listing_of`
abbrev pub records_door : List ℕ → List ℕ → List ℕ → ℕ → Read → Reply Read
records_door script records marks place was = door (of_listed (listing_of script records marks).reply) place was

-- ---- one match

-- behind left_a, left_b, length and reversed
pub record OneMatch : Type 0 where
  pub left_a : ℕ
  pub left_b : ℕ
  pub letters : ℕ
  pub reversed : ℕ

-- of a match that is there its numbers
abbrev pub of_finding : Result Match Refusal → Result OneMatch Refusal
of_finding (Ok m) =
    Ok (record { left_a = m.left_a; left_b = m.left_b; letters = m.length; reversed = bit_of m.reversed })
of_finding (Err r) = Err r

-- notchergrey_match; SCOPE, "Numbering": from 1
abbrev pub match_door : List ℕ → ℕ → ℕ → OneMatch → Reply OneMatch
match_door script number place was = door (of_finding (finding_of (read_script script) number)) place was

-- ---- refining

-- notchergrey_refine; SCOPE, "Success": the count of rows. What the lent table and work buffer hold after it is the
-- library's `refining_of`.
abbrev pub refine_door : List ℕ → List ℕ → List ℕ → ℕ → ℕ → Reply ℕ
refine_door script table work place was = door (refining_of script table work).reply place was

-- ---- the backbone

-- behind score, rows and length
pub record OneChain : Type 0 where
  pub score : ℕ
  pub rows : ℕ
  pub length : ℕ

-- SCOPE, "Chained": the score, the count of rows and the chain's length
abbrev pub of_chained : Result Chained Refusal → Result OneChain Refusal
of_chained (Ok c) = Ok (record { score = c.score; rows = c.rows; length = c.length })
of_chained (Err r) = Err r

-- notchergrey_chain; what the four lent buffers hold after it is the library's `chaining_of`
abbrev pub chain_door : List ℕ → ℕ → List ℕ → List ℕ → List ℕ → List ℕ → ℕ → OneChain → Reply OneChain
chain_door script price table work chain scores place was =
    door (of_chained (chaining_of script price table work chain scores).reply) place was

-- ---- carrying

-- from the side named: where the position lies on the other side
abbrev pub carry_door : Side → List ℕ → ℕ → ℕ → ℕ → ℕ → Reply ℕ
carry_door side script number position place was = door (carrying_of script number side position) place was

-- notchergrey_carry_from_a
abbrev pub carry_from_a : List ℕ → ℕ → ℕ → ℕ → ℕ → Reply ℕ
carry_from_a script number position place was = carry_door A script number position place was

-- notchergrey_carry_from_b; SCOPE, "Carrying": the way back (laws a-then-b, b-then-a)
abbrev pub carry_from_b : List ℕ → ℕ → ℕ → ℕ → ℕ → Reply ℕ
carry_from_b script number position place was = carry_door B script number position place was

-- SCOPE, "Carrying together": all numbers of the lent buffer
abbrev pub of_carried_all : Result (Unit {0}) Refusal → List ℕ → Result (List ℕ) Refusal
of_carried_all (Ok _) carried = Ok carried
of_carried_all (Err r) carried = Err r

-- from the side named; `was` stood in the lent buffer before the call
abbrev pub carry_all_door : Side → List ℕ → ℕ → List ℕ → ℕ → List ℕ → Reply (List ℕ)
carry_all_door side script number positions place was =
    let made = carrying_all_of script number side positions was in
    door (of_carried_all made.reply made.carried) place was

-- notchergrey_carry_all_from_a
abbrev pub carry_all_from_a : List ℕ → ℕ → List ℕ → ℕ → List ℕ → Reply (List ℕ)
carry_all_from_a script number positions place was = carry_all_door A script number positions place was

-- notchergrey_carry_all_from_b; SCOPE, "Carrying together": the way back (laws all-a-then-b, all-b-then-a)
abbrev pub carry_all_from_b : List ℕ → ℕ → List ℕ → ℕ → List ℕ → Reply (List ℕ)
carry_all_from_b script number positions place was = carry_all_door B script number positions place was

-- ---- tables

-- what is returned, and what stands behind start and end
pub record RowsReply : Type 0 where
  pub number : ℕ
  pub start : ℕ
  pub end : ℕ

-- always 0, and where the rows of a match stand
abbrev pub of_span : Span → RowsReply
of_span s = record { number = 0; start = s.start; end = s.end }

-- notchergrey_rows_of
abbrev pub rows_door : List ℕ → ℕ → RowsReply
rows_door table number = of_span (span_of number table)

-- what is returned, and what stands behind the pointers
pub record SummaryReply : Type 0 where
  pub number : ℕ
  pub pieces : ℕ
  pub distinct : ℕ
  pub covers : List ℕ
  pub classes : List ℕ

-- always 0, and every number of the summary
abbrev pub of_summary : Summary → SummaryReply
of_summary s =
    record { number = 0; pieces = s.pieces; distinct = s.distinct; covers = s.covers; classes = s.classes }

-- notchergrey_summary
abbrev pub summary_door : List ℕ → SummaryReply
summary_door table = of_summary (summary_of table)

-- ---- the text

-- what is returned, and what stands behind length
pub record ReportReply : Type 0 where
  pub number : ℕ
  pub length : ℕ

-- a text that fits: 0 and its length; else the number of a buffer that is too short, and the length that it needs
abbrev pub of_reported : Result ℕ TextTooShort → ReportReply
of_reported (Ok n) = record { number = 0; length = n }
of_reported (Err short) = record { number = number_of BufferTooShort; length = short.needed }

-- notchergrey_report; what the lent text holds after it is the library's `reporting_of`
abbrev pub report_door : List ℕ → List ℕ → ReportReply
report_door script text = of_reported (reporting_of script text).reply
