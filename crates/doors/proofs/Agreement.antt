-- A caller who takes 0 for success, and any other number for a refusal, hears of a door what the library answers; and a
-- door leaves what it does not give.
--     Heard, heard     what such a caller goes by: what is handed out, or the number and the place
--     Hears            this is heard, and the rest is as it was
--     number-some      no refusal has the number 0
--     success-heard, refusal-heard, said-heard     of what the doors on scripts share
--     read-heard, write-heard, records-heard, match-heard, refine-heard, chain-heard, carry-heard, carry-all-heard
--                                  of each of these doors
--     rows-heard, summary-heard    of the doors on tables
--     report-heard                 of the door for the text
-- That carrying from one side undoes carrying from the other: proofs/Carrying. Assumes nothing.
use Prim.Native.Nat.{ℕ, zero, suc, ◌-◌, ◌≤◌}
use mathlib.Core.Path.{◌≡◌, refl}
use mathlib.Core.Logic.{◌↔◌, ◌≢◌}
use mathlib.Core.List.{List, ◌++◌}
use native.Mathlib.Omega.{arith}
use native.Mathlib.Decide.{dec_le}
use borrow.Author.Tests.{lt-ltb, le-ltb}
use lib.ListN.{length, take, drop}
use Rattle.std.specs.Prelude.{Result, Ok, Err}
use Rattle.script.specs.Commands.{bit_of}
use Rattle.script.specs.Refusals.{number_of, place_of}
use Rattle.script.specs.Reading.{Reading, admitted, refused, read_script, verdict_of}
use Rattle.script.specs.Finding.{finding_of}
use Rattle.script.specs.declared.refusal.Refusal.{Refusal}
use Rattle.script.specs.declared.Admitted.{Admitted}
use Rattle.script.specs.declared.command.Match.{Match}
use Rattle.records.specs.Writing.{writing_of}
use Rattle.records.specs.Listing.{listing_of}
use Rattle.records.specs.declared.Listed.{Listed}
use Rattle.refinement.specs.declared.Side.{Side}
use Rattle.refining.specs.Refining.{refining_of}
use Rattle.refining.specs.Carrying.{carrying_of}
use Rattle.positions.specs.CarryingAll.{carrying_all_of}
use Rattle.reporting.specs.Reporting.{report_of, reporting_of_text, reporting_of}
use Rattle.backbone.specs.Chaining.{chaining_of}
use Rattle.backbone.specs.declared.Chained.{Chained}
use Rattle.table.specs.Finding.{size_of, part_of}
use Rattle.table.specs.Summing.{summary_of}
use Rattle.doors.specs.Doors.{Reply, door, Read, of_reading, read_door, OneMatch, of_finding}
use Rattle.doors.specs.Doors.{match_door, refine_door, carry_door, carry_from_a, carry_from_b}
use Rattle.doors.specs.Doors.{rows_door, summary_door, ReportReply, of_reported, report_door}
use Rattle.doors.specs.Doors.{write_door, of_listed, records_door, OneChain, of_chained, chain_door}
use Rattle.doors.specs.Doors.{of_carried_all, carry_all_door, carry_all_from_a, carry_all_from_b}

-- ---- what the doors on scripts share

data Heard (X : Type 0) : Type 0 where
  success : X → Heard X
  failure : (number place : ℕ) → Heard X

abbrev heard_by : {X : Type 0} → ℕ → ℕ → X → Heard X
heard_by zero place x = success x
heard_by (suc n) place x = failure (suc n) place

abbrev heard : {X : Type 0} → Reply X → Heard X
heard x = heard_by x.number x.place x.given

-- "A refusal returns its number and a place."
abbrev refusal_heard : {X : Type 0} → Refusal → Heard X
refusal_heard r = failure (number_of r) (place_of r)

-- what a call of the library says, as it is
abbrev said_heard : {X : Type 0} → Result X Refusal → Heard X
said_heard (Ok x) = success x
said_heard (Err r) = refusal_heard r

-- where `place` and `was` stood behind the pointers, the reply tells y and leaves the rest
record Hears {X : Type 0} (place : ℕ) (was : X) (y : Heard X) (x : Reply X) : Type 0 where
  told : heard x ≡ y
  -- "After success too, lent numbers .. that no rule .. names keep their values."
  place_kept : x.number ≡ 0 → x.place ≡ place
  -- "a refused call leaves each lent number unaltered"
  rest_kept : x.number ≢ 0 → x.given ≡ was

pub number-some : (r : Refusal) → 1 ≤ number_of r
number-some Refusal.Headless = omega arith
number-some (Refusal.UnknownCommand at) = omega arith
number-some (Refusal.CutShort at) = omega arith
number-some (Refusal.SecondLengths at) = omega arith
number-some Refusal.LengthOutOfRange = omega arith
number-some (Refusal.TooManyMatches at) = omega arith
number-some (Refusal.EmptyMatch at) = omega arith
number-some (Refusal.BeyondA at) = omega arith
number-some (Refusal.BeyondB at) = omega arith
number-some (Refusal.Tail at) = omega arith
number-some Refusal.WorkTooShort = omega arith
number-some Refusal.TooManyPieces = omega arith
number-some Refusal.NoSuchMatch = omega arith
number-some Refusal.OffTheMatch = omega arith
number-some (Refusal.MalformedRecords at) = omega arith
number-some Refusal.BufferTooShort = omega arith
number-some Refusal.PriceTooHigh = omega arith
number-some Refusal.ChainTooShort = omega arith
number-some (Refusal.TooManyMarks at) = omega arith
number-some (Refusal.NoSuchSide at) = omega arith
number-some (Refusal.MarkBeyond at) = omega arith
number-some Refusal.CountsDiffer = omega arith

some-heard : {X : Type 0} (n place : ℕ) (x : X) → 1 ≤ n → heard_by n place x ≡ failure n place
some-heard zero place x h = absurd (omega arith)
some-heard (suc n) place x h = refl

module _ {X : Type 0} (place : ℕ) (was : X) where
  success-heard : (x : X) → Hears place was (success x) (door (Ok x) place was)
  success-heard x = record { told = refl; place_kept = λ _. refl; rest_kept = λ n. absurd (n refl) }

  refusal-heard : (r : Refusal) → Hears place was (refusal_heard r) (door (Err r) place was)
  refusal-heard r =
      let some = number-some r in
      record {
        told = some-heard (number_of r) (place_of r) was some;
        place_kept = λ e. absurd (omega arith);
        rest_kept = λ _. refl;
      }

  said-heard : (a : Result X Refusal) → Hears place was (said_heard a) (door a place was)
  said-heard (Ok x) = success-heard x
  said-heard (Err r) = refusal-heard r

-- ---- the doors on scripts

-- the verdict on the script
abbrev verdict_heard : Result Admitted Refusal → Heard Read
verdict_heard (Ok a) = success (record { p = a.p; q = a.q; count = a.count; marks = a.marks })
verdict_heard (Err r) = refusal_heard r

read-heard : (script : List ℕ) (place : ℕ) (was : Read)
    → Hears place was (verdict_heard (verdict_of (read_script script))) (read_door script place was)
read-heard script place was = go (read_script script)
  where
    go : (a : Reading) → Hears place was (verdict_heard (verdict_of a)) (door (of_reading a) place was)
    go (admitted ls ms ks) = success-heard place was _
    go (refused r) = refusal-heard place was r

-- the length of the script that is written
write-heard : (p q : ℕ) (records marks script : List ℕ) (place was : ℕ)
    → Hears place was (said_heard (writing_of p q records marks script).reply)
    (write_door p q records marks script place was)
write-heard p q records marks script place was = said-heard place was (writing_of p q records marks script).reply

-- the lengths and the counts of the records and marks that are read
abbrev listed_heard : Result Listed Refusal → Heard Read
listed_heard (Ok l) = success (record { p = l.p; q = l.q; count = l.count; marks = l.marks })
listed_heard (Err r) = refusal_heard r

records-heard : (script records marks : List ℕ) (place : ℕ) (was : Read)
    → Hears place was (listed_heard (listing_of script records marks).reply)
    (records_door script records marks place was)
records-heard script records marks place was = go (listing_of script records marks).reply
  where
    go : (a : Result Listed Refusal) → Hears place was (listed_heard a) (door (of_listed a) place was)
    go (Ok l) = success-heard place was _
    go (Err r) = refusal-heard place was r

-- the match that is found
abbrev finding_heard : Result Match Refusal → Heard OneMatch
finding_heard (Ok m) =
    success
    (record { left_a = m.left_a; left_b = m.left_b; letters = m.length; reversed = bit_of m.reversed })
finding_heard (Err r) = refusal_heard r

match-heard : (script : List ℕ) (number place : ℕ) (was : OneMatch)
    → Hears place was (finding_heard (finding_of (read_script script) number)) (match_door script number place was)
match-heard script number place was = go (finding_of (read_script script) number)
  where
    go : (a : Result Match Refusal) → Hears place was (finding_heard a) (door (of_finding a) place was)
    go (Ok m) = success-heard place was _
    go (Err r) = refusal-heard place was r

-- the count of rows
refine-heard : (script table work : List ℕ) (place was : ℕ)
    → Hears place was (said_heard (refining_of script table work).reply) (refine_door script table work place was)
refine-heard script table work place was = said-heard place was (refining_of script table work).reply

-- the score, the count of rows and the chain's length
abbrev chained_heard : Result Chained Refusal → Heard OneChain
chained_heard (Ok c) = success (record { score = c.score; rows = c.rows; length = c.length })
chained_heard (Err r) = refusal_heard r

chain-heard : (script : List ℕ) (price : ℕ) (table work chain scores : List ℕ) (place : ℕ) (was : OneChain)
    → Hears place was (chained_heard (chaining_of script price table work chain scores).reply)
    (chain_door script price table work chain scores place was)
chain-heard script price table work chain scores place was = go (chaining_of script price table work chain scores).reply
  where
    go : (a : Result Chained Refusal) → Hears place was (chained_heard a) (door (of_chained a) place was)
    go (Ok c) = success-heard place was _
    go (Err r) = refusal-heard place was r

-- the carried position
carry-heard : (side : Side) (script : List ℕ) (number position place was : ℕ)
    → Hears place was (said_heard (carrying_of script number side position))
    (carry_door side script number position place was)
carry-heard side script number position place was = said-heard place was (carrying_of script number side position)

module _ (script : List ℕ) (number position place was : ℕ) where
  carry-a-heard :
      Hears place was (said_heard (carrying_of script number Side.A position))
      (carry_from_a script number position place was)
  carry-a-heard = carry-heard Side.A script number position place was

  carry-b-heard :
      Hears place was (said_heard (carrying_of script number Side.B position))
      (carry_from_b script number position place was)
  carry-b-heard = carry-heard Side.B script number position place was

-- the carried positions, all of them
abbrev carried_all_heard : Result (Unit {0}) Refusal → List ℕ → Heard (List ℕ)
carried_all_heard (Ok _) carried = success carried
carried_all_heard (Err r) carried = refusal_heard r

carry-all-heard : (side : Side) (script : List ℕ) (number : ℕ) (positions : List ℕ) (place : ℕ) (was : List ℕ)
    → let made = carrying_all_of script number side positions was in
    Hears place was (carried_all_heard made.reply made.carried)
    (carry_all_door side script number positions place was)
carry-all-heard side script number positions place was =
    let made = carrying_all_of script number side positions was in go made.reply made.carried
  where
    go : (a : Result (Unit {0}) Refusal) (carried : List ℕ)
        → Hears place was (carried_all_heard a carried) (door (of_carried_all a carried) place was)
    go (Ok _) carried = success-heard place was carried
    go (Err r) carried = refusal-heard place was r

module _ (script : List ℕ) (number : ℕ) (positions : List ℕ) (place : ℕ) (was : List ℕ) where
  carry-all-a-heard : let made = carrying_all_of script number Side.A positions was in
      Hears place was (carried_all_heard made.reply made.carried)
      (carry_all_from_a script number positions place was)
  carry-all-a-heard = carry-all-heard Side.A script number positions place was

  carry-all-b-heard : let made = carrying_all_of script number Side.B positions was in
      Hears place was (carried_all_heard made.reply made.carried)
      (carry_all_from_b script number positions place was)
  carry-all-b-heard = carry-all-heard Side.B script number positions place was

-- ---- the doors on tables

-- "the very part of the caller's table that holds them"
rows-heard : (t : List ℕ) (n : ℕ) → let x = rows_door t n in take (x.end - x.start) (drop x.start t) ≡ part_of n t
rows-heard t n =
    let x = rows_door t n in
    let size : x.end - x.start ≡ size_of n t = omega arith in
    rw size refl

summary-heard : (t : List ℕ) → let x = summary_door t in
    record { pieces = x.pieces; distinct = x.distinct; covers = x.covers; classes = x.classes } ≡ summary_of t
summary-heard t = refl

-- ---- the door for the text

record Texts (printed text : List ℕ) (x : ReportReply) (text' : List ℕ) : Type 0 where
  -- the length of the text is told, whether or not it fits
  told : x.length ≡ length printed
  -- it is printed if it fits, and the bytes behind it are as they were
  whole : x.number ≡ 0 → text' ≡ printed ++ drop (length printed) text
  fits : x.number ≡ 0 ↔ length printed ≤ length text
  -- and else all of them are, and the number is 16
  kept : x.number ≢ 0 → text' ≡ text
  refused : x.number ≢ 0 → x.number ≡ 16

report-heard : (script text : List ℕ)
    → Texts (report_of script) text (report_door script text) (reporting_of script text).text
report-heard script text = go (report_of script)
  where
    go : (printed : List ℕ) → let x = reporting_of_text printed text in
        Texts printed text (of_reported x.reply) x.text
    go printed =
        elim (dec_le (length printed) (length text)) [
          | yes room ↦ rw (le-ltb (length text) (length printed) room)
              (record {
                told = refl;
                whole = λ _. refl;
                fits = (λ _. room, λ _. refl);
                kept = λ n. absurd (n refl);
                refused = λ n. absurd (n refl);
              })
          | no short ↦ rw (lt-ltb (length text) (length printed) (omega arith))
              (record {
                told = refl;
                whole = λ e. absurd (omega arith);
                fits = (λ e. absurd (omega arith), λ room. absurd (short room));
                kept = λ _. refl;
                refused = λ _. refl;
              })
        ]
