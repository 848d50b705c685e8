-- What writing lists as a script does. TO READ: contracts mean what stands here.
--     record_judgement            the fault of a record, if it has one
--     judged_from judge n xs      the first fault of the records or marks xs, the first of which has the number n
--     judgement_of p q ns zs      the first fault of a list of records and a list of marks
--     Writing                    the reply of the call, and what the lent buffer holds after it
--     writing_of p q ns zs out    both, by what is handed over and what the buffer holds before it
-- 02, #101 and #106; SCOPE, "Order of writing". Assumes nothing.
use Rattle.std.specs.Prelude.{ℕ, ◌+◌, ◌*◌, ◌%◌, cond, ◌&&◌, List, [], ◌∷◌, ◌++◌, length, drop, ltb, eqb, Result, Ok, Err}
use Rattle.script.specs.Limits.{most_matches, most_marks}
use Rattle.script.specs.Steps.{lengths_step, match_judgement, mark_judgement}
use Rattle.script.specs.declared.refusal.Refusal.{Refusal}
use Rattle.script.specs.declared.refusal.Refusal.TheVariants.{TooManyMatches, MalformedRecords, BufferTooShort}
use Rattle.script.specs.declared.refusal.Refusal.TheVariants.{TooManyMarks}
use Rattle.script.specs.declared.step.Lengths.{Lengths}
use Rattle.records.specs.Records.{record_width, records_of, match_of, matches_of, mark_numbers, points_of}
use Rattle.records.specs.Bytes.{bytes_of}
use Rattle.records.specs.declared.Record.{Record}

-- ---- the first fault

-- at a record: 15 for its direction, then 7, 8, 9 as at a match of a script
abbrev pub record_judgement : ℕ → ℕ → ℕ → Record → Result (Unit {0}) Refusal
record_judgement p q number r =
    cond (ltb 1 r.direction) (Err (MalformedRecords number)) (match_judgement p q number (match_of r))

-- a fault, or what comes behind
abbrev pub first_fault : Result (Unit {0}) Refusal → Result (Unit {0}) Refusal → Result (Unit {0}) Refusal
first_fault (Ok _) later = later
first_fault (Err f) later = Err f

-- SCOPE, "Place of a record": each has the next number
unfoldable pub judged_from : {X : Type 0} → (ℕ → X → Result (Unit {0}) Refusal) → ℕ → List X → Result (Unit {0}) Refusal
judged_from judge number [] = Ok tt
judged_from judge number (x ∷ xs) = first_fault (judge number x) (judged_from judge (number + 1) xs)

-- the records, numbered from 1
abbrev pub records_judgement : ℕ → ℕ → List ℕ → Result (Unit {0}) Refusal
records_judgement p q ns = judged_from (record_judgement p q) 1 (records_of ns)

-- SCOPE, "Place of a record": the marks, behind so many records, are numbered on from them; 20, 21 as at a mark of a
-- script
abbrev pub marks_judgement : ℕ → ℕ → ℕ → List ℕ → Result (Unit {0}) Refusal
marks_judgement p q count zs = judged_from (mark_judgement p q) (count + 1) (points_of zs)

-- 15 for the count of numbers of either list, then 6, then 19, then the records and the marks
abbrev pub list_judgement : ℕ → ℕ → List ℕ → List ℕ → Result (Unit {0}) Refusal
list_judgement p q ns zs =
    cond (eqb (length ns % record_width) 0 && eqb (length zs % mark_numbers) 0)
    (cond (ltb (record_width * most_matches) (length ns)) (Err (TooManyMatches 0))
    (cond (ltb (mark_numbers * most_marks) (length zs)) (Err (TooManyMarks 0))
    (first_fault (records_judgement p q ns) (marks_judgement p q (length (records_of ns)) zs))))
    (Err (MalformedRecords 0))

-- the lengths as at the opening of a script
abbrev pub after_lengths : Result Lengths Refusal → Result (Unit {0}) Refusal → Result (Unit {0}) Refusal
after_lengths (Err f) later = Err f
after_lengths (Ok _) later = later

-- SCOPE, "Order of writing": 5, the counts, 6, 19, the records, the marks
abbrev pub judgement_of : ℕ → ℕ → List ℕ → List ℕ → Result (Unit {0}) Refusal
judgement_of p q ns zs = after_lengths (lengths_step p q) (list_judgement p q ns zs)

-- ---- the call

pub record Writing : Type 0 where
  pub reply : Result ℕ Refusal
  pub script : List ℕ

-- 16 last of all. SCOPE, "Written" and "Kept on success": a script that fits stands at the buffer's start, and the
-- bytes behind it are kept
abbrev pub writing_of_bytes : List ℕ → List ℕ → Writing
writing_of_bytes bytes out =
    let short : Writing = record { reply = Err BufferTooShort; script = out } in
    let over = bytes ++ drop (length bytes) out in
    let whole : Writing = record { reply = Ok (length bytes); script = over } in
    cond (ltb (length out) (length bytes)) short whole

-- SCOPE, "Kept when refused": a list with a fault leaves the buffer as it was
abbrev pub writing_of_judgement : Result (Unit {0}) Refusal → List ℕ → List ℕ → Writing
writing_of_judgement (Err f) bytes out = record { reply = Err f; script = out }
writing_of_judgement (Ok _) bytes out = writing_of_bytes bytes out

-- SCOPE, "Written": the script of the lists' matches and marks
abbrev pub writing_of : ℕ → ℕ → List ℕ → List ℕ → List ℕ → Writing
writing_of p q ns zs out = writing_of_judgement (judgement_of p q ns zs) (bytes_of p q (matches_of ns) (points_of zs)) out
