-- What may come of writing lists and of reading them, by its condition: a case for each refusal, with its number and
-- its place, and one for success. All numbers are those of 01 and 02, written out: a slip made in a definition and in
-- the code together is refused here. `proofs/WritingOutcome` and `proofs/Demands` show that exactly one case applies.
-- TO READ beside SCOPE, "Lists", "Lists of marks" and "Refusals" (02, #101 and #106).
--     Says ns n m               the record behind n others says the match m
--     SaysMark zs n k           the two numbers behind n such say the mark k
--     Passed p q ns zs ms       the first records say the matches ms, and have no fault
--     Marked p q ns zs ms ks    all records say the matches ms, the first marks are ks, and none has a fault
--     WritingOutcome            the answers to writing
--     ListingOutcome            the answers to reading into lists
-- Assumes nothing.
use Rattle.std.specs.Prelude.{ℕ, ◌+◌, ◌*◌, ◌≤◌, ◌<◌, ◌≡◌, ◌≢◌, ◌⊎◌, Bool, true, false, List, [], ◌∷◌, ◌++◌, length, get_or}
use Rattle.script.specs.Answers.{Answer, value, refusal, contents}
use Rattle.script.specs.Outcomes.{InRange, Within, OnSequence, PastSequence, Outcome}
use Rattle.script.specs.Demands.{Counted, counted}
use Rattle.script.specs.declared.command.Match.{Match}
use Rattle.script.specs.declared.command.Mark.{Mark}

-- ---- what stands in a list

-- SCOPE, "Records": direction 0 is direct, 1 reversed
pub data WayAt (ns : List ℕ) (at : ℕ) : Bool → Type 0 where
  direct : get_or ns at 0 ≡ 0 → WayAt ns at false
  backward : get_or ns at 0 ≡ 1 → WayAt ns at true

-- SCOPE, "Records": left-A, left-B, length, direction, of a match between the tracks 0, which is A, and 1, which is B
pub record Says (ns : List ℕ) (n : ℕ) (m : Match) : Type 0 where
  pub whole : 4 * n + 4 ≤ length ns
  pub on_a : m.track_a ≡ 0
  pub on_b : m.track_b ≡ 1
  pub left_a : get_or ns (4 * n) 0 ≡ m.left_a
  pub left_b : get_or ns (4 * n + 1) 0 ≡ m.left_b
  pub letters : get_or ns (4 * n + 2) 0 ≡ m.length
  pub way : WayAt ns (4 * n + 3) m.reversed

-- SCOPE, "Lists of marks": side, position
pub record SaysMark (zs : List ℕ) (n : ℕ) (k : Mark) : Type 0 where
  pub whole : 2 * n + 2 ≤ length zs
  pub side : get_or zs (2 * n) 0 ≡ k.side
  pub position : get_or zs (2 * n + 1) 0 ≡ k.position

-- what comes before any record: lengths in range, whole records, at most 2,048 of them, whole marks, at most 512
pub record Begun (p q : ℕ) (ns zs : List ℕ) : Type 0 where
  pub p_range : InRange p
  pub q_range : InRange q
  pub count : ℕ
  pub whole : length ns ≡ 4 * count
  pub few : count ≤ 2048
  pub marks : ℕ
  pub whole_marks : length zs ≡ 2 * marks
  pub few_marks : marks ≤ 512

-- records without a fault, from the first on
pub data Passed (p q : ℕ) (ns zs : List ℕ) : List Match → Type 0 where
  begun : Begun p q ns zs → Passed p q ns zs []
  passed : {ms : List Match} {m : Match} → Passed p q ns zs ms → Says ns (length ms) m → Within p q m
      → Passed p q ns zs (ms ++ m ∷ [])

-- all records, and marks without a fault, from the first on
pub data Marked (p q : ℕ) (ns zs : List ℕ) (ms : List Match) : List Mark → Type 0 where
  records_passed : Passed p q ns zs ms → length ns ≡ 4 * length ms → Marked p q ns zs ms []
  marked : {ks : List Mark} {k : Mark} → Marked p q ns zs ms ks → SaysMark zs (length ks) k → OnSequence p q k
      → Marked p q ns zs ms (ks ++ k ∷ [])

-- ---- writing

-- SCOPE, "Place of a record": 0 for the counts of numbers, and the record, counted from 1, for a direction
pub data Malformed (p q : ℕ) (ns zs : List ℕ) : ℕ → Type 0 where
  broken_off : InRange p → InRange q → ((n : ℕ) → length ns ≢ 4 * n) → Malformed p q ns zs 0
  odd : InRange p → InRange q → ((n : ℕ) → length zs ≢ 2 * n) → Malformed p q ns zs 0
  no_direction : {ms : List Match} → Passed p q ns zs ms → 4 * length ms + 4 ≤ length ns
      → 1 < get_or ns (4 * length ms + 3) 0 → Malformed p q ns zs (length ms + 1)

pub data WritingOutcome (p q : ℕ) (ns zs : List ℕ) (room : ℕ) : Answer ℕ → Type 0 where
  -- 5: p or q is 0 or too large
  length_out_of_range : (InRange p → InRange q → ⊥) → WritingOutcome p q ns zs room (refusal 5 0)
  -- 15: the count of numbers isn't a multiple of four, or for the marks of two, or a direction is above 1
  malformed_records : {place : ℕ} → Malformed p q ns zs place → WritingOutcome p q ns zs room (refusal 15 place)
  -- 6: there is a record 2,049
  too_many_matches : {n : ℕ} (k : ℕ) → InRange p → InRange q → length ns ≡ 4 * n → length zs ≡ 2 * k → 2048 < n
      → WritingOutcome p q ns zs room (refusal 6 0)
  -- 19: there is a mark 513
  too_many_marks : {n k : ℕ} → InRange p → InRange q → length ns ≡ 4 * n → length zs ≡ 2 * k → n ≤ 2048 → 512 < k
      → WritingOutcome p q ns zs room (refusal 19 0)
  -- 7: length 0
  empty_match : {ms : List Match} {m : Match} → Passed p q ns zs ms → Says ns (length ms) m → m.length ≡ 0
      → WritingOutcome p q ns zs room (refusal 7 (length ms + 1))
  -- 8: left-A + length above p
  beyond_a : {ms : List Match} {m : Match} → Passed p q ns zs ms → Says ns (length ms) m → 1 ≤ m.length
      → p < m.left_a + m.length → WritingOutcome p q ns zs room (refusal 8 (length ms + 1))
  -- 9: left-B + length above q
  beyond_b : {ms : List Match} {m : Match} → Passed p q ns zs ms → Says ns (length ms) m → 1 ≤ m.length
      → m.left_a + m.length ≤ p → q < m.left_b + m.length
      → WritingOutcome p q ns zs room (refusal 9 (length ms + 1))
  -- 20: the side is above 1. SCOPE, "Place of a record": a mark is numbered on from the records
  no_such_side : {ms : List Match} {ks : List Mark} {k : Mark} → Marked p q ns zs ms ks → SaysMark zs (length ks) k
      → 1 < k.side → WritingOutcome p q ns zs room (refusal 20 (length ms + length ks + 1))
  -- 21: the position is past p on A or q on B
  mark_beyond : {ms : List Match} {ks : List Mark} {k : Mark} → Marked p q ns zs ms ks → SaysMark zs (length ks) k
      → PastSequence p q k → WritingOutcome p q ns zs room (refusal 21 (length ms + length ks + 1))
  -- 16: the script is longer than the buffer
  buffer_too_short : {ms : List Match} {ks : List Mark} → Marked p q ns zs ms ks → length zs ≡ 2 * length ks
      → room < 10 + 13 * length ms + 6 * length ks → WritingOutcome p q ns zs room (refusal 16 0)
  -- no refusal: the script's length
  is_written : {ms : List Match} {ks : List Mark} → Marked p q ns zs ms ks → length zs ≡ 2 * length ks
      → 10 + 13 * length ms + 6 * length ks ≤ room
      → WritingOutcome p q ns zs room (value (10 + 13 * length ms + 6 * length ks))

-- ---- reading into lists

-- room for numbers of records, and for those of marks
pub data ListingOutcome (s : List ℕ) (room marksRoom : ℕ) : Answer Counted → Type 0 where
  -- 1 to 10, 19 to 21: the script's own refusal
  script_refused : {n place : ℕ} → Outcome s (refusal n place) → ListingOutcome s room marksRoom (refusal n place)
  -- 16: the records, or the marks, are more than their buffer
  buffer_too_short : {ls : List ℕ} {ms : List Match} {ks : List Mark} → Outcome s (value (contents ls ms ks))
      → (room < 4 * length ms) ⊎ (marksRoom < 2 * length ks) → ListingOutcome s room marksRoom (refusal 16 0)
  -- no refusal: the lengths, and how many records and marks there are
  is_listed : {p q : ℕ} {ms : List Match} {ks : List Mark} → Outcome s (value (contents (p ∷ q ∷ []) ms ks))
      → 4 * length ms ≤ room → 2 * length ks ≤ marksRoom
      → ListingOutcome s room marksRoom (value (counted p q (length ms) (length ks)))
