-- What writing lists and reading them promise, a field for each sentence. TO READ: contracts mean what stands here.
--     written_answer w, listed_answer l     the replies in the words of 01 and 02
--     MatchesFirst    all matches of a script stand before its marks
--     Back            a script is the one of these lengths, records and marks, and is read back into them
--     WritingDemand   what the call that writes promises
--     Again           what is written of a script's records and marks, and when that is the script itself
--     ListingDemand   what the call that reads into lists promises
-- 02, #101: "Each undoes the other, bytes to records to bytes and records to bytes to records"; of the first, #106 says
-- "only scripts in that order come back byte for byte". `proofs/Demands` shows that `writing_of` and `listing_of` meet
-- them. Assumes nothing.
use Rattle.std.specs.Prelude.{ℕ, ◌*◌, ◌≤◌, ◌≡◌, List, [], ◌∷◌, ◌++◌, length, take, drop, Result, Ok, Err}
use Rattle.script.specs.Refusals.{number_of, place_of}
use Rattle.script.specs.Answers.{Answer, value, refusal, contents}
use Rattle.script.specs.Outcomes.{Reach, Outcome}
use Rattle.script.specs.Demands.{Counted, counted}
use Rattle.script.specs.declared.refusal.Refusal.{Refusal}
use Rattle.script.specs.declared.command.Match.{Match}
use Rattle.script.specs.declared.command.Mark.{Mark}
use Rattle.records.specs.Records.{list_of, point_list}
use Rattle.records.specs.Outcomes.{Says, SaysMark, WritingOutcome, ListingOutcome}
use Rattle.records.specs.Writing.{writing_of}
use Rattle.records.specs.Listing.{listing_of}
use Rattle.records.specs.declared.Listed.{Listed}

-- SCOPE, "Listed": an admitted script whose matches all stand before an offset before which no mark stands
pub record MatchesFirst (s : List ℕ) : Type 0 where
  pub p : ℕ
  pub q : ℕ
  pub matches : List Match
  pub marks : List Mark
  pub admitted : Outcome s (value (contents (p ∷ q ∷ []) matches marks))
  pub at : ℕ
  pub first : Reach s p q at matches []

-- ---- writing

-- SCOPE, "Enums": the script's length, or the refusal
abbrev pub written_answer : Result ℕ Refusal → Answer ℕ
written_answer (Ok n) = value n
written_answer (Err f) = refusal (number_of f) (place_of f)

-- "records to bytes to records"
pub record Back (p q : ℕ) (ns zs script : List ℕ) : Type 0 where
  -- the script is admitted, with these lengths ..
  pub matches : List Match
  pub marks : List Mark
  pub admitted : Outcome script (value (contents (p ∷ q ∷ []) matches marks))
  -- .. its matches are these records and its marks these, in their order ..
  pub listed : list_of matches ≡ ns
  pub listed_marks : point_list marks ≡ zs
  -- .. the marks behind the matches ..
  pub first : MatchesFirst script
  -- .. so that the other call gives them back, in any buffers that have room for them
  pub back : (lent lent-marks : List ℕ) → length ns ≤ length lent → length zs ≤ length lent-marks
      → listing_of script lent lent-marks
      ≡ record {
        reply = Ok (record { p = p; q = q; count = length matches; marks = length marks });
        records = ns ++ drop (length ns) lent;
        marks = zs ++ drop (length zs) lent-marks;
      }

-- the buffer before and after
pub record WritingDemand (p q : ℕ) (ns zs out out' : List ℕ) (answer : Answer ℕ) : Type 0 where
  -- the answer is an outcome whose condition is met ..
  pub stated : WritingOutcome p q ns zs (length out) answer
  -- .. and any outcome whose condition is met is the answer
  pub alone : (a : Answer ℕ) → WritingOutcome p q ns zs (length out) a → a ≡ answer
  pub as_long : length out' ≡ length out
  -- a refused call leaves each lent byte
  pub refused : {n place : ℕ} → answer ≡ refusal n place → out' ≡ out
  -- and one that succeeds those behind the script
  pub past : {n : ℕ} → answer ≡ value n → drop n out' ≡ drop n out
  -- the script before them is that of the records and the marks
  pub undone : {n : ℕ} → answer ≡ value n → Back p q ns zs (take n out')

-- ---- reading into lists

-- SCOPE, "Enums": the lengths and the counts, or the refusal
abbrev pub listed_answer : Result Listed Refusal → Answer Counted
listed_answer (Ok l) = value (counted l.p l.q l.count l.marks)
listed_answer (Err f) = refusal (number_of f) (place_of f)

-- "bytes to records to bytes", of the script s and the records and marks in it
pub record Again (s : List ℕ) (p q : ℕ) (ns zs : List ℕ) : Type 0 where
  -- the other call writes a script as long as this one, in any buffer that has room for it ..
  pub script : List ℕ
  pub written : (lent : List ℕ) → length s ≤ length lent
      → writing_of p q ns zs lent
      ≡ record { reply = Ok (length s); script = script ++ drop (length s) lent }
  -- .. and it is this one, byte for byte, if the matches stand first here, and only then
  pub same : MatchesFirst s → script ≡ s
  pub only : script ≡ s → MatchesFirst s

-- the buffers of the records and of the marks, before and after
pub record ListingDemand (s out points out' points' : List ℕ) (answer : Answer Counted) : Type 0 where
  -- the answer is an outcome whose condition is met ..
  pub stated : ListingOutcome s (length out) (length points) answer
  -- .. and any outcome whose condition is met is the answer
  pub alone : (a : Answer Counted) → ListingOutcome s (length out) (length points) a → a ≡ answer
  pub as_long : length out' ≡ length out
  pub marks_as_long : length points' ≡ length points
  -- a refused call leaves each lent number
  pub refused : {n place : ℕ} → answer ≡ refusal n place → out' ≡ out
  pub marks_refused : {n place : ℕ} → answer ≡ refusal n place → points' ≡ points
  -- and one that succeeds those behind the records, and behind the marks
  pub past : {p q count marks : ℕ} → answer ≡ value (counted p q count marks)
      → drop (4 * count) out' ≡ drop (4 * count) out
  pub marks_past : {p q count marks : ℕ} → answer ≡ value (counted p q count marks)
      → drop (2 * marks) points' ≡ drop (2 * marks) points
  -- the record behind n others is that of the match behind n others
  pub held : {p q count marks : ℕ} → answer ≡ value (counted p q count marks) → (others rest : List Match) (m : Match)
      → {ls : List ℕ} {ks : List Mark} → Outcome s (value (contents ls (others ++ m ∷ rest) ks))
      → Says out' (length others) m
  -- and likewise a mark
  pub marks_held : {p q count marks : ℕ} → answer ≡ value (counted p q count marks)
      → (others rest : List Mark) (k : Mark) → {ls : List ℕ} {ms : List Match}
      → Outcome s (value (contents ls ms (others ++ k ∷ rest))) → SaysMark points' (length others) k
  -- the other call gives the script back, if its matches stand first
  pub undone : {p q count marks : ℕ} → answer ≡ value (counted p q count marks)
      → Again s p q (take (4 * count) out') (take (2 * marks) points')
