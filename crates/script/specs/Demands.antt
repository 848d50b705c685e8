-- What the replies of reading and finding are in 01's numbers and places. TO READ: contracts mean what stands here.
--     Counted              what the verdict tells of an admitted script: p, q and how many matches and marks there are
--     verdict_answer v      the reader's reply in 01's words
--     ReadingOutcome       what may come of reading, by its condition
--     ReadingDemand        exactly one outcome's condition is met, and it is the answer
--     ColumnDemand         what one lent column holds afterwards, element by element, by the outcome that is met
--     ColumnsDemand        the four columns of the matches
--     MarksDemand          the two of the marks
--     finding_answer f      the finder's reply in 01's words
--     FindingOutcome       what may come of asking for the match of a number, by its condition
--     FindingDemand        exactly one outcome's condition is met, and it is the answer
-- 01, "The script" and "Refused scripts and calls"; 02, #106. `proofs/Demands` shows that `verdict_of` and `finding_of`
-- meet the demands, `proofs/Columns` that `column_of` does. Assumes nothing.
use Rattle.std.specs.Prelude.{ℕ, ◌+◌, ◌≤◌, ◌<◌, ◌≡◌, ◌⊎◌, Bool, List, [], ◌∷◌, ◌++◌, length, get_or, Result, Ok, Err}
use Rattle.script.specs.Refusals.{number_of, place_of}
use Rattle.script.specs.Answers.{Answer, value, refusal, Contents, contents}
use Rattle.script.specs.Outcomes.{Outcome}
use Rattle.script.specs.declared.refusal.Refusal.{Refusal}
use Rattle.script.specs.declared.command.Match.{Match}
use Rattle.script.specs.declared.command.Mark.{Mark}
use Rattle.script.specs.declared.Admitted.{Admitted}

-- ---- reading

pub data Counted : Type 0 where
  counted : (p q count marks : ℕ) → Counted

abbrev pub verdict_answer : Result Admitted Refusal → Answer Counted
verdict_answer (Ok a) = value (counted a.p a.q a.count a.marks)
verdict_answer (Err f) = refusal (number_of f) (place_of f)

pub data ReadingOutcome (s : List ℕ) : Answer Counted → Type 0 where
  -- 1 to 10, 19 to 21: the script's own refusal
  script_refused : {n place : ℕ} → Outcome s (refusal n place) → ReadingOutcome s (refusal n place)
  -- no refusal: the lengths, and how many matches and marks stand behind them
  script_admitted :
      {p q : ℕ} {ms : List Match} {ks : List Mark} → Outcome s (value (contents (p ∷ q ∷ []) ms ks))
      → ReadingOutcome s (value (counted p q (length ms) (length ks)))

pub record ReadingDemand (s : List ℕ) (answer : Answer Counted) : Type 0 where
  -- the answer is an outcome whose condition is met ..
  pub stated : ReadingOutcome s answer
  -- .. and any outcome whose condition is met is the answer
  pub alone : (a : Answer Counted) → ReadingOutcome s a → a ≡ answer

-- ---- reading into columns

-- what a column is of: the matches, or the marks
abbrev pub matches_in : Contents → List Match
matches_in (contents ls ms ks) = ms

abbrev pub marks_in : Contents → List Mark
marks_in (contents ls ms ks) = ks

pub record ColumnDemand {X Y : Type 0} (s : List ℕ) (items : Contents → List X) (field : X → Y)
    (before after : List Y) : Type 0 where
  pub as_long : length after ≡ length before
  -- what has n others before it stands at n, if the column reaches so far
  pub held :
      (c : Contents) → Outcome s (value c) → (others rest : List X) (x : X) → items c ≡ others ++ x ∷ rest
      → length others < length before → (blank : Y) → get_or after (length others) blank ≡ field x
  -- past the last each value is kept
  pub past :
      (c : Contents) → Outcome s (value c) → (k : ℕ) → length (items c) ≤ k → (blank : Y)
      → get_or after k blank ≡ get_or before k blank
  -- and of a refused script all of them
  pub refused : {n place : ℕ} → Outcome s (refusal n place) → after ≡ before

-- each column before and after
pub record ColumnsDemand (s a b d : List ℕ) (r : List Bool) (a' b' d' : List ℕ) (r' : List Bool) : Type 0 where
  pub left_a : ColumnDemand s matches_in (λ m. m.left_a) a a'
  pub left_b : ColumnDemand s matches_in (λ m. m.left_b) b b'
  pub letters : ColumnDemand s matches_in (λ m. m.length) d d'
  pub reversed : ColumnDemand s matches_in (λ m. m.reversed) r r'

pub record MarksDemand (s sides positions sides' positions' : List ℕ) : Type 0 where
  pub side : ColumnDemand s marks_in (λ k. k.side) sides sides'
  pub position : ColumnDemand s marks_in (λ k. k.position) positions positions'

-- ---- finding

abbrev pub finding_answer : Result Match Refusal → Answer Match
finding_answer (Ok m) = value m
finding_answer (Err f) = refusal (number_of f) (place_of f)

pub data FindingOutcome (script : List ℕ) (number : ℕ) : Answer Match → Type 0 where
  -- 1 to 10, 19 to 21: the script's own refusal
  script_refused : {n place : ℕ} → Outcome script (refusal n place) → FindingOutcome script number (refusal n place)
  -- 13: number 0 or above the count
  no_such_match :
      {ls : List ℕ} {ms : List Match} {ks : List Mark} → Outcome script (value (contents ls ms ks))
      → (number ≡ 0) ⊎ (length ms < number) → FindingOutcome script number (refusal 13 0)
  -- no refusal. SCOPE, "Numbering": its number is one more than there are matches before it; marks do not count
  found :
      {ls : List ℕ} (before after : List Match) {m : Match} {ks : List Mark}
      → Outcome script (value (contents ls (before ++ m ∷ after) ks)) → number ≡ length before + 1
      → FindingOutcome script number (value m)

pub record FindingDemand (script : List ℕ) (number : ℕ) (answer : Answer Match) : Type 0 where
  -- the answer is an outcome whose condition is met ..
  pub stated : FindingOutcome script number answer
  -- .. and any outcome whose condition is met is the answer
  pub alone : (a : Answer Match) → FindingOutcome script number a → a ≡ answer
