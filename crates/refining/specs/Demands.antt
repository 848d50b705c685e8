-- Demands 1, 2 and 3 on one refining call: on what is refined, the lent table and work buffer before the call, its
-- answer, and the table and work buffer after it (table', work'). TO READ: contracts mean what stands here.
--     answer_of                   the answer in 01's words: a value, or a refusal's number and place
-- What is refined are matches, first ..
--     Fits g capacity            some resolved refinement of what is given has no more rows than the capacity
--     EveryExceeds g capacity    every one has more
--     MatchesOutcome             what may come of refining matches, by its condition: 11, 12, and a value
--     Leaves                     what a call leaves in the two buffers, by its answer
--     Stand rs n table           the table's first n rows are rs
--     Pieces, LeastPieces        they are a resolved refinement in the table's order; they are the least one
--     MatchesDemand1, MatchesDemand2, MatchesDemand3
--                                the demands; each field is one sentence
-- .. and then the bytes of a script, of whose matches the same is demanded.
--     Admitted script g          the bytes are an admitted script, and g is what it gives: its matches, from 1 on,
--                                and its marks
--     RefiningOutcome            what may come of a call: the script's own refusals, and what may come of its matches
--     Demand1, Demand2, Demand3  the demands
-- A refinement is a list of rows in any order and of any length. 02, #106: one is resolved if it has the spanned marks
-- among its cuts, and least and equal are judged among such alone. `proofs/Demands` shows that `refining_of_matches` and
-- `refining_of` meet the demands. Assumes nothing.
use Rattle.std.specs.Prelude.{ℕ, ◌*◌, ◌≤◌, ◌<◌, ◌≡◌, ◌↔◌, ◌≢◌, List, length, take, drop, Result, Ok, Err}
use Rattle.script.specs.Refusals.{number_of, place_of}
pub use Rattle.script.specs.Answers.{Answer, value, refusal}
use Rattle.script.specs.Answers.{contents}
use Rattle.script.specs.Outcomes.{Outcome}
use Rattle.script.specs.declared.command.Match.{Match as ScriptMatch}
use Rattle.script.specs.declared.command.Mark.{Mark}
use Rattle.script.specs.declared.refusal.Refusal.{Refusal}
use Rattle.rows.specs.Rows.{row_width}
use Rattle.refinement.specs.Order.{Rising}
use Rattle.refinement.specs.Match.{Match}
use Rattle.refinement.specs.Refinement.{ResolvedRefinement, Before, Least}
use Rattle.refinement.specs.Paper.{Definition1, Definition2}
use Rattle.refining.specs.Rows.{piece_numbers}
use Rattle.refining.specs.Refining.{Given, given_by, capacity_of, work_needed, zeroed}

-- SCOPE, "Success" and "Place": the count of rows, or a number and a place
abbrev pub answer_of : Result ℕ Refusal → Answer ℕ
answer_of (Ok n) = value n
answer_of (Err r) = refusal (number_of r) (place_of r)

-- ==== of matches

-- SCOPE, "Capacity": some resolved refinement has no more rows than there is room for
pub record Fits (g : Given) (capacity : ℕ) : Type 0 where
  pub rows : List Match
  pub resolved : ResolvedRefinement g.matches g.marks rows
  pub room : length rows ≤ capacity

-- SCOPE, "Every refinement": none has so few, also among those that no lent table would hold
abbrev pub EveryExceeds : Given → ℕ → Type 0
EveryExceeds g capacity = (rs : List Match) → ResolvedRefinement g.matches g.marks rs → capacity < length rs

-- ---- demand 1: each refusal under its own condition alone, and what it leaves

-- what may come of refining matches: 11, 12, in this order
pub data MatchesOutcome (g : Given) (table work : List ℕ) : Answer ℕ → Type 0 where
  -- 11: under four numbers per row of capacity
  work_too_short : length work < work_needed table → MatchesOutcome g table work (refusal 11 0)
  -- 12: every resolved refinement exceeds the capacity
  too_many_pieces :
      work_needed table ≤ length work → EveryExceeds g (capacity_of table) → MatchesOutcome g table work (refusal 12 0)
  -- no refusal: the count of rows of a least resolved refinement, for which there is room
  least_rows :
      {rs : List Match} → work_needed table ≤ length work → ResolvedRefinement g.matches g.marks rs
      → Least g.matches g.marks rs → length rs ≤ capacity_of table
      → MatchesOutcome g table work (value (length rs))

pub record Leaves (table work : List ℕ) (answer : Answer ℕ) (table' work' : List ℕ) : Type 0 where
  -- SCOPE, "Kept when refused": a refused call alters nothing but the work buffer, and that under 12 alone
  pub refused_table : (number place : ℕ) → answer ≡ refusal number place → table' ≡ table
  pub refused_work : (number place : ℕ) → answer ≡ refusal number place → number ≢ 12 → work' ≡ work
  -- SCOPE, "Work after": zero after success and after 12
  pub crowded_work : (place : ℕ) → answer ≡ refusal 12 place → work' ≡ zeroed work
  pub success_work : (n : ℕ) → answer ≡ value n → work' ≡ zeroed work
  -- SCOPE, "Past the rows": the numbers behind the rows stay
  pub past_rows : (n : ℕ) → answer ≡ value n → drop (row_width * n) table' ≡ drop (row_width * n) table
  -- a lent buffer stays as long as it was
  pub table_length : length table' ≡ length table
  pub work_length : length work' ≡ length work

pub record MatchesDemand1 (g : Given) (table work : List ℕ) (answer : Answer ℕ)
    (table' work' : List ℕ) : Type 0 where
  -- the answer is an outcome whose condition is met ..
  pub stated : MatchesOutcome g table work answer
  -- .. and any outcome whose condition is met is the answer
  pub alone : (a : Answer ℕ) → MatchesOutcome g table work a → a ≡ answer
  pub leaves : Leaves table work answer table' work'

-- ---- demand 2: a resolved refinement of all matches that have room

-- SCOPE, "Success": the rows stand from the start of the lent table on
pub record Stand (rs : List Match) (n : ℕ) (table : List ℕ) : Type 0 where
  pub count : n ≡ length rs
  pub numbers : take (row_width * n) table ≡ piece_numbers rs

-- the first n rows of the table are a resolved refinement, in the table's order
pub record Pieces (g : Given) (n : ℕ) (table : List ℕ) : Type 0 where
  pub rows : List Match
  pub stand : Stand rows n table
  -- SCOPE, "Order": by match number, and for one match by left-A
  pub in_order : Rising Before rows
  -- by 01's words, and by the source's Definitions 1 and 2
  pub resolved : ResolvedRefinement g.matches g.marks rows
  pub refines_paper : Definition1 g.matches rows
  pub resolved_paper : Definition2 rows

pub record MatchesDemand2 (g : Given) (table work : List ℕ) (answer : Answer ℕ) (table' : List ℕ) : Type 0 where
  -- matches with enough work, of which some resolved refinement fits, get a value
  pub gets : work_needed table ≤ length work → Fits g (capacity_of table) → (n : ℕ) × (answer ≡ value n)
  -- none do with less work
  pub no_less_work : (n : ℕ) → answer ≡ value n → work_needed table ≤ length work
  -- after a value, the table's first rows are a resolved refinement of the matches
  pub pieces : (n : ℕ) → answer ≡ value n → Pieces g n table'

-- ---- demand 3: the least one, and 12 only where there is no room for any

-- the first n rows of the table are a resolved refinement, and least among all: no other has fewer rows, or lacks a cut
-- of theirs, and one with as many rows is equal to them. They are the rows of demand 2 (law stand-unique).
pub record LeastPieces (g : Given) (n : ℕ) (table : List ℕ) : Type 0 where
  pub rows : List Match
  pub stand : Stand rows n table
  pub resolved : ResolvedRefinement g.matches g.marks rows
  pub least : Least g.matches g.marks rows

pub record MatchesDemand3 (g : Given) (table work : List ℕ) (answer : Answer ℕ) (table' : List ℕ) : Type 0 where
  -- there is a resolved refinement
  pub some : (rs : List Match) × ResolvedRefinement g.matches g.marks rs
  -- past 11: the answer is 12 if and only if every resolved refinement has more rows than the capacity
  pub refuses : work_needed table ≤ length work → (answer ≡ refusal 12 0) ↔ EveryExceeds g (capacity_of table)
  -- if it is not 12, it is a value: of the two things one is done
  pub or_value : work_needed table ≤ length work → answer ≢ refusal 12 0 → (count : ℕ) × (answer ≡ value count)
  -- and then the table holds the least one
  pub otherwise : (n : ℕ) → answer ≡ value n → LeastPieces g n table'

-- ==== of a script

-- SCOPE, "Admitted" and "Numbering": no refusal's condition is met, and the matches have the numbers from 1 on, marks
-- none
pub data Admitted (script : List ℕ) : Given → Type 0 where
  reads :
      {ls : List ℕ} {ms : List ScriptMatch} {ks : List Mark} → Outcome script (value (contents ls ms ks))
      → Admitted script (given_by ms ks)

-- what may come of a call. SCOPE, "Order of refining": the script's refusals, 11, 12
pub data RefiningOutcome (script table work : List ℕ) : Answer ℕ → Type 0 where
  -- 1 to 10, 19 to 21: the script's own refusal
  script_refused :
      {number place : ℕ} → Outcome script (refusal number place)
      → RefiningOutcome script table work (refusal number place)
  -- 11, 12 and a value: what may come of the matches of an admitted script
  of_matches :
      {g : Given} {answer : Answer ℕ} → Admitted script g → MatchesOutcome g table work answer
      → RefiningOutcome script table work answer

pub record Demand1 (script table work : List ℕ) (answer : Answer ℕ) (table' work' : List ℕ) : Type 0 where
  -- the answer is an outcome whose condition is met ..
  pub stated : RefiningOutcome script table work answer
  -- .. and any outcome whose condition is met is the answer
  pub alone : (a : Answer ℕ) → RefiningOutcome script table work a → a ≡ answer
  pub leaves : Leaves table work answer table' work'

pub record Demand2 (script table work : List ℕ) (answer : Answer ℕ) (table' : List ℕ) : Type 0 where
  -- of the matches of an admitted script
  pub of_matches : (g : Given) → Admitted script g → MatchesDemand2 g table work answer table'
  -- no other script gets a value
  pub no_other_script : (n : ℕ) → answer ≡ value n → (g : Given) × Admitted script g

pub record Demand3 (script table work : List ℕ) (answer : Answer ℕ) (table' : List ℕ) : Type 0 where
  -- of the matches of an admitted script
  pub of_matches : (g : Given) → Admitted script g → MatchesDemand3 g table work answer table'
