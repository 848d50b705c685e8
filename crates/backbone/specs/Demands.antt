-- What the chaining call promises, a field for each sentence. TO READ: contracts mean what stands here.
--     Scored               what success returns: the score, the table's row count and the chain's length
--     chained_answer        the reply in the words of 01 and 02
--     rows_answer           of an answer what refining would answer: the row count, or the refusal
--     ChainingOutcome      what may come of a call, by its condition: a case for each refusal, and one for success
--     ChainLeaves          what it leaves in the four lent buffers, by its answer
--     ChainingDemand       exactly one outcome's condition is met, and it is the answer; the buffers; the backbone
-- The numbers of 01 and 02 are written out: a slip made in a definition and in the code together is refused here.
-- `proofs/Demands` shows that `chaining_of` meets the demand. Assumes nothing.
use Rattle.std.specs.Prelude.{ℕ, ◌*◌, ◌≤◌, ◌<◌, ◌≡◌, ◌⊎◌, ◌≢◌, List, map, length, take, drop, Result, Ok, Err}
use Rattle.script.specs.Refusals.{number_of, place_of}
use Rattle.script.specs.Answers.{Answer, value, refusal}
use Rattle.script.specs.Outcomes.{Outcome}
use Rattle.script.specs.declared.refusal.Refusal.{Refusal}
use Rattle.rows.specs.Rows.{rows_of}
use Rattle.refinement.specs.Match.{Match}
use Rattle.refinement.specs.Order.{Rising}
use Rattle.refinement.specs.Refinement.{ResolvedRefinement, Before as RowBefore, Least}
use Rattle.refining.specs.Rows.{row_of_piece}
use Rattle.refining.specs.Refining.{Given, capacity_of, work_needed, zeroed, refining_of}
use Rattle.refining.specs.Demands.{EveryExceeds, Leaves, Admitted}
use Rattle.backbone.specs.Backbone.{Backbone}
use Rattle.backbone.specs.declared.Chained.{Chained}

pub data Scored : Type 0 where
  scored : (score rows length : ℕ) → Scored

-- SCOPE, "Enums": the score, the row count and the chain's length, or the refusal
abbrev pub chained_answer : Result Chained Refusal → Answer Scored
chained_answer (Ok c) = value (scored c.score c.rows c.length)
chained_answer (Err r) = refusal (number_of r) (place_of r)

abbrev pub rows_answer : Answer Scored → Answer ℕ
rows_answer (value (scored score rows length)) = value rows
rows_answer (refusal number place) = refusal number place

-- what comes before 17: an admitted script and enough work
pub record Begun (script table work : List ℕ) (g : Given) : Type 0 where
  pub admitted : Admitted script g
  pub enough : work_needed table ≤ length work

-- and before 12: a gap price of at most 1,000, and a number for each row of the capacity in either buffer, which
-- numbers of 32 bits can count
pub record Lent (price : ℕ) (table chain scores : List ℕ) : Type 0 where
  pub price_fits : price ≤ 1000
  pub chain_fits : capacity_of table ≤ length chain
  pub scores_fit : capacity_of table ≤ length scores
  pub numbers_fit : capacity_of table ≤ 4294967295

-- SCOPE, "Order of chaining": the script's refusals, 11, 17, 18, 12
pub data ChainingOutcome (script : List ℕ) (price : ℕ) (table work chain scores : List ℕ) : Answer Scored → Type 0 where
  -- 1 to 10, 19 to 21: the script's own refusal
  script_refused :
      {n place : ℕ} → Outcome script (refusal n place)
      → ChainingOutcome script price table work chain scores (refusal n place)
  -- 11: under four numbers per row of capacity
  work_too_short :
      {g : Given} → Admitted script g → length work < work_needed table
      → ChainingOutcome script price table work chain scores (refusal 11 0)
  -- 17: the gap price is above 1,000
  price_too_high :
      {g : Given} → Begun script table work g → 1000 < price
      → ChainingOutcome script price table work chain scores (refusal 17 0)
  -- 18: the chain or score buffer has fewer numbers than the table's capacity, or that is above 4,294,967,295
  chain_too_short :
      {g : Given} → Begun script table work g → price ≤ 1000
      → (length chain < capacity_of table) ⊎ ((length scores < capacity_of table) ⊎ (4294967295 < capacity_of table))
      → ChainingOutcome script price table work chain scores (refusal 18 0)
  -- 12: every resolved refinement exceeds the capacity
  too_many_pieces :
      {g : Given} → Begun script table work g → Lent price table chain scores → EveryExceeds g (capacity_of table)
      → ChainingOutcome script price table work chain scores (refusal 12 0)
  -- no refusal: the backbone of a least resolved refinement in the table's order, for which there is room
  best_chain :
      {g : Given} {rs : List Match} {ks : List ℕ} {score : ℕ} → Begun script table work g
      → Lent price table chain scores → ResolvedRefinement g.matches g.marks rs
      → Least g.matches g.marks rs → Rising RowBefore rs → length rs ≤ capacity_of table
      → Backbone price (map row_of_piece rs) ks score
      → ChainingOutcome script price table work chain scores (value (scored score (length rs) (length ks)))

-- chain and score buffer before and after
pub record ChainLeaves (answer : Answer Scored) (chain scores chain' scores' : List ℕ) : Type 0 where
  -- SCOPE, "Kept when refused": a refused call alters of these two the score buffer alone, and that under 12 alone
  pub refused_chain : (number place : ℕ) → answer ≡ refusal number place → chain' ≡ chain
  pub refused_scores : (number place : ℕ) → answer ≡ refusal number place → number ≢ 12 → scores' ≡ scores
  -- SCOPE, "Buffers of chaining": "zero after success and after 12"
  pub crowded_scores : (place : ℕ) → answer ≡ refusal 12 place → scores' ≡ zeroed scores
  pub success_scores : (x : Scored) → answer ≡ value x → scores' ≡ zeroed scores
  -- the numbers behind the chain stay
  pub past_chain : (s n l : ℕ) → answer ≡ value (scored s n l) → drop l chain' ≡ drop l chain
  -- a lent buffer stays as long as it was
  pub chain_length : length chain' ≡ length chain
  pub scores_length : length scores' ≡ length scores

-- "Table and work buffer are left as by refining"
pub record LeftByRefining (script table work table' work' : List ℕ) : Type 0 where
  pub table_left : table' ≡ (refining_of script table work).table
  pub work_left : work' ≡ (refining_of script table work).work

-- the chain that the first numbers of the chain buffer name is the backbone of the table's first rows, and the only one
pub record TheBackbone (price rows length score : ℕ) (table chain : List ℕ) : Type 0 where
  pub backbone : Backbone price (rows_of (take (5 * rows) table)) (take length chain) score
  pub only :
      (ks : List ℕ) (n : ℕ) → Backbone price (rows_of (take (5 * rows) table)) ks n
      → (ks ≡ take length chain) × (n ≡ score)

pub record ChainingDemand (script : List ℕ) (price : ℕ) (table work chain scores : List ℕ)
    (answer : Answer Scored) (table' work' chain' scores' : List ℕ) : Type 0 where
  -- the answer is an outcome whose condition is met ..
  pub stated : ChainingOutcome script price table work chain scores answer
  -- .. and any outcome whose condition is met is the answer
  pub alone : (a : Answer Scored) → ChainingOutcome script price table work chain scores a → a ≡ answer
  pub leaves : Leaves table work (rows_answer answer) table' work'
  pub leaves_chain : ChainLeaves answer chain scores chain' scores'
  -- after 12 and after success, as a refining call with the same buffers leaves them
  pub crowded : (place : ℕ) → answer ≡ refusal 12 place → LeftByRefining script table work table' work'
  pub success : (x : Scored) → answer ≡ value x → LeftByRefining script table work table' work'
  -- the row numbers go to the chain buffer
  pub chained : (s n l : ℕ) → answer ≡ value (scored s n l) → TheBackbone price n l s table' chain'
