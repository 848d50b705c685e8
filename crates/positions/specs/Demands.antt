-- What carrying a list of positions together promises, a field for each sentence of 02, #107. TO READ: contracts mean
-- what stands here.
--     carried_all_answer        the reply in the words of 01 and 02: the numbers that are written, or the refusal
--     singly ..               what the single call answers for one position
--     CarryingAllOutcome      what may come of a call, by its condition: a case for each refusal, and one for success
--     AsSingly                the answer beside those of the single call
--     BufferLeft              what is left in the lent buffer, by the answer
--     CarryingAllDemand       exactly one outcome's condition is met, and it is the answer; as singly; the buffer
-- The numbers of 01 and 02 are written out: a slip made in a definition and in the code together is refused here.
-- `proofs/Demands` shows that `carrying_all_of` meets the demand. Assumes nothing.
use Rattle.std.specs.Prelude.{ℕ, ◌<◌, ◌≡◌, ◌⊎◌, ◌↔◌, ◌≢◌, List, map, length, Result, Ok, Err}
use Rattle.script.specs.Refusals.{number_of, place_of}
use Rattle.script.specs.Answers.{Answer, value, refusal}
use Rattle.script.specs.Outcomes.{Outcome}
use Rattle.script.specs.declared.refusal.Refusal.{Refusal}
use Rattle.refinement.specs.declared.Side.{Side}
use Rattle.refinement.specs.Order.{◌∈◌}
use Rattle.refinement.specs.Match.{Match, Spans, carry}
use Rattle.refining.specs.Refining.{Given}
use Rattle.refining.specs.Demands.{Admitted}
use Rattle.refining.specs.Carrying.{carrying_of, carried_answer}

-- SCOPE, "Enums": the numbers in the lent buffer, or the refusal
abbrev pub carried_all_answer : Result (Unit {0}) Refusal → List ℕ → Answer (List ℕ)
carried_all_answer (Ok tt) carried = value carried
carried_all_answer (Err r) carried = refusal (number_of r) (place_of r)

-- 01, "Positions and carrying": the single call, of the same script, match and side
abbrev pub singly : List ℕ → ℕ → Side → ℕ → Answer ℕ
singly script number side position = carried_answer (carrying_of script number side position)

-- what comes before 22: an admitted script that has a match of this number
pub record OverMatch (script : List ℕ) (number : ℕ) (m : Match) : Type 0 where
  pub given : Given
  pub admitted : Admitted script given
  pub listed : m ∈ given.matches
  pub numbered : m.number ≡ number

-- SCOPE, "Order of carrying together": the script's refusals, 13, 22, 14
pub data CarryingAllOutcome (script : List ℕ) (number : ℕ) (side : Side) (positions lent : List ℕ)
    : Answer (List ℕ) → Type 0 where
  -- 1 to 10, 19 to 21: the script's own refusal
  script_refused :
      {n place : ℕ} → Outcome script (refusal n place)
      → CarryingAllOutcome script number side positions lent (refusal n place)
  -- 13: number 0 or above the count
  no_such_match :
      {g : Given} → Admitted script g → (number ≡ 0) ⊎ (length g.matches < number)
      → CarryingAllOutcome script number side positions lent (refusal 13 0)
  -- 22: "if the two lengths differ"
  counts_differ :
      {m : Match} → OverMatch script number m → length positions ≢ length lent
      → CarryingAllOutcome script number side positions lent (refusal 22 0)
  -- 14: "one position off the match", on the side named
  off_the_match :
      {m : Match} {position : ℕ} → OverMatch script number m → length positions ≡ length lent
      → position ∈ positions → ¬ Spans m side position
      → CarryingAllOutcome script number side positions lent (refusal 14 0)
  -- no refusal: what the match of that number carries each of them to
  all_carried :
      {m : Match} → OverMatch script number m → length positions ≡ length lent
      → ((position : ℕ) → position ∈ positions → Spans m side position)
      → CarryingAllOutcome script number side positions lent (value (map (carry m side) positions))

-- the single call says 14 of some position of the list
pub record SomeOff (script : List ℕ) (number : ℕ) (side : Side) (positions : List ℕ) : Type 0 where
  pub position : ℕ
  pub listed : position ∈ positions
  pub off : singly script number side position ≡ refusal 14 0

pub record AsSingly (script : List ℕ) (number : ℕ) (side : Side) (positions lent : List ℕ) (answer : Answer (List ℕ))
    : Type 0 where
  -- "each as the single call would": one by one, the numbers that are written are what it answers
  pub each : (xs : List ℕ) → answer ≡ value xs → map (singly script number side) positions ≡ map value xs
  -- "One position off the match refuses the lot with 14": with equal lengths, exactly if it says so of some position
  pub off : (answer ≡ refusal 14 0) ↔ ((length positions ≡ length lent) × SomeOff script number side positions)
  -- the script's refusals and 13 are those of the single call, whatever its position
  pub before :
      (n place position : ℕ) → n ≢ 14 → n ≢ 22
      → (answer ≡ refusal n place) ↔ (singly script number side position ≡ refusal n place)

-- the lent buffer before and after
pub record BufferLeft (answer : Answer (List ℕ)) (lent lent' : List ℕ) : Type 0 where
  -- SCOPE, "Kept when refused": "writes none of it"
  pub refused : (n place : ℕ) → answer ≡ refusal n place → lent' ≡ lent
  -- "carried .. into a lent buffer"
  pub success : (xs : List ℕ) → answer ≡ value xs → lent' ≡ xs
  -- a lent buffer stays as long as it was
  pub same_length : length lent' ≡ length lent

pub record CarryingAllDemand (script : List ℕ) (number : ℕ) (side : Side) (positions lent : List ℕ)
    (answer : Answer (List ℕ)) (lent' : List ℕ) : Type 0 where
  -- the answer is an outcome whose condition is met ..
  pub stated : CarryingAllOutcome script number side positions lent answer
  -- .. and any outcome whose condition is met is the answer
  pub alone : (a : Answer (List ℕ)) → CarryingAllOutcome script number side positions lent a → a ≡ answer
  pub as_singly : AsSingly script number side positions lent answer
  pub leaves : BufferLeft answer lent lent'
