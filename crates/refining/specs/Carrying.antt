-- What the carrying call does, on every script, number, side and position. TO READ: contracts mean what stands here.
--     carrying_of script number side position   the reply: the carried position, or the refusal
--     carried_answer                            the reply in 01's words
--     CarryingOutcome                          what may come of a call, by its condition: 01's table, and a value
--     CarryingDemand                           exactly one outcome's condition is met, and it is the answer
-- 01, "Positions and carrying" and "Refused scripts and calls". `proofs/CarryingOutcome` shows that `carrying_of` meets
-- the demand. Assumes nothing.
use Rattle.std.specs.Prelude.{ℕ, ◌<◌, ◌≡◌, ◌⊎◌, cond, List, length, Result, Ok, Err}
use Rattle.script.specs.Refusals.{number_of, place_of}
use Rattle.script.specs.Reading.{read_script}
use Rattle.script.specs.Answers.{Answer, value, refusal}
use Rattle.script.specs.Outcomes.{Outcome}
use Rattle.script.specs.Finding.{finding_of}
use Rattle.script.specs.declared.command.Match.{Match as ScriptMatch}
use Rattle.script.specs.declared.refusal.Refusal.{Refusal}
use Rattle.script.specs.declared.refusal.Refusal.TheVariants.{OffTheMatch}
use Rattle.refinement.specs.declared.Side.{Side}
use Rattle.refinement.specs.Order.{◌∈◌}
use Rattle.refinement.specs.Match.{Match, left, Spans, spanned, carry}
use Rattle.refining.specs.Refining.{with_number, Given}
use Rattle.refining.specs.Demands.{Admitted}

-- SCOPE, "Spans": over one match, carried if it spans the position on the side named, its two ends too, and else 14
abbrev pub carrying_over : Match → Side → ℕ → Result ℕ Refusal
carrying_over m side position =
    cond (spanned (left m side) m.length position) (Ok (carry m side position)) (Err OffTheMatch)

-- SCOPE, "Order of carrying": the script's refusals and 13 are the finding's, and 14 comes last
abbrev pub carrying_of_finding : Result ScriptMatch Refusal → ℕ → Side → ℕ → Result ℕ Refusal
carrying_of_finding (Err r) number side position = Err r
carrying_of_finding (Ok m) number side position = carrying_over (with_number number m) side position

unfoldable pub carrying_of : List ℕ → ℕ → Side → ℕ → Result ℕ Refusal
carrying_of script number side position = carrying_of_finding (finding_of (read_script script) number) number side position

abbrev pub carried_answer : Result ℕ Refusal → Answer ℕ
carried_answer (Ok position) = value position
carried_answer (Err r) = refusal (number_of r) (place_of r)

-- ---- what may come of a call

pub data CarryingOutcome (script : List ℕ) (number : ℕ) (side : Side) (position : ℕ) : Answer ℕ → Type 0 where
  -- 1 to 10, 19 to 21: the script's own refusal
  script_refused :
      {n place : ℕ} → Outcome script (refusal n place) → CarryingOutcome script number side position (refusal n place)
  -- 13: number 0 or above the count
  no_such_match :
      {g : Given} → Admitted script g → (number ≡ 0) ⊎ (length g.matches < number)
      → CarryingOutcome script number side position (refusal 13 0)
  -- 14: position outside its span on the side named
  off_the_match :
      {g : Given} {m : Match} → Admitted script g → m ∈ g.matches → m.number ≡ number → ¬ Spans m side position
      → CarryingOutcome script number side position (refusal 14 0)
  -- no refusal: what the match of that number carries the position to
  carried :
      {g : Given} {m : Match} → Admitted script g → m ∈ g.matches → m.number ≡ number → Spans m side position
      → CarryingOutcome script number side position (value (carry m side position))

pub record CarryingDemand (script : List ℕ) (number : ℕ) (side : Side) (position : ℕ) (answer : Answer ℕ) : Type 0 where
  -- the answer is an outcome whose condition is met ..
  pub stated : CarryingOutcome script number side position answer
  -- .. and any outcome whose condition is met is the answer
  pub alone : (a : Answer ℕ) → CarryingOutcome script number side position a → a ≡ answer
