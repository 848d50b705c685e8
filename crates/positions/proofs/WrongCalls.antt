-- Wrong programs of 02, #107, each with a demand that is false of what it would answer or leave.
--     fourteen-first-refused      another refusal than 22 where the lengths differ: 14 tested before 22
--     spare-room-refused          success where they differ: a longer buffer taken, or as many numbers as there is room
--     twenty-two-first-refused    another refusal than 13 without such a match: 22 tested before 13
--     off-unheeded-refused        success with a position off the match: not every one tested
--     off-without-refused         14 of positions that the single call carries, as at the ends of the match
--     empty-refused               14 of an empty list
--     begun-refused               a buffer altered under a refusal: written up to the position that is off
--     otherwise-refused           other numbers than the single call's: from the other side, in another order
-- Assumes nothing.
use Prim.Native.Nat.{ℕ, ◌<◌}
use mathlib.Core.Path.{◌≡◌, refl}
use mathlib.Core.Logic.{◌⊎◌, ◌≢◌}
use mathlib.Core.List.{List, [], map}
use lib.ListN.{length}
use Rattle.script.specs.Answers.{Answer, value, refusal}
use Rattle.refinement.specs.declared.Side.{Side}
use Rattle.refinement.specs.Order.{◌∈◌}
use Rattle.refinement.specs.Match.{Match, Spans}
use Rattle.refining.specs.Refining.{Given}
use Rattle.refining.specs.Demands.{Admitted}
use Rattle.refining.proofs.Demands.{refusal-value}
use Rattle.positions.specs.Demands.{singly, OverMatch, CarryingAllOutcome, CarryingAllDemand}
use Rattle.positions.proofs.Laws.{empty-not-off}

module _ (script : List ℕ) (number : ℕ) (side : Side) (positions lent lent' : List ℕ) where
  -- the demand on this call
  abbrev Demand : Answer (List ℕ) → Type 0
  Demand a = CarryingAllDemand script number side positions lent a lent'

  -- refusals of different numbers are different answers
  other-refusal : {m n place place' : ℕ} → m ≢ n → ◌≡◌ {A = Answer (List ℕ)} (refusal n place) (refusal m place') → ⊥
  other-refusal {m} {n} other e = let same : m ≡ n = cc in other same

  twenty-two-first-refused : {g : Given} {n place : ℕ} → Admitted script g
      → (number ≡ 0) ⊎ (length g.matches < number) → n ≢ 13 → ¬ Demand (refusal n place)
  twenty-two-first-refused a none other d =
      other-refusal other (d.alone (refusal 13 0) (CarryingAllOutcome.no_such_match a none))

  module _ {m : Match} (over : OverMatch script number m) where
    fourteen-first-refused : {n place : ℕ} → length positions ≢ length lent → n ≢ 22 → ¬ Demand (refusal n place)
    fourteen-first-refused differ other d =
        other-refusal other (d.alone (refusal 22 0) (CarryingAllOutcome.counts_differ over differ))

    spare-room-refused : (xs : List ℕ) → length positions ≢ length lent → ¬ Demand (value xs)
    spare-room-refused xs differ d =
        refusal-value (d.alone (refusal 22 0) (CarryingAllOutcome.counts_differ over differ))

    off-unheeded-refused : (xs : List ℕ) {position : ℕ} → length positions ≡ length lent → position ∈ positions
        → ¬ Spans m side position → ¬ Demand (value xs)
    off-unheeded-refused xs same i off d =
        refusal-value (d.alone (refusal 14 0) (CarryingAllOutcome.off_the_match over same i off))

  off-without-refused :
      ((position : ℕ) → position ∈ positions → singly script number side position ≢ refusal 14 0)
      → ¬ Demand (refusal 14 0)
  off-without-refused carried d =
      let some = (d.as_singly.off.0 refl).1 in carried some.position some.listed some.off

  begun-refused : (n place : ℕ) → lent' ≢ lent → ¬ Demand (refusal n place)
  begun-refused n place altered d = altered (d.leaves.refused n place refl)

  otherwise-refused : (xs : List ℕ) → map (singly script number side) positions ≢ map value xs → ¬ Demand (value xs)
  otherwise-refused xs other d = other (d.as_singly.each xs refl)

empty-refused : (script : List ℕ) (number : ℕ) (side : Side) (lent lent' : List ℕ)
    → ¬ CarryingAllDemand script number side [] lent (refusal 14 0) lent'
empty-refused script number side lent lent' d = empty-not-off script number side d refl
