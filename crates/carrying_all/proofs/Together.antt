-- From the way over a match and its test of all positions to what carrying them together ensures.
--     replied          the call's contract, by the equations of the reply and of the buffer
--     no_way           the refusal without a way is the call's
--     other_length     with a buffer of another length it is 22
--     some-off         with a position that fails the test it is 14
--     all-on           else all are carried
-- Assumes nothing.
use Prim.Native.Nat.{ℕ}
use mathlib.Core.Path.{◌≡◌, refl, sym, ap, ap₂, ◌∙◌}
use mathlib.Core.Bool.{Bool, true, false}
use mathlib.Core.List.{List, [], ◌∷◌, map}
use mathlib.Core.Logic.{◌≢◌}
use lib.ListN.{length}
use Rattle.std.specs.Prelude.{Result, Ok, Err}
use Rattle.script.specs.Reading.{read_script}
use Rattle.script.specs.Finding.{finding_of}
use Rattle.script.specs.declared.refusal.Refusal.{Refusal}
use Rattle.script.specs.declared.refusal.Refusal.TheVariants.{OffTheMatch, CountsDiffer}
use Rattle.refinement.specs.declared.Side.{Side}
use Rattle.refinement.specs.Match.{left, spanned, between, carry_to, carry}
use Rattle.refining.specs.Refining.{with_number}
use Rattle.positions.specs.CarryingAll.{every, kept_by, carrying_all_of}
use Rattle.positions.specs.Demands.{carried_all_answer, CarryingAllDemand}
use Rattle.positions.proofs.Demands.{all-refused, all_found, over-differ, over-off, over-all, all-demand}
use Rattle.carrying.specs.Ways.{crossing_of}
use Rattle.carrying.specs.declared.Way.{Way}
use Rattle.carrying.proofs.Ways.{Crossed, crossing-refused, crossed, way_test, way-carries}

module _ {script : List ℕ} {number : ℕ} {side : Side} {positions lent : List ℕ} where
  pub replied : {reply : Result (Unit {0}) Refusal} {lent' : List ℕ}
      → carrying_all_of script number side positions lent ≡ record { reply = reply; carried = lent' }
      → (reply ≡ (carrying_all_of script number side positions lent).reply)
      × ((lent' ≡ (carrying_all_of script number side positions lent).carried)
      × CarryingAllDemand script number side positions lent (carried_all_answer reply lent') lent')
  replied {reply} {lent'} e =
      let told : reply ≡ (carrying_all_of script number side positions lent).reply = rw e in
      let held : lent' ≡ (carrying_all_of script number side positions lent).carried = rw e in
      (told, (held, all-demand script number side positions lent told held))

-- the way's test and its carrying are those of the match, on all positions
module _ {script : List ℕ} {number : ℕ} {side : Side} {way : Way} (c : Crossed script number side way) where
  tests-all : (xs : List ℕ) → let m = with_number number c.over in
      every (between way.from way.from_right) xs ≡ every (spanned (left m side) m.length) xs
  tests-all [] = refl
  tests-all (x ∷ xs) = rw (way_test c x, tests-all xs)

  carries-all : (xs : List ℕ) →
      map (carry_to way.reversed way.from way.to way.to_right) xs
      ≡ map (carry (with_number number c.over) side) xs
  carries-all [] = refl
  carries-all (x ∷ xs) = ap₂ ◌∷◌ (way-carries c x) (carries-all xs)

module _ (script : List ℕ) (number : ℕ) (side : Side) (positions lent : List ℕ) {crossing : Result Way Refusal}
    (crosses : crossing ≡ crossing_of (finding_of (read_script script) number) side) where
  pub no_way : {r : Refusal} {reply : Result (Unit {0}) Refusal} → crossing ≡ Err r → reply ≡ Err r
      → carrying_all_of script number side positions lent ≡ record { reply = reply; carried = lent }
  no_way e is = rw is (all-refused script number side positions lent (crossing-refused script number side crosses e))

  module _ {way : Way} (over : crossing ≡ Ok way) where
    pub other_length : length positions ≢ length lent
        → carrying_all_of script number side positions lent ≡ kept_by CountsDiffer lent
    other_length n =
        let c = crossed script number side crosses over in
        all_found script number side positions lent c.found
        ∙ over-differ (with_number number c.over) side positions lent n

    module _ (same : length positions ≡ length lent) {test : Bool}
        (tests : test ≡ every (between way.from way.from_right) positions) where
      pub some-off : test ≡ false → carrying_all_of script number side positions lent ≡ kept_by OffTheMatch lent
      some-off off =
          let c = crossed script number side crosses over in
          all_found script number side positions lent c.found
          ∙ over-off (with_number number c.over) side positions lent same
          (sym (tests-all c positions) ∙ sym tests ∙ off)

      pub all-on : test ≡ true → {lent' : List ℕ}
          → lent' ≡ map (carry_to way.reversed way.from way.to way.to_right) positions
          → carrying_all_of script number side positions lent ≡ record { reply = Ok tt; carried = lent' }
      all-on on is =
          let c = crossed script number side crosses over in
          all_found script number side positions lent c.found
          ∙ over-all (with_number number c.over) side positions lent same
          (sym (tests-all c positions) ∙ sym tests ∙ on)
          ∙ ap (λ (l : List ℕ). record { reply = Ok tt; carried = l }) (sym (is ∙ carries-all c positions))
