-- From the way over a match and its test of a position to what the carrying call ensures.
--     replied            the call's contract, by the reply's equation
--     carried-refused    the refusal without a way is the call's
--     carried-off        a position that fails the test is 14
--     carried-to         any other is carried
-- Assumes nothing.
use Prim.Native.Nat.{ℕ}
use mathlib.Core.Path.{◌≡◌, refl, sym, ap, ◌∙◌}
use mathlib.Core.Bool.{Bool, true, false}
use mathlib.Core.List.{List}
use Rattle.std.specs.Prelude.{Result, Ok, Err}
use Rattle.script.specs.Reading.{read_script}
use Rattle.script.specs.Finding.{finding_of}
use Rattle.script.specs.declared.refusal.Refusal.{Refusal}
use Rattle.script.specs.declared.refusal.Refusal.TheVariants.{OffTheMatch}
use Rattle.refinement.specs.declared.Side.{Side}
use Rattle.refinement.specs.Match.{between, carry_to, spanned, left}
use Rattle.refining.specs.Refining.{with_number}
use Rattle.refining.specs.Carrying.{carrying_of, carried_answer, CarryingDemand}
use Rattle.refining.proofs.CarryingOutcome.{carrying-refused, carrying-off, carrying-to, carrying-demand}
use Rattle.carrying.specs.Ways.{crossing_of}
use Rattle.carrying.specs.declared.Way.{Way}
use Rattle.carrying.proofs.Ways.{Crossed, crossing-refused, crossed, way_test, way-carries}

module _ {script : List ℕ} {number : ℕ} {side : Side} {position : ℕ} where
  pub replied : {reply : Result ℕ Refusal} → reply ≡ carrying_of script number side position
      → (reply ≡ carrying_of script number side position)
      × CarryingDemand script number side position (carried_answer reply)
  replied e = (e, carrying-demand script number side position e)

module _ (script : List ℕ) (number : ℕ) (side : Side) (position : ℕ) {crossing : Result Way Refusal}
    (crosses : crossing ≡ crossing_of (finding_of (read_script script) number) side) where
  pub carried-refused : {r : Refusal} → crossing ≡ Err r → Err r ≡ carrying_of script number side position
  carried-refused e =
      sym (carrying-refused script number side position (crossing-refused script number side crosses e))

  module _ {way : Way} (over : crossing ≡ Ok way) {spans : Bool}
      (spans-is : spans ≡ between way.from way.from_right position) where
    -- the match that the way goes over, and the test on it
    abbrev c : Crossed script number side way
    c = crossed script number side crosses over

    tested : {b : Bool} → spans ≡ b → spanned (left (with_number number c.over) side) c.over.length position ≡ b
    tested e = sym (way_test c position) ∙ sym spans-is ∙ e

    pub carried-off : spans ≡ false → Err OffTheMatch ≡ carrying_of script number side position
    carried-off off = sym (carrying-off script number side position c.found refl (tested off))

    pub carried-to : spans ≡ true → {x : ℕ} → x ≡ carry_to way.reversed way.from way.to way.to_right position
        → Ok x ≡ carrying_of script number side position
    carried-to on is =
        ap Ok (is ∙ way-carries c position)
        ∙ sym (carrying-to script number side position c.found refl refl (tested on))
