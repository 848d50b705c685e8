-- The way over the match of a number, from what finding the match tells.
--     from-fits, to-fits             its right ends fit 32 bits
--     crossing-refused               without a way the match was refused so
--     Crossed, crossed               with one it is that over the match that was found
--     way_test, way-carries          its test and its carrying are those of the match
-- Assumes nothing.
use Prim.Native.Nat.{ℕ, ◌+◌, ◌^◌, ◌<◌}
use mathlib.Core.Path.{◌≡◌, refl, sym, ap, ◌∙◌}
use mathlib.Core.List.{List}
use native.Mathlib.Omega.{arith}
use Rattle.std.specs.Prelude.{Result, Ok, Err}
use Rattle.script.specs.Reading.{read_script}
use Rattle.script.specs.Finding.{finding_of}
use Rattle.script.specs.declared.command.Match.{Match as ScriptMatch}
use Rattle.script.specs.declared.refusal.Refusal.{Refusal}
use Rattle.refinement.specs.declared.Side.{Side}
use Rattle.refinement.specs.Match.{other, on_side, left, spanned, between, carry_to, carry}
use Rattle.refinement.proofs.Geometry.{carry-ends}
use Rattle.refining.specs.Refining.{with_number}
use Rattle.refining.proofs.CarryingOutcome.{found-fits}
use Rattle.carrying.specs.Ways.{way_over, crossing_of}
use Rattle.carrying.specs.declared.Way.{Way}

-- ---- working it out

module _ (script : List ℕ) (number : ℕ) (side : Side) {finding : Result ScriptMatch Refusal}
    (finds : finding ≡ finding_of (read_script script) number) where
  module _ {x : ScriptMatch} (found : finding ≡ Ok x) {from : ℕ}
      (from_is : from ≡ on_side side x.left_a x.left_b) where
    pub from-fits : from + x.length < 2 ^ 32
    from-fits = omega (arith, from_is, found-fits script number (sym finds ∙ found) side)

    module _ {opposite : Side} {to : ℕ} (opposite-is : opposite ≡ other side)
        (to_is : to ≡ on_side opposite x.left_a x.left_b) where
      to-other : to ≡ on_side (other side) x.left_a x.left_b
      to-other = to_is ∙ ap (λ (s : Side). on_side s x.left_a x.left_b) opposite-is

      pub to-fits : to + x.length < 2 ^ 32
      to-fits = omega (arith, to-other, found-fits script number (sym finds ∙ found) (other side))

-- ---- going over it

-- the match that the way goes over
pub record Crossed (script : List ℕ) (number : ℕ) (side : Side) (way : Way) : Type 0 where
  pub over : ScriptMatch
  pub found : finding_of (read_script script) number ≡ Ok over
  pub is : way ≡ way_over over side

module _ (script : List ℕ) (number : ℕ) (side : Side) {crossing : Result Way Refusal}
    (crosses : crossing ≡ crossing_of (finding_of (read_script script) number) side) where
  pub crossing-refused : {r : Refusal} → crossing ≡ Err r
      → finding_of (read_script script) number ≡ Err r
  crossing-refused {r} e = go (finding_of (read_script script) number) (sym crosses ∙ e)
    where
      go : (f : Result ScriptMatch Refusal) → crossing_of f side ≡ Err r → f ≡ Err r
      go (Err r') e' = cc
      go (Ok x) e' = let z : ◌≡◌ {A = ℕ} 0 1 = cc in absurd (omega arith)

  pub crossed : {way : Way} → crossing ≡ Ok way → Crossed script number side way
  crossed {way} e = go (finding_of (read_script script) number) refl (sym crosses ∙ e)
    where
      go : (f : Result ScriptMatch Refusal) → finding_of (read_script script) number ≡ f → crossing_of f side ≡ Ok way
          → Crossed script number side way
      go (Err r) is e' = let z : ◌≡◌ {A = ℕ} 0 1 = cc in absurd (omega arith)
      go (Ok x) is e' = let same : way_over x side ≡ way = cc in
          record { over = x; found = is; is = sym same }

module _ {script : List ℕ} {number : ℕ} {side : Side} {way : Way} (c : Crossed script number side way) where
  pub way_test : (position : ℕ) →
      let m = with_number number c.over in
      between way.from way.from_right position ≡ spanned (left m side) m.length position
  way_test position = rw c.is

  pub way-carries : (position : ℕ) →
      carry_to way.reversed way.from way.to way.to_right position
      ≡ carry (with_number number c.over) side position
  way-carries position =
      let way = way_over c.over side in
      rw c.is (carry-ends way.reversed way.from way.to c.over.length position refl)
