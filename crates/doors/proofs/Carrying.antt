-- Carrying from one side undoes carrying from the other: what a door carries to, the other door carries back.
--     a-then-b, b-then-a             of the doors, whatever stood behind their pointers
--     all-a-then-b, all-b-then-a     of the doors for lists, into any buffer of that length
-- 01: "Carrying from B to A is the inverse." Assumes nothing.
use Prim.Native.Nat.{ℕ}
use mathlib.Core.Path.{◌≡◌, refl}
use mathlib.Core.List.{List}
use lib.ListN.{length}
use native.Mathlib.Omega.{arith}
use Rattle.std.specs.Prelude.{Result, Ok, Err}
use Rattle.script.specs.declared.refusal.Refusal.{Refusal}
use Rattle.refinement.specs.declared.Side.{Side}
use Rattle.refinement.specs.declared.Side.TheVariants.{A, B}
use Rattle.refinement.specs.Match.{other}
use Rattle.refining.specs.Carrying.{carrying_of}
use Rattle.refining.proofs.CarryingOutcome.{carrying-back}
use Rattle.positions.specs.CarryingAll.{carrying_all_of}
use Rattle.positions.proofs.Laws.{carried-back}
use Rattle.doors.specs.Doors.{door, carry_door, carry_from_a, carry_from_b}
use Rattle.doors.specs.Doors.{of_carried_all, carry_all_door, carry_all_from_a, carry_all_from_b}
use Rattle.doors.proofs.Agreement.{number-some}

module _ (script : List ℕ) (number position place was place' was' : ℕ) where
  there_and_back : (s : Side) → let there = carry_door s script number position place was in there.number ≡ 0
      → carry_door (other s) script number there.given place' was'
      ≡ record { number = 0; place = place'; given = position }
  there_and_back s = go (carrying_of script number s position) refl
    where
      go : (a : Result ℕ Refusal) → carrying_of script number s position ≡ a → let there = door a place was in
          there.number ≡ 0 → carry_door (other s) script number there.given place' was'
          ≡ record { number = 0; place = place'; given = position }
      go (Ok x) e z = rw (carrying-back script number s position e)
      go (Err r) e z = absurd (omega (arith, number-some r))

  a-then-b : let there = carry_from_a script number position place was in there.number ≡ 0
      → carry_from_b script number there.given place' was' ≡ record { number = 0; place = place'; given = position }
  a-then-b z = there_and_back A z

  b-then-a : let there = carry_from_b script number position place was in there.number ≡ 0
      → carry_from_a script number there.given place' was' ≡ record { number = 0; place = place'; given = position }
  b-then-a z = there_and_back B z

module _ (script : List ℕ) (number : ℕ) (positions : List ℕ) (place : ℕ) (was : List ℕ) (place' : ℕ) (was' : List ℕ)
  where
    all-there-and-back : (s : Side) → let there = carry_all_door s script number positions place was in
        there.number ≡ 0 → length there.given ≡ length was'
        → carry_all_door (other s) script number there.given place' was'
        ≡ record { number = 0; place = place'; given = positions }
    all-there-and-back s =
        let made = carrying_all_of script number s positions was in go made.reply made.carried refl refl
      where
        go : (a : Result (Unit {0}) Refusal) (xs : List ℕ) → (carrying_all_of script number s positions was).reply ≡ a
            → (carrying_all_of script number s positions was).carried ≡ xs
            → let there = door (of_carried_all a xs) place was in
            there.number ≡ 0 → length there.given ≡ length was'
            → carry_all_door (other s) script number there.given place' was'
            ≡ record { number = 0; place = place'; given = positions }
        go (Ok _) xs e h z long =
            let made : carrying_all_of script number s positions was ≡ record { reply = Ok tt; carried = xs } =
            rw (← e, ← h) in
            rw (carried-back script number s positions was was' xs made long)
        go (Err r) xs e h z long = absurd (omega (arith, number-some r))

    all-a-then-b : let there = carry_all_from_a script number positions place was in there.number ≡ 0
        → length there.given ≡ length was'
        → carry_all_from_b script number there.given place' was'
        ≡ record { number = 0; place = place'; given = positions }
    all-a-then-b z = all-there-and-back A z

    all-b-then-a : let there = carry_all_from_b script number positions place was in there.number ≡ 0
        → length there.given ≡ length was'
        → carry_all_from_a script number there.given place' was'
        ≡ record { number = 0; place = place'; given = positions }
    all-b-then-a z = all-there-and-back B z
