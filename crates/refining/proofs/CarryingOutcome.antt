-- The carrying call as `carrying_of` defines it meets its demand: of the outcomes in `CarryingOutcome` exactly one
-- applies, and it is the reply.
--     untrue                                        a test that is not true is false
--     listed_found, unlisted-none                   what is found, by the theory's list
--     carrying-refused, carrying-off, carrying-to   what `carrying_of` is, by what is found and by its span
--     carrying-demand                               the demand, of any reply that equals what `carrying_of` says
--     carrying-back                                 from the other side the call carries back
--     found-fits                                    the ends of a match that is found fit 32 bits
-- Numbers that rise name one match each, so the match found is the one in the theory's list. Assumes nothing.
use Prim.Native.Nat.{ℕ, zero, suc, ◌+◌, ◌^◌, ◌<◌}
use mathlib.Core.Path.{◌≡◌, refl, sym, ap, subst, ◌∙◌}
use mathlib.Core.Bool.{Bool, true, false}
use mathlib.Core.Logic.{◌⊎◌, inl, inr}
use mathlib.Core.List.{List, [], ◌∷◌}
use mathlib.Core.List.Memᴰ.{head as here}
use mathlib.Core.List.Memᴰ.{tail as there}
use native.Mathlib.Omega.{arith}
use lib.ListN.{length}
use Rattle.std.specs.Prelude.{Result, Ok, Err}
use Rattle.script.specs.Reading.{Reading, admitted, refused, read_script}
use Rattle.script.specs.Answers.{Answer, value, contents}
use Rattle.script.specs.Outcomes.{Outcome}
use Rattle.script.specs.Finding.{found_in, finding_of}
use Rattle.script.specs.declared.command.Match.{Match as ScriptMatch}
use Rattle.script.specs.declared.command.Mark.{Mark}
use Rattle.script.specs.declared.refusal.Refusal.{Refusal}
use Rattle.script.specs.declared.refusal.Refusal.TheVariants.{NoSuchMatch, OffTheMatch}
use Rattle.script.proofs.Outcome.{reach-within, reach-range, read-outcome, outcome-admitted, outcome-refused}
use Rattle.refinement.specs.declared.Side.{Side}
use Rattle.refinement.specs.declared.Side.TheVariants.{A, B}
use Rattle.refinement.specs.Order.{◌∈◌}
use Rattle.refinement.specs.Match.{Match, other, on_side, left, right, Spans, spanned, carry_over, carry}
use Rattle.refinement.specs.Least.{spans?}
use Rattle.refinement.proofs.Geometry.{carry-spans, carry_back, spanned-iff}
use Rattle.refinement.proofs.Tiling.{number-unique}
use Rattle.refining.specs.Refining.{with_number, numbered, Given}
use Rattle.refining.specs.Demands.{Admitted, reads}
use Rattle.refining.specs.Carrying.{carrying_over, carrying_of, carried_answer, CarryingOutcome, CarryingDemand}
use Rattle.refining.proofs.Numbered.{admitted_of, admitted-matches, numbered-range}

-- ---- the match of a number

-- what is found under a number in the theory's list, where it is the k-th
data Found (ms : List Match) (number k : ℕ) : Result ScriptMatch Refusal → Type 0 where
  some : {x : ScriptMatch} → with_number number x ∈ ms → Found ms number k (Ok x)
  none : (k ≡ 0) ⊎ (length ms < k) → Found ms number k (Err NoSuchMatch)

found-later : {ms : List Match} {m : Match} {number k : ℕ} {f : Result ScriptMatch Refusal} → Found ms number (suc k) f
    → Found (m ∷ ms) number (suc (suc k)) f
found-later (some i) = some (there i)
found-later (none (inl e)) = absurd (omega arith)
found-later (none (inr h)) = none (inr (omega arith))

found : (n : ℕ) (ms : List ScriptMatch) (number k : ℕ) → number ≡ n + k
    → Found (numbered (suc n) ms) number k (found_in ms k)
found n [] number zero e = none (inl refl)
found n [] number (suc k) e = none (inr (omega arith))
found n (m ∷ ms) number zero e = none (inl refl)
found n (m ∷ ms) number (suc zero) e =
    let first : number ≡ suc n = omega arith in
    some (here (ap (λ (z : ℕ). with_number z m) first))
found n (m ∷ ms) number (suc (suc k)) e = found-later (found (suc n) ms number (suc k) (omega arith))

finding : {script : List ℕ} {g : Given} → Admitted script g → (number : ℕ)
    → Found g.matches number number (finding_of (read_script script) number)
finding (reads {ms = xs} o) number = rw (outcome-admitted o) (found 0 xs number number (omega arith))

listed-number : {script : List ℕ} {g : Given} {m : Match} → Admitted script g → m ∈ g.matches
    → (m.number ≡ 0) ⊎ (length g.matches < m.number) → ⊥
listed-number (reads {ms = xs} o) i (inl e) = omega (arith, numbered-range 1 xs i)
listed-number (reads {ms = xs} o) i (inr h) = omega (arith, numbered-range 1 xs i)

-- the match of the theory's list that has the number is the one that is found
pub listed_found : {script : List ℕ} (number : ℕ) {g : Given} {m : Match} → Admitted script g → m ∈ g.matches
    → m.number ≡ number
    → (x : ScriptMatch) × (finding_of (read_script script) number ≡ Ok x) × (with_number number x ≡ m)
listed_found {script} number {g} {m} a i e = go refl (finding a number)
  where
    go : {f : Result ScriptMatch Refusal} → finding_of (read_script script) number ≡ f → Found g.matches number number f
        → (x : ScriptMatch) × (finding_of (read_script script) number ≡ Ok x) × (with_number number x ≡ m)
    go e' (some {x} j) = (x, e', number-unique g.matches (admitted-matches a).numbered j i (sym e))
    go e' (none h) = absurd (listed-number a i (subst (λ (z : ℕ). (z ≡ 0) ⊎ (length g.matches < z)) (sym e) h))

pub unlisted-none : {script : List ℕ} (number : ℕ) {g : Given} → Admitted script g
    → (number ≡ 0) ⊎ (length g.matches < number)
    → finding_of (read_script script) number ≡ Err NoSuchMatch
unlisted-none {script} number {g} a h = go refl (finding a number)
  where
    go : {f : Result ScriptMatch Refusal} → finding_of (read_script script) number ≡ f → Found g.matches number number f
        → finding_of (read_script script) number ≡ Err NoSuchMatch
    go e (some j) = absurd (listed-number a j h)
    go e (none h') = e

-- ---- the cases

pub untrue : (b : Bool) → ¬ (b ≡ true) → b ≡ false
untrue true n = absurd (n refl)
untrue false n = refl

over-spanned : (m : Match) (side : Side) (position : ℕ) → Spans m side position
    → carrying_over m side position ≡ Ok (carry m side position)
over-spanned m side position t = rw ((spanned-iff m side position).1 t)

over-off : (m : Match) (side : Side) (position : ℕ) → ¬ Spans m side position
    → carrying_over m side position ≡ Err OffTheMatch
over-off m side position n =
    rw (untrue (spanned (left m side) m.length position) (λ e. n ((spanned-iff m side position).0 e)))

module _ (script : List ℕ) (number : ℕ) (side : Side) (position : ℕ) where
  pub carrying-refused : {r : Refusal} → finding_of (read_script script) number ≡ Err r
      → carrying_of script number side position ≡ Err r
  unfolding carrying_of
  carrying-refused e = rw e

  carrying-found : {x : ScriptMatch} → finding_of (read_script script) number ≡ Ok x
      → carrying_of script number side position ≡ carrying_over (with_number number x) side position
  unfolding carrying_of
  carrying-found e = rw e

  module _ {x : ScriptMatch} {from : ℕ} (e : finding_of (read_script script) number ≡ Ok x)
      (from_is : from ≡ on_side side x.left_a x.left_b) where
    pub carrying-off : spanned from x.length position ≡ false
        → carrying_of script number side position ≡ Err OffTheMatch
    carrying-off test = carrying-found e ∙ rw (← from_is, test)

    pub carrying-to : {to : ℕ} → to ≡ on_side (other side) x.left_a x.left_b
        → spanned from x.length position ≡ true
        → carrying_of script number side position ≡ Ok (carry_over x.reversed from to x.length position)
    carrying-to to_is test = carrying-found e ∙ rw (← from_is, ← to_is, test)

  -- the match of the theory's list that has the number is the one that is carried over
  carrying-listed : {g : Given} {m : Match} → Admitted script g → m ∈ g.matches → m.number ≡ number
      → carrying_of script number side position ≡ carrying_over m side position
  carrying-listed a i e =
      let found = listed_found number a i e in
      carrying-found found.1 ∙ ap (λ (z : Match). carrying_over z side position) found.2

  carrying-unlisted : {g : Given} → Admitted script g → (number ≡ 0) ⊎ (length g.matches < number)
      → carrying_of script number side position ≡ Err NoSuchMatch
  carrying-unlisted a h = carrying-refused (unlisted-none number a h)

  -- any outcome whose condition is met is what `carrying_of` replies
  outcome-carrying : {answer : Answer ℕ} → CarryingOutcome script number side position answer
      → answer ≡ carried_answer (carrying_of script number side position)
  outcome-carrying (CarryingOutcome.script_refused o) =
      let f = outcome-refused o in rw (carrying-refused (ap (λ x. finding_of x number) f.read)) (cc)
  outcome-carrying (CarryingOutcome.no_such_match a h) = rw (carrying-unlisted a h)
  outcome-carrying (CarryingOutcome.off_the_match {m = m} a i e n) =
      rw (carrying-listed a i e, over-off m side position n)
  outcome-carrying (CarryingOutcome.carried {m = m} a i e t) =
      rw (carrying-listed a i e, over-spanned m side position t)

  carrying-stated : CarryingOutcome script number side position (carried_answer (carrying_of script number side position))
  carrying-stated = by-reading (read_script script) refl
    where
      by_span : {g : Given} {m : Match} → Admitted script g → m ∈ g.matches → m.number ≡ number
          → Dec (Spans m side position)
          → CarryingOutcome script number side position (carried_answer (carrying_of script number side position))
      by_span {m = m} a i e (yes t) =
          rw (carrying-listed a i e, over-spanned m side position t) (CarryingOutcome.carried a i e t)
      by_span {m = m} a i e (no n) =
          rw (carrying-listed a i e, over-off m side position n) (CarryingOutcome.off_the_match a i e n)

      by-found : {g : Given} {f : Result ScriptMatch Refusal} → Admitted script g → Found g.matches number number f
          → CarryingOutcome script number side position (carried_answer (carrying_of script number side position))
      by-found a (some {x} i) = by_span a i refl (spans? (with_number number x) side position)
      by-found a (none h) = rw (carrying-unlisted a h) (CarryingOutcome.no_such_match a h)

      by-reading : (x : Reading) → read_script script ≡ x
          → CarryingOutcome script number side position (carried_answer (carrying_of script number side position))
      by-reading (refused r) e =
          rw (carrying-refused (ap (λ x. finding_of x number) e))
          (CarryingOutcome.script_refused (read-outcome e))
      by-reading (admitted ls ms ks) e = let a = admitted_of e in by-found a (finding a number)

  -- ---- the law

  pub carrying-demand : {reply : Result ℕ Refusal} → reply ≡ carrying_of script number side position
      → CarryingDemand script number side position (carried_answer reply)
  carrying-demand e = rw e (record { stated = carrying-stated; alone = λ _ o. outcome-carrying o })

-- "Carrying from B to A is the inverse": what is carried to the other side is carried back to where it was
pub carrying-back :
    (script : List ℕ) (number : ℕ) (side : Side) (position : ℕ) {x : ℕ}
    → carrying_of script number side position ≡ Ok x → carrying_of script number (other side) x ≡ Ok position
carrying-back script number side position {x} e = by-finding (finding_of (read_script script) number) refl
  where
    by_span : (m : Match) → Dec (Spans m side position) → carrying_over m side position ≡ Ok x
        → carrying_over m (other side) x ≡ Ok position
    by_span m (yes t) e' =
        let there : carry m side position ≡ x = cc (over-spanned m side position t) in
        rw (← there, over-spanned m (other side) (carry m side position) (carry-spans m side position t))
        (ap Ok (carry_back m side position t))
    by_span m (no n) e' = let z : ◌≡◌ {A = ℕ} 0 1 = cc (over-off m side position n) in absurd (omega arith)

    by-finding : (f : Result ScriptMatch Refusal) → finding_of (read_script script) number ≡ f
        → carrying_of script number (other side) x ≡ Ok position
    by-finding (Err r) is =
        let z : ◌≡◌ {A = ℕ} 0 1 = cc (carrying-refused script number side position is) in absurd (omega arith)
    by-finding (Ok y) is =
        let m = with_number number y in
        carrying-found script number (other side) x is
        ∙ by_span m (spans? m side position) (sym (carrying-found script number side position is) ∙ e)

-- ---- carrying over a match that is found never wraps

found-∈ : (ms : List ScriptMatch) (number : ℕ) {x : ScriptMatch} → found_in ms number ≡ Ok x → x ∈ ms
found-∈ [] number e = let z : ◌≡◌ {A = ℕ} 0 1 = cc in absurd (omega arith)
found-∈ (m ∷ ms) zero e = let z : ◌≡◌ {A = ℕ} 0 1 = cc in absurd (omega arith)
found-∈ (m ∷ ms) (suc zero) {x} e = let same : x ≡ m = cc in here same
found-∈ (m ∷ ms) (suc (suc number)) e = there (found-∈ ms (suc number) e)

pub found-fits :
    (script : List ℕ) (number : ℕ) {x : ScriptMatch} → finding_of (read_script script) number ≡ Ok x
    → (side : Side) → right (with_number number x) side < 2 ^ 32
found-fits script number {x} e side = by-reading (read_script script) refl e
  where
    by-outcome : {ls : List ℕ} {ms : List ScriptMatch} {ks : List Mark} → Outcome script (value (contents ls ms ks))
        → x ∈ ms → (side : Side) → right (with_number number x) side < 2 ^ 32
    by-outcome (Outcome.is_admitted r b l) i A = omega (arith, reach-within r i, (reach-range r).0.few)
    by-outcome (Outcome.is_admitted r b l) i B = omega (arith, reach-within r i, (reach-range r).1.few)

    by-reading : (reading : Reading) → read_script script ≡ reading → finding_of reading number ≡ Ok x
        → right (with_number number x) side < 2 ^ 32
    by-reading (refused r) is e' = let z : ◌≡◌ {A = ℕ} 0 1 = cc in absurd (omega arith)
    by-reading (admitted ls ms ks) is e' = by-outcome (read-outcome is) (found-∈ ms number e') side
