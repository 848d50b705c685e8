-- The loops over the records and over the marks: those passed have no fault, and judging goes on behind them.
--     Onward                    what holds between two of them
--     onward-start, onward-next, onward-ends     at the start, a sound one later, and behind the last
--     fault-found               a faulty one is the first fault of all
--     records-good              records without a fault: the marks decide
-- Assumes nothing.
use Prim.Native.Nat.{ℕ, ◌+◌, ◌≤◌, ◌<◌}
use mathlib.Core.Path.{◌≡◌, sym, ap, ◌∙◌}
use mathlib.Core.List.{List}
use native.Mathlib.Omega.{arith}
use lib.ListN.{length, get_or, drop, drop_of_length-le}
use Rattle.std.specs.Prelude.{Result, Ok, Err}
use Rattle.script.specs.declared.refusal.Refusal.{Refusal}
use Rattle.records.specs.Records.{records_of}
use Rattle.records.specs.Writing.{first_fault, judged_from, records_judgement, marks_judgement}
use Rattle.records.proofs.Passed.{judged-here}

-- k of the items are passed; the first has the number first
pub record Onward {X : Type 0} (judge : ℕ → X → Result (Unit {0}) Refusal) (first : ℕ) (xs : List X) (k : ℕ) : Type 0 where
  pub onward : judged_from judge first xs ≡ judged_from judge (first + k) (drop k xs)

module _ {X : Type 0} {judge : ℕ → X → Result (Unit {0}) Refusal} {first : ℕ} {xs : List X} where
  pub onward-start : Onward judge first xs 0
  onward-start =
      let none : first ≡ first + 0 = omega arith in
      record { onward = ap (λ (n : ℕ). judged_from judge n xs) none }

  module _ {k : ℕ} (h : Onward judge first xs k) where
    -- the one behind k others decides what comes
    here : (blank : X) {x : X} {j : Result (Unit {0}) Refusal} {number : ℕ} → k < length xs → x ≡ get_or xs k blank
        → number ≡ first + k → j ≡ judge number x
        → judged_from judge first xs ≡ first_fault j (judged_from judge (first + (k + 1)) (drop (k + 1) xs))
    here blank below read numbered judged =
        let next : first + k + 1 ≡ first + (k + 1) = omega arith in
        h.onward ∙ judged-here judge (first + k) xs blank k below ∙ rw (judged, numbered, read, next)

    pub onward-next : (blank : X) {x : X} {j : Result (Unit {0}) Refusal} {number : ℕ} {u : Unit {0}} → k < length xs
        → x ≡ get_or xs k blank → number ≡ first + k → j ≡ judge number x → j ≡ Ok u → Onward judge first xs (k + 1)
    onward-next blank below read numbered judged is =
        record { onward = here blank below read numbered judged ∙ rw is }

    pub fault-found : (blank : X) {x : X} {j : Result (Unit {0}) Refusal} {number : ℕ} {f : Refusal} → k < length xs
        → x ≡ get_or xs k blank → number ≡ first + k → j ≡ judge number x → j ≡ Err f
        → Err f ≡ judged_from judge first xs
    fault-found blank below read numbered judged is = sym (here blank below read numbered judged ∙ rw is)

    pub onward-ends : length xs ≤ k → Ok tt ≡ judged_from judge first xs
    unfolding judged_from
    onward-ends all = sym (h.onward ∙ rw (drop_of_length-le xs {i = k} all))

-- ---- the records before the marks

module _ (p q : ℕ) (ns zs : List ℕ) {j : Result (Unit {0}) Refusal} (judged : j ≡ records_judgement p q ns) where
  pub records-good : {count : ℕ} {later : Result (Unit {0}) Refusal} {u : Unit {0}} → j ≡ Ok u
      → count ≡ length (records_of ns) → later ≡ marks_judgement p q count zs
      → later ≡ first_fault (records_judgement p q ns) (marks_judgement p q (length (records_of ns)) zs)
  records-good is counted marks = rw (sym judged ∙ is, ← counted) marks
