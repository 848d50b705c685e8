-- Laws of carrying a list together, beside its demand.
--     empty-passes      over a match an empty list is carried into an empty buffer
--     empty-not-off     an empty list never meets 14
--     one-as-singly     a list of one position is what the single call says
--     carried-back      what was carried is carried back from the other side, into any buffer of that length
-- 02, #107: "An empty list passes 14"; 01: "Carrying from B to A is the inverse." Assumes nothing.
use Prim.Native.Nat.{ℕ}
use mathlib.Core.Path.{◌≡◌, refl, sym, ap, ap₂, subst}
use mathlib.Core.Bool.{Bool, true, false, cond, ◌&&◌}
use mathlib.Core.Logic.{◌≢◌, ⊎_elim}
use mathlib.Core.List.Memᴰ
use mathlib.Core.List.{List, [], ◌∷◌, map}
use mathlib.Core.List.Memᴰ.{head as here}
use mathlib.Core.List.Memᴰ.{tail as there}
use lib.ListN.{length}
use Rattle.std.specs.Prelude.{Result, Ok, Err}
use Rattle.script.specs.Reading.{read_script}
use Rattle.script.specs.Answers.{Answer, value, refusal}
use Rattle.script.specs.Finding.{finding_of}
use Rattle.script.specs.declared.command.Match.{Match as ScriptMatch}
use Rattle.script.specs.declared.refusal.Refusal.{Refusal}
use Rattle.script.specs.declared.refusal.Refusal.TheVariants.{OffTheMatch}
use Rattle.refinement.specs.declared.Side.{Side}
use Rattle.refinement.specs.Order.{◌∈◌}
use Rattle.refinement.specs.Match.{Match, left, other, Spans, spanned, carry}
use Rattle.refinement.proofs.Geometry.{carry-spans, carry_back}
use Rattle.refining.specs.Refining.{with_number}
use Rattle.refining.specs.Carrying.{carrying_of, carrying_of_finding}
use Rattle.refining.proofs.Demands.{refusal-value}
use Rattle.positions.specs.CarryingAll.{CarryingAll, kept_by, carried_by, carrying_all_of_finding, carrying_all_of}
use Rattle.positions.specs.Demands.{carried_all_answer, OverMatch, CarryingAllOutcome, CarryingAllDemand}
use Rattle.positions.proofs.Demands.{all-demand}

-- ---- the answer tells the reply and the buffer

module _ (script : List ℕ) (number : ℕ) (side : Side) (positions lent : List ℕ) where
  -- any outcome of the call is what it answers
  answered : {a : Answer (List ℕ)} → CarryingAllOutcome script number side positions lent a
      → let made = carrying_all_of script number side positions lent in carried_all_answer made.reply made.carried ≡ a
  answered {a} o = sym ((all-demand script number side positions lent refl refl).alone a o)

value_made : (x : CarryingAll) {xs : List ℕ} → carried_all_answer x.reply x.carried ≡ value xs
    → x ≡ record { reply = Ok tt; carried = xs }
value_made x {xs} e = go x.reply refl e
  where
    go : (a : Result (Unit {0}) Refusal) → x.reply ≡ a → carried_all_answer a x.carried ≡ value xs
        → x ≡ record { reply = Ok tt; carried = xs }
    go (Ok tt) is e' = let same : x.carried ≡ xs = cc in ap₂ (λ r l. record { reply = r; carried = l }) is same
    go (Err r) is e' = absurd (refusal-value e')

-- ---- over one match, there and back

-- what the positions of a list are carried to is on the match, on the other side, and is carried back to them
record ThereAndBack (m : Match) (side : Side) (positions : List ℕ) : Type 0 where
  arrives : (x : ℕ) → x ∈ map (carry m side) positions → Spans m (other side) x
  returns : map (carry m (other side)) (map (carry m side) positions) ≡ positions

there_and_back : (m : Match) (side : Side) (positions : List ℕ)
    → ((x : ℕ) → x ∈ positions → Spans m side x) → ThereAndBack m side positions
there_and_back m side [] t = record { arrives = λ x i. absurd (Memᴰ.not-nil i); returns = refl }
there_and_back m side (p ∷ ps) t =
    let here-spans = t p (here refl) in
    let rest = there_and_back m side ps (λ x i. t x (there i)) in
    record {
      arrives = λ x i.
          ⊎_elim (λ e. rw e (carry-spans m side p here-spans)) (rest.arrives x) (Memᴰ.cases_cons i);
      returns = ap₂ ◌∷◌ (carry_back m side p here-spans) rest.returns;
    }

-- ---- empty lists

module _ (script : List ℕ) (number : ℕ) (side : Side) where
  empty-passes : {m : Match} → OverMatch script number m
      → carrying_all_of script number side [] [] ≡ record { reply = Ok tt; carried = [] }
  empty-passes over =
      value_made _ (answered script number side [] []
      (CarryingAllOutcome.all_carried over refl (λ x i. absurd (Memᴰ.not-nil i))))

  pub empty-not-off : {lent lent' : List ℕ} {a : Answer (List ℕ)} → CarryingAllDemand script number side [] lent a lent'
      → a ≢ refusal 14 0
  empty-not-off d e = Memᴰ.not-nil (d.as_singly.off.0 e).1.listed

-- ---- a list of one

-- what the single call says, of a buffer of one number
abbrev of_one : Result ℕ Refusal → ℕ → CarryingAll
of_one (Ok x) lent = record { reply = Ok tt; carried = x ∷ [] }
of_one (Err r) lent = record { reply = Err r; carried = lent ∷ [] }

one-as-singly : (script : List ℕ) (number : ℕ) (side : Side) (position lent : ℕ)
    → carrying_all_of script number side (position ∷ []) (lent ∷ []) ≡ of_one (carrying_of script number side position) lent
unfolding carrying_all_of carrying_of
one-as-singly script number side position lent = go (finding_of (read_script script) number)
  where
    by-test : (m : Match) (b : Bool)
        → cond (b && true) (carried_by m side (position ∷ [])) (kept_by OffTheMatch (lent ∷ []))
        ≡ of_one (cond b (Ok (carry m side position)) (Err OffTheMatch)) lent
    by-test m true = refl
    by-test m false = refl

    go : (f : Result ScriptMatch Refusal) → carrying_all_of_finding f number side (position ∷ []) (lent ∷ [])
        ≡ of_one (carrying_of_finding f number side position) lent
    go (Err r) = refl
    go (Ok x) =
        let m = with_number number x in by-test m (spanned (left m side) m.length position)

-- ---- the way back

module _ (script : List ℕ) (number : ℕ) (side : Side) (positions lent lent' : List ℕ) where
  outcome-back : {a : Answer (List ℕ)} → CarryingAllOutcome script number side positions lent a → (xs : List ℕ)
      → a ≡ value xs → length xs ≡ length lent'
      → CarryingAllOutcome script number (other side) xs lent' (value positions)
  outcome-back (CarryingAllOutcome.script_refused o) xs e long = absurd (refusal-value e)
  outcome-back (CarryingAllOutcome.no_such_match a h) xs e long = absurd (refusal-value e)
  outcome-back (CarryingAllOutcome.counts_differ over n) xs e long = absurd (refusal-value e)
  outcome-back (CarryingAllOutcome.off_the_match over same i n) xs e long = absurd (refusal-value e)
  outcome-back (CarryingAllOutcome.all_carried {m} over same t) xs e long =
      let is : map (carry m side) positions ≡ xs = cc in
      let through = there_and_back m side positions t in
      subst (λ (l : List ℕ). CarryingAllOutcome script number (other side) xs lent' (value l))
      (rw (← is) through.returns)
      (CarryingAllOutcome.all_carried over long (λ x i. through.arrives x (rw is i)))

  pub carried-back : (xs : List ℕ)
      → carrying_all_of script number side positions lent ≡ record { reply = Ok tt; carried = xs }
      → length xs ≡ length lent'
      → carrying_all_of script number (other side) xs lent' ≡ record { reply = Ok tt; carried = positions }
  carried-back xs made long =
      let there = all-demand script number side positions lent refl refl in
      let told = ap (λ (x : CarryingAll). carried_all_answer x.reply x.carried) made in
      value_made _ (answered script number (other side) xs lent' (outcome-back there.stated xs told long))
