-- Carrying a list together as `carrying_all_of` defines it meets its demand: of the outcomes in `CarryingAllOutcome`
-- exactly one applies, and it is the reply; each outcome is as the single calls say.
--     all-refused, all_found        what `carrying_all_of` is, by what is found
--     over-differ, over-off, over-all      what it is over a match, by the lengths and by what the match spans
--     singly-off, singly-to         what the single call says over a match
--     all-demand                    the demand, of any reply and buffer that equal what `carrying_all_of` says
-- The single call's own demand tells what is found: each case here begins with one of its cases. Assumes nothing.
use Prim.Native.Nat.{ℕ}
use mathlib.Core.Path.{◌≡◌, refl, sym, ap, ap₂, ◌∙◌}
use mathlib.Core.Bool.{Bool, true, false, true≢false}
use mathlib.Core.Logic.{◌↔◌, ◌≢◌, ⊎_elim}
use mathlib.Core.List.{List, [], ◌∷◌, map}
use mathlib.Core.List.Memᴰ.{head as here}
use mathlib.Core.List.Memᴰ.{tail as there}
use native.Mathlib.Omega.{arith}
use native.Mathlib.Decide.{ℕ_discrete}
use borrow.Author.Tests.{eq-eqb, ne_eqb}
use lib.ListN.{length, length-map}
use Rattle.std.specs.Prelude.{Result, Ok, Err}
use Rattle.script.specs.Refusals.{number_of, place_of}
use Rattle.script.specs.Reading.{read_script}
use Rattle.script.specs.Answers.{Answer, value, refusal}
use Rattle.script.specs.Finding.{finding_of}
use Rattle.script.specs.declared.command.Match.{Match as ScriptMatch}
use Rattle.script.specs.declared.refusal.Refusal.{Refusal}
use Rattle.script.specs.declared.refusal.Refusal.TheVariants.{OffTheMatch, CountsDiffer}
use Rattle.script.proofs.Outcome.{own-number, outcome-refused}
use Rattle.refinement.specs.declared.Side.{Side}
use Rattle.refinement.specs.Order.{◌∈◌}
use Rattle.refinement.specs.Match.{Match, left, Spans, spanned, carry}
use Rattle.refinement.specs.Least.{spans?}
use Rattle.refinement.proofs.Geometry.{spanned-iff}
use Rattle.refining.specs.Refining.{Given, with_number}
use Rattle.refining.specs.Demands.{Admitted}
use Rattle.refining.specs.Carrying.{CarryingOutcome}
use Rattle.refining.proofs.Demands.{refusal-value}
use Rattle.refining.proofs.CarryingOutcome.{untrue, listed_found, unlisted-none, carrying-demand}
use Rattle.positions.specs.CarryingAll.{every, CarryingAll, kept_by, carried_by, carrying_all_over, carrying_all_of}
use Rattle.positions.specs.Demands.{carried_all_answer, singly, OverMatch, CarryingAllOutcome, SomeOff, AsSingly}
use Rattle.positions.specs.Demands.{BufferLeft, CarryingAllDemand}
use Rattle.positions.proofs.Every.{each-every, every-each, every-not, not-every}

-- the answer of a call
abbrev answer_of : CarryingAll → Answer (List ℕ)
answer_of x = carried_all_answer x.reply x.carried

-- ---- over one match

module _ (m : Match) (side : Side) where
  abbrev on : ℕ → Bool
  on position = spanned (left m side) m.length position

  off-test : {position : ℕ} → ¬ Spans m side position → on position ≡ false
  off-test {position} n = untrue (on position) (λ e. n ((spanned-iff m side position).0 e))

  module _ (positions lent : List ℕ) where
    pub over-differ : length positions ≢ length lent → carrying_all_over m side positions lent ≡ kept_by CountsDiffer lent
    over-differ n = rw (ne_eqb (length positions) (length lent) n)

    module _ (same : length positions ≡ length lent) where
      pub over-off : every on positions ≡ false → carrying_all_over m side positions lent ≡ kept_by OffTheMatch lent
      over-off e = rw (eq-eqb (length positions) (length lent) same, e)

      pub over-all : every on positions ≡ true → carrying_all_over m side positions lent ≡ carried_by m side positions
      over-all e = rw (eq-eqb (length positions) (length lent) same, e)

-- ---- the single call, by the same conditions

module _ {script : List ℕ} {number : ℕ} (side : Side) where
  -- any outcome of the single call is what it answers
  singly-is : {position : ℕ} {a : Answer ℕ} → CarryingOutcome script number side position a
      → singly script number side position ≡ a
  singly-is {position} {a} o = sym ((carrying-demand script number side position refl).alone a o)

  module _ {m : Match} (over : OverMatch script number m) (position : ℕ) where
    pub singly-off : ¬ Spans m side position → singly script number side position ≡ refusal 14 0
    singly-off n =
        singly-is (CarryingOutcome.off_the_match over.admitted over.listed over.numbered n)

    pub singly-to : Spans m side position → singly script number side position ≡ value (carry m side position)
    singly-to t = singly-is (CarryingOutcome.carried over.admitted over.listed over.numbered t)

    -- over a match it says nothing else than 14
    singly-only : {n place : ℕ} → n ≢ 14 → singly script number side position ≡ refusal n place → ⊥
    singly-only {n} {place} other e = go (spans? m side position)
      where
        go : Dec (Spans m side position) → ⊥
        go (yes t) = let z : ◌≡◌ {A = ℕ} 0 1 = cc (singly-to t) in omega arith
        go (no f) = let same : n ≡ 14 = cc (singly-off f) in other same

-- ---- the cases

module _ (script : List ℕ) (number : ℕ) (side : Side) (positions lent : List ℕ) where
  pub all-refused : {r : Refusal} → finding_of (read_script script) number ≡ Err r
      → carrying_all_of script number side positions lent ≡ kept_by r lent
  unfolding carrying_all_of
  all-refused e = rw e

  pub all_found : {x : ScriptMatch} → finding_of (read_script script) number ≡ Ok x
      → carrying_all_of script number side positions lent ≡ carrying_all_over (with_number number x) side positions lent
  unfolding carrying_all_of
  all_found e = rw e

  all_listed : {m : Match} → OverMatch script number m
      → carrying_all_of script number side positions lent ≡ carrying_all_over m side positions lent
  all_listed over =
      let found = listed_found number over.admitted over.listed over.numbered in
      all_found found.1 ∙ ap (λ (z : Match). carrying_all_over z side positions lent) found.2

  -- what `carrying_all_of` is where a is the answer: a refusal that keeps the buffer, or as many numbers as it has
  data Told (a : Answer (List ℕ)) : Type 0 where
    kept : (r : Refusal) → carrying_all_of script number side positions lent ≡ kept_by r lent
        → a ≡ refusal (number_of r) (place_of r) → Told a
    all : (m : Match) → carrying_all_of script number side positions lent ≡ carried_by m side positions
        → length positions ≡ length lent → a ≡ value (map (carry m side) positions) → Told a

  outcome-told : {a : Answer (List ℕ)} → CarryingAllOutcome script number side positions lent a → Told a
  outcome-told (CarryingAllOutcome.script_refused o) =
      let f = outcome-refused o in
      kept f.refusal (all-refused (ap (λ x. finding_of x number) f.read))
      (ap₂ refusal (sym f.number_is) (sym f.place_is))
  outcome-told (CarryingAllOutcome.no_such_match a h) = kept _ (all-refused (unlisted-none number a h)) refl
  outcome-told (CarryingAllOutcome.counts_differ {m} over n) =
      kept _ (all_listed over ∙ over-differ m side positions lent n) refl
  outcome-told (CarryingAllOutcome.off_the_match {m} over same i n) =
      let e = not-every (on m side) positions i (off-test m side n) in
      kept _ (all_listed over ∙ over-off m side positions lent same e) refl
  outcome-told (CarryingAllOutcome.all_carried {m} over same t) =
      let e = each-every (on m side) positions (λ x i. (spanned-iff m side x).1 (t x i)) in
      all m (all_listed over ∙ over-all m side positions lent same e) same refl

  told-answer : {a : Answer (List ℕ)} → Told a → a ≡ answer_of (carrying_all_of script number side positions lent)
  told-answer (kept r is e) = rw is e
  told-answer (all m is same e) = rw is e

  told-left : {a : Answer (List ℕ)} → Told a
      → BufferLeft a lent (carrying_all_of script number side positions lent).carried
  told-left (kept r is e) = rw is (record {
    refused = λ n place e'. refl;
    success = λ xs e'. absurd (refusal-value (sym e ∙ e'));
    same_length = refl;
  })
  told-left (all m is same e) = rw is (record {
    refused = λ n place e'. absurd (refusal-value (sym e' ∙ e));
    success = λ xs e'. let z = sym e ∙ e' in cc;
    same_length = length-map positions (carry m side) ∙ same;
  })

  abbrev Stated : Type 0
  Stated = (a : Answer (List ℕ)) × CarryingAllOutcome script number side positions lent a

  over-stated : {m : Match} → OverMatch script number m → Stated
  over-stated {m} over = by_length (ℕ_discrete (length positions) (length lent))
    where
      by-spans : length positions ≡ length lent → (b : Bool) → every (on m side) positions ≡ b → Stated
      by-spans same true e = (
        _,
        CarryingAllOutcome.all_carried over same
            (λ x i. (spanned-iff m side x).0 (every-each (on m side) positions e x i)),
      )
      by-spans same false e =
          let fails = every-not (on m side) positions e in (
            _,
            CarryingAllOutcome.off_the_match over same fails.listed
                (λ t. true≢false (sym ((spanned-iff m side fails.number).1 t) ∙ fails.fails)),
          )

      by_length : Dec (length positions ≡ length lent) → Stated
      by_length (yes same) = by-spans same (every (on m side) positions) refl
      by_length (no n) = (_, CarryingAllOutcome.counts_differ over n)

  -- some outcome's condition is met: the single call's, of position 0, tells what is found
  stated : Stated
  stated = go (carrying-demand script number side 0 refl).stated
    where
      over-of : {g : Given} {m : Match} → Admitted script g → m ∈ g.matches → m.number ≡ number
          → OverMatch script number m
      over-of {g} a i e = record { given = g; admitted = a; listed = i; numbered = e }

      go : {a : Answer ℕ} → CarryingOutcome script number side 0 a → Stated
      go (CarryingOutcome.script_refused o) = (_, CarryingAllOutcome.script_refused o)
      go (CarryingOutcome.no_such_match a h) = (_, CarryingAllOutcome.no_such_match a h)
      go (CarryingOutcome.off_the_match a i e n) = over-stated (over-of a i e)
      go (CarryingOutcome.carried a i e t) = over-stated (over-of a i e)

  -- ---- as singly

  -- a refusal that the single call has, whatever the position
  refused-singly : {n place : ℕ} → ((position : ℕ) → singly script number side position ≡ refusal n place) → n ≢ 14
      → AsSingly script number side positions lent (refusal n place)
  refused-singly {n} {place} is other = record {
    each = λ xs e. absurd (refusal-value e);
    off = (
      λ e. let same : n ≡ 14 = cc in absurd (other same),
      λ some. let same = sym (is some.1.position) ∙ some.1.off in cc,
    );
    before = λ k at position f t. (λ e. is position ∙ cc, λ e. let same = sym (is position) ∙ e in cc);
  }

  module _ {m : Match} (over : OverMatch script number m) where
    -- over a match no other refusal than 14 is the single call's
    over-before : {a : Answer (List ℕ)} → ((n place : ℕ) → n ≢ 14 → n ≢ 22 → a ≡ refusal n place → ⊥)
        → (n place position : ℕ) → n ≢ 14 → n ≢ 22
        → (a ≡ refusal n place) ↔ (singly script number side position ≡ refusal n place)
    over-before never n place position f t =
        (λ e. absurd (never n place f t e), λ e. absurd (singly-only side over position f e))

    module _ (t : (position : ℕ) → position ∈ positions → Spans m side position) where
      all-singly : (xs : List ℕ) → ((x : ℕ) → x ∈ xs → x ∈ positions)
          → map (singly script number side) xs ≡ map value (map (carry m side) xs)
      all-singly [] h = refl
      all-singly (x ∷ xs) h =
          ap₂ ◌∷◌ (singly-to side over x (t x (h x (here refl)))) (all-singly xs (λ y i. h y (there i)))

      none-off : SomeOff script number side positions → ⊥
      none-off some =
          let h = some.position in refusal-value (sym some.off ∙ singly-to side over h (t h some.listed))

  outcome-singly : {a : Answer (List ℕ)} → CarryingAllOutcome script number side positions lent a
      → AsSingly script number side positions lent a
  outcome-singly (CarryingAllOutcome.script_refused o) =
      refused-singly (λ position. singly-is side (CarryingOutcome.script_refused o))
      (λ e. ⊎_elim (λ h. omega arith) (λ h. omega (arith, h.0)) (own-number o))
  outcome-singly (CarryingAllOutcome.no_such_match a h) =
      refused-singly (λ position. singly-is side (CarryingOutcome.no_such_match a h)) (λ e. omega arith)
  outcome-singly (CarryingAllOutcome.counts_differ over n) = record {
    each = λ xs e. absurd (refusal-value e);
    off = (λ e. let z : ◌≡◌ {A = ℕ} 14 22 = cc in absurd (omega arith), λ some. absurd (n some.0));
    before = over-before over (λ k place f t e. let same : k ≡ 22 = cc in t same);
  }
  outcome-singly (CarryingAllOutcome.off_the_match {position = h} over same i n) = record {
    each = λ xs e. absurd (refusal-value e);
    off = (λ e. (same, record { position = h; listed = i; off = singly-off side over h n }), λ some. refl);
    before = over-before over (λ k place f t e. let same : k ≡ 14 = cc in f same);
  }
  outcome-singly (CarryingAllOutcome.all_carried {m} over same t) = record {
    each = λ xs e.
        let is : map (carry m side) positions ≡ xs = cc in all-singly over t positions (λ x i. i) ∙ ap (map value) is;
    off = (λ e. absurd (refusal-value (sym e)), λ some. absurd (none-off over t some.1));
    before = over-before over (λ k place f t' e. refusal-value (sym e));
  }

  -- ---- the law

  outcome-demand : {a : Answer (List ℕ)} → CarryingAllOutcome script number side positions lent a
      → CarryingAllDemand script number side positions lent a (carrying_all_of script number side positions lent).carried
  outcome-demand o = record {
    stated = o;
    alone = λ a' o'. told-answer (outcome-told o') ∙ sym (told-answer (outcome-told o));
    as_singly = outcome-singly o;
    leaves = told-left (outcome-told o);
  }

  pub all-demand : {reply : Result (Unit {0}) Refusal} {lent' : List ℕ}
      → reply ≡ (carrying_all_of script number side positions lent).reply
      → lent' ≡ (carrying_all_of script number side positions lent).carried
      → CarryingAllDemand script number side positions lent (carried_all_answer reply lent') lent'
  all-demand e b = rw (e, b, ← told-answer (outcome-told stated.1)) (outcome-demand stated.1)
