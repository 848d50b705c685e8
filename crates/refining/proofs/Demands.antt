-- Refining as `refining_of_matches` and `refining_of` define it meets demands 1, 2 and 3.
--     script-twelve, refusal-value  a script's own refusal is not 12, and a refusal is no value
--     kept                          what a refusal other than 12 leaves
--     matches-demand1, matches-demand2, matches-demand3
--                                   of any reply and buffers that equal what `refining_of_matches` says
--     demand1, demand2, demand3     and what `refining_of` says
--     refining-contract             the three equations and the three demands, for the code
-- Each goes through the cases: 11, 12, a value, and for a script its own refusal. Assumes nothing.
use Prim.Native.Nat.{ℕ, ◌*◌, ◌≤◌}
use mathlib.Core.Path.{◌≡◌, refl, sym, ap, ◌∙◌}
use mathlib.Core.Logic.{◌≢◌, ⊎_elim}
use mathlib.Core.List.{List}
use native.Mathlib.Omega.{arith}
use lib.ListN.{length, drop, length-replicate, length-append, length-drop}
use lib.Seq.{take_at, drop_at}
use Rattle.std.specs.Prelude.{Result}
use Rattle.script.specs.Answers.{Answer, value, refusal}
use Rattle.script.specs.Outcomes.{Outcome}
use Rattle.script.specs.declared.refusal.Refusal.{Refusal}
use Rattle.script.proofs.Outcome.{own-number, outcome-alone, outcome-refused}
use Rattle.rows.specs.Rows.{row_width}
use Rattle.refinement.specs.Match.{Match}
use Rattle.refinement.specs.Refinement.{Matches, ResolvedRefinement}
use Rattle.refinement.proofs.Theorem.{table_resolved, table-in-order, table-least}
use Rattle.refinement.proofs.Paper.{paper-holds}
use Rattle.refining.specs.Rows.{piece_numbers}
use Rattle.refining.specs.Refining.{Given, least_of, capacity_of, work_needed, Refining}
use Rattle.refining.specs.Refining.{refining_of_matches, refining_of}
use Rattle.refining.specs.Demands.{answer_of, Fits, MatchesOutcome, Leaves, Stand, MatchesDemand1, MatchesDemand2}
use Rattle.refining.specs.Demands.{MatchesDemand3, Admitted, reads, RefiningOutcome, Demand1, Demand2, Demand3}
use Rattle.refining.proofs.Standing.{length-numbers}
use Rattle.refining.proofs.Numbered.{admitted-unique, admitted-matches}
use Rattle.refining.proofs.RefiningCases.{written, exceeds-many, fits-exceeds, matches-short, matches-crowded}
use Rattle.refining.proofs.RefiningCases.{matches-written, MatchesCase, short, crowded, writing, matches-case}
use Rattle.refining.proofs.RefiningCases.{refining-refused, refining-admitted, Case, refusing, matched, case}

-- ---- what tells the outcomes apart

pub script-twelve : {script : List ℕ} {number place : ℕ} → Outcome script (refusal number place) → number ≢ 12
script-twelve o e = ⊎_elim (λ h. omega arith) (λ h. omega (arith, h.0)) (own-number o)

refused-admitted :
    {script : List ℕ} {number place : ℕ} {g : Given} → Outcome script (refusal number place)
    → Admitted script g → ⊥
refused-admitted o (reads o') = let z : ◌≡◌ {A = ℕ} 0 1 = cc (outcome-alone o, outcome-alone o') in omega arith

pub refusal-value : {X : Type 0} {x : X} {number place : ℕ} → ◌≡◌ {A = Answer X} (refusal number place) (value x) → ⊥
refusal-value e = let z : ◌≡◌ {A = ℕ} 0 1 = cc in omega arith

-- ---- matches, case by case

written-stand : (rs : List Match) (table : List ℕ) (n : ℕ) → value (length rs) ≡ value n → Stand rs n (written rs table)
written-stand rs table n e =
    let count : n ≡ length rs = cc in
    let rows = piece_numbers rs in
    record {
      count = count;
      numbers = take_at rows (drop (length rows) table) (row_width * n) (omega (arith, length-numbers rs));
    }

-- a refusal that leaves all as it was
pub kept : {table work : List ℕ} {number place : ℕ} → number ≢ 12 → Leaves table work (refusal number place) table work
kept {number = number} other =
    record {
      refused_table = λ _ _ _. refl;
      refused_work = λ _ _ _ _. refl;
      crowded_work = λ _ e. let n : number ≡ 12 = cc in absurd (other n);
      success_work = λ _ e. absurd (refusal-value e);
      past_rows = λ _ e. absurd (refusal-value e);
      table_length = refl;
      work_length = refl;
    }

case-leaves : {g : Given} {table work : List ℕ} {reply : Result ℕ Refusal} {table' work' : List ℕ}
    → MatchesCase g table work reply table' work' → Leaves table work (answer_of reply) table' work'
case-leaves (short h) = kept (λ e. omega arith)
case-leaves {work = work} (crowded enough exceeds) =
    record {
      refused_table = λ _ _ _. refl;
      refused_work = λ number _ e other. let n : number ≡ 12 = cc in absurd (other n);
      crowded_work = λ _ _. refl;
      success_work = λ _ e. absurd (refusal-value e);
      past_rows = λ _ e. absurd (refusal-value e);
      table_length = refl;
      work_length = length-replicate (length work) 0;
    }
case-leaves {g} {table} {work} (writing enough room) =
    let rows = piece_numbers (least_of g) in
    let five = length-numbers (least_of g) in
    record {
      refused_table = λ _ _ e. absurd (refusal-value (sym e));
      refused_work = λ _ _ e _. absurd (refusal-value (sym e));
      crowded_work = λ _ e. absurd (refusal-value (sym e));
      success_work = λ _ _. refl;
      past_rows = λ n e.
          let count : length (least_of g) ≡ n = cc in
          let here : length rows ≡ row_width * n = omega arith in
          drop_at rows (drop (length rows) table) (row_width * n) here ∙ ap (λ (k : ℕ). drop k table) here;
      table_length = simp (length-append, length-drop) (omega arith);
      work_length = length-replicate (length work) 0;
    }

module _ {g : Given} (M : Matches g.matches) where
  resolved : ResolvedRefinement g.matches g.marks (least_of g)
  resolved = table_resolved g.matches g.marks M

  module _ {table work : List ℕ} where
    -- any outcome whose condition is met is what `refining_of_matches` replies
    outcome-matches : {a : Answer ℕ} → MatchesOutcome g table work a
        → a ≡ answer_of (refining_of_matches g table work).reply
    outcome-matches (MatchesOutcome.work_too_short h) = rw (matches-short g table work h)
    outcome-matches (MatchesOutcome.too_many_pieces enough exceeds) =
        rw (matches-crowded g table work enough (exceeds-many M exceeds))
    outcome-matches (MatchesOutcome.least_rows {rs} enough R L room) =
        let most = (table-least g.matches g.marks M).fewest rs R in
        let least = L.fewest (least_of g) resolved in
        let same : length rs ≡ length (least_of g) = omega arith in
        rw (matches-written g table work enough (omega arith), same)

    case-stated : {reply : Result ℕ Refusal} {table' work' : List ℕ} → MatchesCase g table work reply table' work'
        → MatchesOutcome g table work (answer_of reply)
    case-stated (short h) = MatchesOutcome.work_too_short h
    case-stated (crowded enough exceeds) = MatchesOutcome.too_many_pieces enough exceeds
    case-stated (writing enough room) =
        MatchesOutcome.least_rows enough resolved (table-least g.matches g.marks M) room

    -- a refusal, where no resolved refinement fits
    no_value : {number place : ℕ} {table' : List ℕ} → (work_needed table ≤ length work → Fits g (capacity_of table) → ⊥)
        → MatchesDemand2 g table work (refusal number place) table'
    no_value none =
        record {
          gets = λ enough fits. absurd (none enough fits);
          no_less_work = λ _ e. absurd (refusal-value e);
          pieces = λ _ e. absurd (refusal-value e);
        }

    case-demand2 : {reply : Result ℕ Refusal} {table' work' : List ℕ} → MatchesCase g table work reply table' work'
        → MatchesDemand2 g table work (answer_of reply) table'
    case-demand2 (short h) = no_value (λ enough _. omega arith)
    case-demand2 (crowded _ exceeds) = no_value (λ _ fits. fits-exceeds fits exceeds)
    case-demand2 (writing enough _) =
        let paper = paper-holds M resolved in
        record {
          gets = λ _ _. (length (least_of g), refl);
          no_less_work = λ _ _. enough;
          pieces = λ n e. record {
            rows = least_of g;
            stand = written-stand (least_of g) table n e;
            in_order = table-in-order g.matches g.marks M;
            resolved = resolved;
            refines_paper = paper.0;
            resolved_paper = paper.1;
          };
        }

    case-demand3 : {reply : Result ℕ Refusal} {table' work' : List ℕ} → MatchesCase g table work reply table' work'
        → MatchesDemand3 g table work (answer_of reply) table'
    case-demand3 (short h) =
        record {
          some = (least_of g, resolved);
          refuses = λ enough. absurd (omega arith);
          or_value = λ enough _. absurd (omega arith);
          otherwise = λ _ e. absurd (refusal-value e);
        }
    case-demand3 (crowded _ exceeds) =
        record {
          some = (least_of g, resolved);
          refuses = λ _. (λ _. exceeds, λ _. refl);
          or_value = λ _ other. absurd (other refl);
          otherwise = λ _ e. absurd (refusal-value e);
        }
    case-demand3 (writing _ room) =
        record {
          some = (least_of g, resolved);
          refuses = λ _. (
            λ e. absurd (refusal-value (sym e)),
            λ exceeds. absurd (omega (arith, exceeds-many M exceeds)),
          );
          or_value = λ _ _. (length (least_of g), refl);
          otherwise = λ n e. record {
            rows = least_of g;
            stand = written-stand (least_of g) table n e;
            resolved = resolved;
            least = table-least g.matches g.marks M;
          };
        }

-- ---- scripts, case by case

module _ {script table work : List ℕ} where
  outcome-script :
      {a : Answer ℕ} → RefiningOutcome script table work a → a ≡ answer_of (refining_of script table work).reply
  outcome-script (RefiningOutcome.script_refused o) =
      let f = outcome-refused o in rw (refining-refused script table work f.read) (cc)
  outcome-script (RefiningOutcome.of_matches a o) =
      rw (refining-admitted script table work a) (outcome-matches (admitted-matches a) o)

  script-demand1 : {reply : Result ℕ Refusal} {table' work' : List ℕ} → Case script table work reply table' work'
      → ((a : Answer ℕ) → RefiningOutcome script table work a → a ≡ answer_of reply)
      → Demand1 script table work (answer_of reply) table' work'
  script-demand1 (refusing o) alone =
      record { stated = RefiningOutcome.script_refused o; alone = alone; leaves = kept (script-twelve o) }
  script-demand1 (matched a c) alone =
      let stated = RefiningOutcome.of_matches a (case-stated (admitted-matches a) c) in
      record { stated = stated; alone = alone; leaves = case-leaves c }

  script-demand2 : {reply : Result ℕ Refusal} {table' work' : List ℕ} → Case script table work reply table' work'
      → Demand2 script table work (answer_of reply) table'
  script-demand2 (refusing o) =
      record {
        of_matches = λ _ a. absurd (refused-admitted o a);
        no_other_script = λ _ e. absurd (refusal-value e);
      }
  script-demand2 (matched {g} a c) =
      record {
        of_matches = λ _ a'. rw (admitted-unique a' a) (case-demand2 (admitted-matches a) c);
        no_other_script = λ _ _. (g, a);
      }

  script-demand3 : {reply : Result ℕ Refusal} {table' work' : List ℕ} → Case script table work reply table' work'
      → Demand3 script table work (answer_of reply) table'
  script-demand3 (refusing o) = record { of_matches = λ _ a. absurd (refused-admitted o a) }
  script-demand3 (matched a c) =
      record { of_matches = λ _ a'. rw (admitted-unique a' a) (case-demand3 (admitted-matches a) c) }

-- ---- the laws

module _ {g : Given} (M : Matches g.matches) (table work : List ℕ) {reply : Result ℕ Refusal} {table' : List ℕ}
    (replied : reply ≡ (refining_of_matches g table work).reply)
    (tabled : table' ≡ (refining_of_matches g table work).table) where
  pub matches-demand1 : {work' : List ℕ} → work' ≡ (refining_of_matches g table work).work
      → MatchesDemand1 g table work (answer_of reply) table' work'
  matches-demand1 worked =
      let c = matches-case M table work in
      rw (replied, tabled, worked)
      (record { stated = case-stated M c; alone = λ _ o. outcome-matches M o; leaves = case-leaves c })

  pub matches-demand2 : MatchesDemand2 g table work (answer_of reply) table'
  matches-demand2 = rw (replied, tabled) (case-demand2 M (matches-case M table work))

  pub matches-demand3 : MatchesDemand3 g table work (answer_of reply) table'
  matches-demand3 = rw (replied, tabled) (case-demand3 M (matches-case M table work))

module _ (script table work : List ℕ) {reply : Result ℕ Refusal} {table' : List ℕ}
    (replied : reply ≡ (refining_of script table work).reply)
    (tabled : table' ≡ (refining_of script table work).table) where
  pub demand1 : {work' : List ℕ} → work' ≡ (refining_of script table work).work
      → Demand1 script table work (answer_of reply) table' work'
  demand1 worked = rw (replied, tabled, worked) (script-demand1 (case script table work) (λ _ o. outcome-script o))

  pub demand2 : Demand2 script table work (answer_of reply) table'
  demand2 = rw (replied, tabled) (script-demand2 (case script table work))

  pub demand3 : Demand3 script table work (answer_of reply) table'
  demand3 = rw (replied, tabled) (script-demand3 (case script table work))

-- the clauses of the call's contract in their order, where it is known what `refining_of` is
module _ (script table work : List ℕ) {x : Refining} (is : refining_of script table work ≡ x) where
  pub refining-contract :
      (x.reply ≡ (refining_of script table work).reply)
      × ((x.table ≡ (refining_of script table work).table)
      × ((x.work ≡ (refining_of script table work).work)
      × (Demand1 script table work (answer_of x.reply) x.table x.work
      × (Demand2 script table work (answer_of x.reply) x.table
      × Demand3 script table work (answer_of x.reply) x.table))))
  refining-contract =
      let replied = ap (λ (z : Refining). z.reply) (sym is) in
      let tabled = ap (λ (z : Refining). z.table) (sym is) in
      let worked = ap (λ (z : Refining). z.work) (sym is) in
      let second = demand2 script table work replied tabled in
      let third = demand3 script table work replied tabled in
      (replied, (tabled, (worked, (demand1 script table work replied tabled worked, (second, third)))))
