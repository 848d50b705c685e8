-- The chaining call as `chaining_of` defines it meets its demand.
--     least-backbone      the computed chain is the backbone of the least table's rows
--     chaining-contract   any reply and buffers that `chaining_of` says meet its equations and the demand
-- It goes through the cases: the script's refusal, 11, 17, 18, 12, and the backbone. Assumes nothing.
use Prim.Native.Nat.{ℕ, ◌≤◌, ◌<◌}
use mathlib.Core.Path.{◌≡◌, refl, sym, ap, subst, ◌∙◌}
use mathlib.Core.Logic.{◌≢◌}
use mathlib.Core.List.{List}
use native.Mathlib.Omega.{arith}
use lib.ListN.{length, drop, length-append, length-drop, length-replicate}
use lib.Seq.{take_at, drop_at}
use Rattle.script.specs.Answers.{Answer, value, refusal}
use Rattle.script.specs.declared.refusal.Refusal.{Refusal}
use Rattle.script.specs.declared.refusal.Refusal.TheVariants.{WorkTooShort, PriceTooHigh, ChainTooShort}
use Rattle.script.specs.Refusals.{number_of, place_of}
use Rattle.script.proofs.Outcome.{outcome-refused}
use Rattle.refinement.specs.Refinement.{Matches}
use Rattle.refinement.proofs.Theorem.{table_resolved, table-in-order, table-least, too_many}
use Rattle.refining.specs.Refining.{Given, least_of, capacity_of, zeroed, Refining, refining_of}
use Rattle.refining.specs.Demands.{answer_of, Leaves}
use Rattle.refining.proofs.Numbered.{admitted-matches}
use Rattle.refining.proofs.RefiningCases.{written, matches-crowded, matches-written, refining-admitted, exceeds-many}
use Rattle.refining.proofs.Demands.{script-twelve, refusal-value, kept, refining-contract}
use Rattle.backbone.specs.Backbone.{Backbone, backbone_of, points_of}
use Rattle.backbone.specs.Chaining.{Chaining, least_rows, chaining_of}
use Rattle.backbone.specs.Demands.{Scored, scored, chained_answer, Begun, Lent, ChainingOutcome}
use Rattle.backbone.specs.Demands.{ChainLeaves, LeftByRefining, TheBackbone, ChainingDemand}
use Rattle.backbone.proofs.Chains.{chain-short}
use Rattle.backbone.proofs.Backbones.{backbone-unique, backbone-computed}
use Rattle.backbone.proofs.LeastRows.{least-unique, least-length, least-lettered, least-read}
use Rattle.backbone.proofs.Cases.{found_by, call-short, call-dear, call-narrow, call-crowded, call-found}
use Rattle.backbone.proofs.Cases.{chaining-refused, chaining-admitted, Case, refusing, short, dear, narrow}
use Rattle.backbone.proofs.Cases.{crowded, found, case}

-- ---- the backbone of the least rows

module _ (g : Given) (M : Matches g.matches) (price : ℕ) where
  pub least-backbone : Backbone price (least_rows g) (backbone_of price (least_rows g)) (points_of price (least_rows g))
  least-backbone = backbone-computed price (least_rows g) (least-lettered g M)

  backbone-short : length (backbone_of price (least_rows g)) ≤ length (least_of g)
  backbone-short =
      let ks = backbone_of price (least_rows g) in
      omega (arith, chain-short (least_rows g) (least-lettered g M) ks least-backbone.chain, least-length g)

-- ---- any outcome whose condition is met is what `chaining_of` replies

module _ {script : List ℕ} {price : ℕ} {table work chain scores : List ℕ} where
  outcome-alone : {a : Answer Scored} → ChainingOutcome script price table work chain scores a
      → a ≡ chained_answer (chaining_of script price table work chain scores).reply
  outcome-alone (ChainingOutcome.script_refused o) =
      let f = outcome-refused o in rw (chaining-refused script price table work chain scores f.read) (cc)
  outcome-alone (ChainingOutcome.work_too_short {g} a h) =
      rw (
        chaining-admitted script price table work chain scores a,
        call-short g price table work chain scores h,
      )
  outcome-alone (ChainingOutcome.price_too_high {g} b h) =
      rw (
        chaining-admitted script price table work chain scores b.admitted,
        call-dear g price table work chain scores b.enough h,
      )
  outcome-alone (ChainingOutcome.chain_too_short {g} b cheap h) =
      rw (
        chaining-admitted script price table work chain scores b.admitted,
        call-narrow g price table work chain scores b.enough cheap h,
      )
  outcome-alone (ChainingOutcome.too_many_pieces {g} b lent exceeds) =
      rw (
        chaining-admitted script price table work chain scores b.admitted,
        call-crowded g price table work chain scores b.enough lent
            (exceeds-many (admitted-matches b.admitted) exceeds),
      )
  outcome-alone (ChainingOutcome.best_chain {g} {rs} {ks} {score} b lent R L rise room best) =
      let M = admitted-matches b.admitted in
      let same = least-unique g M R L rise in
      let u = backbone-unique (least-backbone g M price) (rw same at best) in
      rw (
        chaining-admitted script price table work chain scores b.admitted,
        call-found g price table work chain scores b.enough lent (rw same at room),
        same,
        u.0,
        u.1,
      )

-- ---- what is left, case by case

-- a refusal other than 12 alters neither the chain nor the score buffer
kept-chain :
    {chain scores : List ℕ} {number place : ℕ} → number ≢ 12
    → ChainLeaves (refusal number place) chain scores chain scores
kept-chain {number = number} other =
    record {
      refused_chain = λ _ _ _. refl;
      refused_scores = λ _ _ _ _. refl;
      crowded_scores = λ _ e. let n : number ≡ 12 = cc in absurd (other n);
      success_scores = λ _ e. absurd (refusal-value e);
      past_chain = λ _ _ _ e. absurd (refusal-value e);
      chain_length = refl;
      scores_length = refl;
    }

-- what refining makes is left, and meets what refining is asked to leave
module _ (script table work : List ℕ) {x : Refining} (is : refining_of script table work ≡ x) where
  refined-left : LeftByRefining script table work x.table x.work
  refined-left =
      record {
        table_left = sym (ap (λ (z : Refining). z.table) is);
        work_left = sym (ap (λ (z : Refining). z.work) is);
      }

  refined-leaves : Leaves table work (answer_of x.reply) x.table x.work
  refined-leaves = (refining-contract script table work is).1.1.1.0.leaves

module _ {script : List ℕ} {price : ℕ} {table work chain scores : List ℕ} where
  -- a call that ends before refining is done
  kept-demand :
      (r : Refusal) → number_of r ≢ 12
      → ChainingOutcome script price table work chain scores (refusal (number_of r) (place_of r))
      → ((a : Answer Scored) → ChainingOutcome script price table work chain scores a
      → a ≡ refusal (number_of r) (place_of r))
      → ChainingDemand script price table work chain scores (refusal (number_of r) (place_of r)) table work chain scores
  kept-demand r other stated alone =
      record {
        stated = stated;
        alone = alone;
        leaves = kept other;
        leaves_chain = kept-chain other;
        crowded = λ _ e. let n : number_of r ≡ 12 = cc in absurd (other n);
        success = λ _ e. absurd (refusal-value e);
        chained = λ _ _ _ e. absurd (refusal-value e);
      }

  module _ {g : Given} (b : Begun script table work g) (lent : Lent price table chain scores) where
    crowded-demand : capacity_of table < length (least_of g)
        → ((a : Answer Scored) → ChainingOutcome script price table work chain scores a → a ≡ refusal 12 0)
        → ChainingDemand script price table work chain scores (refusal 12 0) table (zeroed work) chain (zeroed scores)
    crowded-demand many alone =
        let M = admitted-matches b.admitted in
        let is =
        refining-admitted script table work b.admitted ∙ matches-crowded g table work b.enough many in
        let exceeds = (too_many g.matches g.marks M (capacity_of table)).1 many in
        record {
          stated = ChainingOutcome.too_many_pieces b lent exceeds;
          alone = alone;
          leaves = refined-leaves script table work is;
          leaves_chain = record {
            refused_chain = λ _ _ _. refl;
            refused_scores = λ number _ e other. let n : number ≡ 12 = cc in absurd (other n);
            crowded_scores = λ _ _. refl;
            success_scores = λ _ e. absurd (refusal-value e);
            past_chain = λ _ _ _ e. absurd (refusal-value e);
            chain_length = refl;
            scores_length = length-replicate (length scores) 0;
          };
          crowded = λ _ _. refined-left script table work is;
          success = λ _ e. absurd (refusal-value e);
          chained = λ _ _ _ e. absurd (refusal-value e);
        }

    -- the chain buffer after success, and the backbone in it
    found-chain : length (least_of g) ≤ capacity_of table
        → length (found_by g price table work chain scores).chain ≡ length chain
    found-chain room =
        let few = backbone-short g (admitted-matches b.admitted) price in
        simp (length-append, length-drop) (omega (arith, lent.chain_fits))

    the-backbone :
        (s n l : ℕ) → value (scored (points_of price (least_rows g)) (length (least_of g))
        (length (backbone_of price (least_rows g)))) ≡ value (scored s n l)
        → TheBackbone price n l s (written (least_of g) table) (found_by g price table work chain scores).chain
    the-backbone s n l e =
        let M = admitted-matches b.admitted in
        let ks = backbone_of price (least_rows g) in
        let points : s ≡ points_of price (least_rows g) = cc in
        let rows : n ≡ length (least_of g) = cc in
        let many : length ks ≡ l = cc in
        let named = take_at ks (drop (length ks) chain) l many in
        let best = least-backbone g M price in
        rw (points, rows)
        (record {
          backbone = rw (least-read g table, named) best;
          only = λ js m other. rw named (backbone-unique best (rw (least-read g table) at other));
        })

    found-demand : length (least_of g) ≤ capacity_of table
        → ((a : Answer Scored) → ChainingOutcome script price table work chain scores a
        → a ≡ chained_answer (found_by g price table work chain scores).reply)
        → ChainingDemand script price table work chain scores
        (chained_answer (found_by g price table work chain scores).reply) (written (least_of g) table) (zeroed work)
        (found_by g price table work chain scores).chain (zeroed scores)
    found-demand room alone =
        let M = admitted-matches b.admitted in
        let ks = backbone_of price (least_rows g) in
        let is =
        refining-admitted script table work b.admitted ∙ matches-written g table work b.enough room in
        record {
          stated = ChainingOutcome.best_chain b lent (table_resolved g.matches g.marks M)
              (table-least g.matches g.marks M) (table-in-order g.matches g.marks M) room
              (least-backbone g M price);
          alone = alone;
          leaves = refined-leaves script table work is;
          leaves_chain = record {
            refused_chain = λ _ _ e. absurd (refusal-value (sym e));
            refused_scores = λ _ _ e _. absurd (refusal-value (sym e));
            crowded_scores = λ _ e. absurd (refusal-value (sym e));
            success_scores = λ _ _. refl;
            past_chain = λ _ _ l e.
                let many : length ks ≡ l = cc in
                drop_at ks (drop (length ks) chain) l many ∙ ap (λ (k : ℕ). drop k chain) many;
            chain_length = found-chain room;
            scores_length = length-replicate (length scores) 0;
          };
          crowded = λ _ e. absurd (refusal-value (sym e));
          success = λ _ _. refined-left script table work is;
          chained = the-backbone;
        }

  case-demand :
      {x : Chaining} → Case script price table work chain scores x
      → ((a : Answer Scored) → ChainingOutcome script price table work chain scores a → a ≡ chained_answer x.reply)
      → ChainingDemand script price table work chain scores (chained_answer x.reply) x.table x.work x.chain
      x.scores
  case-demand (refusing {r} o) alone = kept-demand r (script-twelve o) (ChainingOutcome.script_refused o) alone
  case-demand (short a h) alone =
      kept-demand WorkTooShort (λ e. omega arith) (ChainingOutcome.work_too_short a h) alone
  case-demand (dear b h) alone =
      kept-demand PriceTooHigh (λ e. omega arith) (ChainingOutcome.price_too_high b h) alone
  case-demand (narrow b cheap h) alone =
      kept-demand ChainTooShort (λ e. omega arith) (ChainingOutcome.chain_too_short b cheap h) alone
  case-demand (crowded b lent many) alone = crowded-demand b lent many alone
  case-demand (found b lent room) alone = found-demand b lent room alone

-- ---- the laws

module _ (script : List ℕ) (price : ℕ) (table work chain scores : List ℕ) {x : Chaining}
    (is : chaining_of script price table work chain scores ≡ x) where
  chaining-demand : ChainingDemand script price table work chain scores (chained_answer x.reply) x.table x.work
      x.chain x.scores
  chaining-demand =
      subst
      (λ (z : Chaining).
      ChainingDemand script price table work chain scores (chained_answer z.reply) z.table z.work z.chain
      z.scores)
      is (case-demand (case script price table work chain scores) (λ _ o. outcome-alone o))

  -- the clauses of the call's contract in their order
  pub chaining-contract :
      (x.reply ≡ (chaining_of script price table work chain scores).reply)
      × ((x.table ≡ (chaining_of script price table work chain scores).table)
      × ((x.work ≡ (chaining_of script price table work chain scores).work)
      × ((x.chain ≡ (chaining_of script price table work chain scores).chain)
      × ((x.scores ≡ (chaining_of script price table work chain scores).scores)
      × ChainingDemand script price table work chain scores (chained_answer x.reply) x.table x.work x.chain
      x.scores))))
  chaining-contract =
      let replied = sym (ap (λ (z : Chaining). z.reply) is) in
      let tabled = sym (ap (λ (z : Chaining). z.table) is) in
      let worked = sym (ap (λ (z : Chaining). z.work) is) in
      let chained = sym (ap (λ (z : Chaining). z.chain) is) in
      let cleared = sym (ap (λ (z : Chaining). z.scores) is) in
      (replied, (tabled, (worked, (chained, (cleared, chaining-demand)))))
