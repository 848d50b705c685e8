-- Wrong programs of 02, #104, each with a demand that is false of what it would answer or leave.
--     later-of-equals-refused     a list behind another chain of the same score
--     link-of-zero-refused        a chain with links at its end that gain nothing
--     reversed-row-refused        a chain with a reversed row
--     free-on-b-refused           two pieces that pay for the letters skipped on A, and not for those on B
--     empty-chain-refused         an empty chain where there is a direct piece
--     seventeen-first-refused     another refusal than 11 with too little work: 17 tested before 11
--     twelve-first-refused        another refusal than 17 at a price above 1,000: 18 or 12 tested before 17
--     eighteen-last-refused       another refusal than 18 with too short a buffer: 12 tested before 18
--     eighteen-by-rows-refused    success with too short a buffer: 18 by the rows, and not by the capacity
--     dirty-scores-refused        a score buffer that isn't zero after success and after 12
--     scratch-refused             a chain buffer altered behind the chain, and under 12
-- Assumes nothing.
use Prim.Native.Nat.{ℕ, ◌+◌, ◌-◌, ◌*◌, ◌≤◌, ◌<◌}
use mathlib.Core.Path.{◌≡◌, refl}
use mathlib.Core.Logic.{◌⊎◌, inl, inr, ⊎_elim, ◌≢◌}
use mathlib.Core.List.Memᴰ
use mathlib.Core.List.{List, [], ◌∷◌, ◌++◌}
use native.Mathlib.Omega.{arith}
use native.Mathlib.Nat.{mul-add, mul-pos}
use lib.ListN.{length, drop}
use lib.IntN.{pos}
use Rattle.script.specs.Answers.{Answer, value, refusal}
use Rattle.rows.specs.declared.Row.{Row}
use Rattle.refinement.specs.declared.Side.TheVariants.{A, B}
use Rattle.refinement.specs.Order.{◌∈◌}
use Rattle.table.specs.Covering.{left_of, right_of}
use Rattle.refining.specs.Refining.{Given, capacity_of, work_needed, zeroed}
use Rattle.refining.specs.Demands.{Admitted}
use Rattle.refining.proofs.Demands.{refusal-value}
use Rattle.backbone.specs.Chains.{row_numbered, Direct, Chain, letters_in, skipped_in, score_of}
use Rattle.backbone.specs.Chains.{Before, extended, further}
use Rattle.backbone.specs.Backbone.{Backbone}
use Rattle.backbone.specs.Demands.{Scored, scored, Begun, ChainingOutcome, ChainingDemand}
use Rattle.backbone.proofs.Signed.{scored as scored-sum}
use Rattle.backbone.proofs.Earlier.{before-once}
use Rattle.backbone.proofs.Chains.{head-direct, tail-chain}

-- ---- wrong chains

-- a list comes before its extensions
before-extension : (ks : List ℕ) (j : ℕ) (js : List ℕ) → Before ks (ks ++ j ∷ js)
before-extension [] j js = extended
before-extension (k ∷ ks) j js = further (before-extension ks j js)

-- each row of a chain is direct
member-direct : {rs : List Row} {k : ℕ} (ks : List ℕ) → Chain rs ks → k ∈ ks → Direct rs k
member-direct [] c i = absurd (Memᴰ.not-nil i)
member-direct (j ∷ ks) c i =
    ⊎_elim (λ e. rw e (head-direct c)) (λ h. member-direct ks (tail-chain c) h) (Memᴰ.cases_cons i)

module _ {price : ℕ} {rs : List Row} {s : ℕ} where
  later-of-equals-refused : {js ks : List ℕ} → Chain rs js → score_of price rs js ≡ pos s → Before js ks
      → ¬ Backbone price rs ks s
  later-of-equals-refused {js} {ks} c e h b = go (b.first js c e)
    where
      go : (js ≡ ks) ⊎ Before ks js → ⊥
      go (inl q) = let g : Before ks ks = rw q at h in before-once g g
      go (inr g) = before-once h g

  link-of-zero-refused : {ks : List ℕ} (j : ℕ) (js : List ℕ) → Chain rs ks → score_of price rs ks ≡ pos s
      → ¬ Backbone price rs (ks ++ j ∷ js) s
  link-of-zero-refused {ks} j js c e = later-of-equals-refused c e (before-extension ks j js)

  reversed-row-refused : {k : ℕ} {ks : List ℕ} → k ∈ ks → (row_numbered rs k).direction ≢ 0 → ¬ Backbone price rs ks s
  reversed-row-refused {ks = ks} i reversed b = reversed (member-direct ks b.chain i).direct

  free-on-b-refused : {k j : ℕ} → let r = row_numbered rs k in let r' = row_numbered rs j in
      1 ≤ price → right_of B r < left_of B r' → s + price * (left_of A r' - right_of A r) ≡ r.length + r'.length
      → ¬ Backbone price rs (k ∷ j ∷ []) s
  unfolding score_of letters_in skipped_in
  free-on-b-refused {k} {j} priced apart e b =
      let r = row_numbered rs k in
      let r' = row_numbered rs j in
      let on_a = left_of A r' - right_of A r in
      let on_b = left_of B r' - right_of B r in
      let sum = (scored-sum (r.length + (r'.length + 0)) (price * (on_a + on_b + 0)) s).0 b.scores in
      let skips : 0 < on_b = omega arith in
      omega (arith, sum, e, mul-add price (on_a + on_b) 0, mul-add price on_a on_b, mul-pos priced skips)

  empty-chain-refused : {k : ℕ} → Direct rs k → ¬ Backbone price rs [] s
  empty-chain-refused {k} d b = b.some k d refl

-- ---- wrong answers

-- refusals of different numbers are different answers
other-refusal : {m n place place' : ℕ} → m ≢ n → ◌≡◌ {A = Answer Scored} (refusal n place) (refusal m place') → ⊥
other-refusal {m} {n} other e = let same : m ≡ n = cc in other same

module _ (script : List ℕ) (price : ℕ) (table work chain scores : List ℕ) where
  -- what is due when a buffer is shorter than the capacity
  eighteen-due : {g : Given} → Begun script table work g → price ≤ 1000
      → (length chain < capacity_of table) ⊎ (length scores < capacity_of table)
      → ChainingOutcome script price table work chain scores (refusal 18 0)
  eighteen-due b cheap short = ChainingOutcome.chain_too_short b cheap (⊎_elim inl (λ h. inr (inl h)) short)

  module _ (table' work' chain' scores' : List ℕ) where
    -- the demand on this call
    abbrev Demand : Answer Scored → Type 0
    Demand a = ChainingDemand script price table work chain scores a table' work' chain' scores'

    seventeen-first-refused : {g : Given} {number place : ℕ} → Admitted script g → length work < work_needed table
        → number ≢ 11 → ¬ Demand (refusal number place)
    seventeen-first-refused a short other d =
        other-refusal other (d.alone (refusal 11 0) (ChainingOutcome.work_too_short a short))

    module _ {g : Given} (b : Begun script table work g) where
      twelve-first-refused : {number place : ℕ} → 1000 < price → number ≢ 17 → ¬ Demand (refusal number place)
      twelve-first-refused dear other d =
          other-refusal other (d.alone (refusal 17 0) (ChainingOutcome.price_too_high b dear))

      module _ (cheap : price ≤ 1000) (short : (length chain < capacity_of table) ⊎ (length scores < capacity_of table))
        where
          eighteen-last-refused : {number place : ℕ} → number ≢ 18 → ¬ Demand (refusal number place)
          eighteen-last-refused other d = other-refusal other (d.alone (refusal 18 0) (eighteen-due b cheap short))

          eighteen-by-rows-refused : (x : Scored) → ¬ Demand (value x)
          eighteen-by-rows-refused x d = refusal-value (d.alone (refusal 18 0) (eighteen-due b cheap short))

    -- ---- wrong buffers

    dirty-scores-refused : (x : Scored) (place : ℕ) → scores' ≢ zeroed scores
        → (¬ Demand (value x)) × (¬ Demand (refusal 12 place))
    dirty-scores-refused x place dirty = (
      λ d. dirty (d.leaves_chain.success_scores x refl),
      λ d. dirty (d.leaves_chain.crowded_scores place refl),
    )

    scratch-refused : (s n l place : ℕ) → drop l chain' ≢ drop l chain
        → (¬ Demand (value (scored s n l))) × (¬ Demand (refusal 12 place))
    scratch-refused s n l place altered = (
      λ d. altered (d.leaves_chain.past_chain s n l refl),
      λ d. altered (rw (d.leaves_chain.refused_chain 12 place refl)),
    )
