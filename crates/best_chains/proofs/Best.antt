-- The best chain from a row is made of those from the rows that may follow it.
--     outdone-most, outdone-first     what is outdone is no more, and if it is as much, it has no lower number
--     alone-costs, alone-letters      a row alone skips nothing, and has its own letters
--     best-first                      of chains that score as much, the best from the lowest row comes first
--     best-alone                      no link to a row that may follow gains anything: the row alone
--     best-linked                     a link gains, and no other gains more: the row, then the best chain from there
-- Assumes nothing.
use Prim.Native.Nat.{ℕ, ◌+◌, ◌-◌, ◌*◌, ◌≤◌, ◌<◌}
use mathlib.Core.Path.{◌≡◌, refl, ap}
use mathlib.Core.Logic.{◌⊎◌, inl, inr, ⊎_elim}
use mathlib.Core.List.{List, [], ◌∷◌}
use native.Mathlib.Omega.{arith}
use native.Mathlib.Nat.{mul-add, mul-zero}
use native.Mathlib.Decide.{ℕ_discrete}
use Rattle.rows.specs.declared.Row.{Row}
use Rattle.backbone.specs.Chains.{row_numbered, Direct, Follows, Chain, single, linked, skipped, letters_in, skipped_in}
use Rattle.backbone.specs.Chains.{Before, extended, lower, further}
use Rattle.backbone.proofs.Chains.{head-direct}
use Rattle.best_chains.specs.Best.{BestFrom, Outdone, Known}

pub outdone-most : {m n j k : ℕ} → Outdone m n j k → m ≤ n
outdone-most (inl l) = omega arith
outdone-most (inr e) = omega arith

pub outdone-first : {m n j k : ℕ} → Outdone m n j k → n ≤ m → j ≤ k
outdone-first (inl l) h = absurd (omega arith)
outdone-first (inr e) h = e.1

module _ (price : ℕ) (rs : List Row) where
  -- what a link from row k to row j costs
  abbrev cost : ℕ → ℕ → ℕ
  cost k j = price * skipped (row_numbered rs k) (row_numbered rs j)

  -- what a chain's skipped letters cost
  abbrev costs : List ℕ → ℕ
  costs ks = price * skipped_in rs ks

  pub alone-costs : (k : ℕ) → costs (k ∷ []) ≡ 0
  unfolding skipped_in
  alone-costs k = mul-zero price

  pub alone-letters : (k : ℕ) → letters_in rs (k ∷ []) ≡ (row_numbered rs k).length
  unfolding letters_in
  alone-letters k = omega arith

  -- a chain with one row more in front
  linked-costs : (k j : ℕ) (ks : List ℕ) → costs (k ∷ j ∷ ks) ≡ cost k j + costs (j ∷ ks)
  unfolding skipped_in
  linked-costs k j ks = mul-add price (skipped (row_numbered rs k) (row_numbered rs j)) (skipped_in rs (j ∷ ks))

  linked-letters : (k : ℕ) (ks : List ℕ) → letters_in rs (k ∷ ks) ≡ (row_numbered rs k).length + letters_in rs ks
  unfolding letters_in
  linked-letters k ks = refl

  pub best-first :
      {j i s : ℕ} {js is : List ℕ} → BestFrom price rs j js s → Chain rs (i ∷ is) → j ≤ i
      → (j ≡ i → letters_in rs (i ∷ is) ≡ s + costs (i ∷ is))
      → (◌≡◌ {A = List ℕ} (i ∷ is) (j ∷ js)) ⊎ Before (j ∷ js) (i ∷ is)
  best-first {j} {i} {s} {js} {is} best c l e =
      elim (ℕ_discrete j i) [
        | yes same ↦
            let scores : letters_in rs (j ∷ is) ≡ s + costs (j ∷ is) = rw (← same) at (e same) in
            let begins : Chain rs (j ∷ is) = rw (← same) at c in
            rw (← same) (⊎_elim (λ q. inl (ap (j ∷◌) q)) (λ b. inr (further b)) (best.first is begins scores))
        | no other ↦ let below : j < i = omega arith in inr (lower below)
      ]

  module _ {k : ℕ} (direct : Direct rs k) where
    pub best-alone :
        ((j : ℕ) → Direct rs j → Follows (row_numbered rs k) (row_numbered rs j) → Known price rs j (λ n. n ≤ cost k j))
        → BestFrom price rs k [] (row_numbered rs k).length
    best-alone known =
        record {
          chain = single direct;
          scores = omega (arith, alone-costs k, alone-letters k);
          most = most;
          first = λ js c e. first js;
        }
      where
        most :
            (js : List ℕ) → Chain rs (k ∷ js) → letters_in rs (k ∷ js) ≤ (row_numbered rs k).length + costs (k ∷ js)
        most js (single d) = omega (arith, alone-costs k, alone-letters k)
        most js (linked {j = j} {ks = is} d f c) =
            let known = known j (head-direct c) f in
            omega (arith, linked-costs k j is, linked-letters k (j ∷ is), known.best.most is c, known.such)

        first : (js : List ℕ) → (js ≡ []) ⊎ Before [] js
        first [] = inl refl
        first (j ∷ js) = inr extended

    module _ {j s : ℕ} {js : List ℕ} (follows : Follows (row_numbered rs k) (row_numbered rs j))
        (best : BestFrom price rs j js s) (gained : cost k j < s) where
      pub best-linked :
          ((i : ℕ) → Direct rs i → Follows (row_numbered rs k) (row_numbered rs i)
          → Known price rs i (λ n. Outdone (n + cost k j) (s + cost k i) j i))
          → BestFrom price rs k (j ∷ js) ((row_numbered rs k).length + (s - cost k j))
      best-linked known =
          record {
            chain = linked direct follows best.chain;
            scores = omega (arith, linked-costs k j js, linked-letters k (j ∷ js), best.scores);
            most = most;
            first = first;
          }
        where
          score : ℕ
          score = (row_numbered rs k).length + (s - cost k j)

          most : (is : List ℕ) → Chain rs (k ∷ is) → letters_in rs (k ∷ is) ≤ score + costs (k ∷ is)
          most is (single d) = omega (arith, alone-letters k)
          most is (linked {j = i} {ks = hs} d f c) =
              let known = known i (head-direct c) f in
              let no_more : known.score + cost k j ≤ s + cost k i = outdone-most known.such in
              omega (arith, linked-costs k i hs, linked-letters k (i ∷ hs), known.best.most hs c)

          first :
              (is : List ℕ) → Chain rs (k ∷ is) → letters_in rs (k ∷ is) ≡ score + costs (k ∷ is)
              → (is ≡ (j ∷ js)) ⊎ Before (j ∷ js) is
          first is (single d) e = absurd (omega (arith, alone-letters k, alone-costs k))
          first is (linked {j = i} {ks = hs} d f c) e =
              let known = known i (head-direct c) f in
              let tied : s + cost k i ≤ known.score + cost k j =
              omega (arith, linked-costs k i hs, linked-letters k (i ∷ hs), known.best.most hs c)
              in
              best-first best c (outdone-first known.such tied)
              (λ same. omega (arith, linked-costs k i hs, linked-letters k (i ∷ hs), ap (cost k) same))
