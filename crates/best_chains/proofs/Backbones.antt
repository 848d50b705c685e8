-- The backbone is the best of the best chains from each row.
--     backbone-from     no direct row has a better chain than row k: the best chain from k
--     backbone-none     with no direct row, the empty chain
-- Assumes nothing.
use Prim.Native.Nat.{ℕ, ◌+◌, ◌-◌, ◌*◌, ◌≤◌}
use mathlib.Core.Path.{◌≡◌, refl}
use mathlib.Core.Logic.{◌⊎◌, inl}
use mathlib.Core.Bool.{false}
use mathlib.Core.List.{List, [], ◌∷◌, cons≢nil}
use native.Mathlib.Omega.{arith}
use native.Mathlib.Nat.{mul-zero}
use borrow.Author.Tests.{le-ltb}
use lib.IntN.{pos}
use lib.Signed.{lt_z}
use Rattle.rows.specs.declared.Row.{Row}
use Rattle.backbone.specs.Chains.{Direct, Chain, empty, single, letters_in, skipped_in, score_of, Before}
use Rattle.backbone.specs.Backbone.{Backbone}
use Rattle.backbone.proofs.Signed.{above, scored}
use Rattle.backbone.proofs.Chains.{head-direct}
use Rattle.best_chains.specs.Best.{Apart, BestFrom, Outdone, Known}
use Rattle.best_chains.proofs.Best.{alone-costs, alone-letters, best-first, outdone-most, outdone-first}

module _ (price : ℕ) (rs : List Row) where
  -- a chain's score, told without signs
  module _ (ks : List ℕ) (s : ℕ) where
    score-from : letters_in rs ks ≡ s + price * skipped_in rs ks → score_of price rs ks ≡ pos s
    unfolding score_of
    score-from = (scored (letters_in rs ks) (price * skipped_in rs ks) s).1

    score-told : score_of price rs ks ≡ pos s → letters_in rs ks ≡ s + price * skipped_in rs ks
    unfolding score_of
    score-told = (scored (letters_in rs ks) (price * skipped_in rs ks) s).0

    no_more : letters_in rs ks ≤ s + price * skipped_in rs ks → lt_z (pos s) (score_of price rs ks) ≡ false
    unfolding score_of
    no_more l = rw (above, le-ltb)

  -- the empty chain has no letters, and skips none
  empty-letters : letters_in rs [] ≡ 0
  unfolding letters_in
  empty-letters = refl

  empty-costs : price * skipped_in rs [] ≡ 0
  unfolding skipped_in
  empty-costs = mul-zero price

  pub backbone-none : ((k : ℕ) → ¬ Direct rs k) → Backbone price rs [] 0
  backbone-none none =
      record {
        chain = empty;
        scores = score-from [] 0 (omega (arith, empty-letters, empty-costs));
        none_more = none_more;
        first = first;
        some = λ k d. absurd (none k d);
        none = λ h. (refl, refl);
      }
    where
      none_more : (js : List ℕ) → Chain rs js → lt_z (pos 0) (score_of price rs js) ≡ false
      none_more [] c = no_more [] 0 (omega (arith, empty-letters))
      none_more (j ∷ js) c = absurd (none j (head-direct c))

      first : (js : List ℕ) → Chain rs js → score_of price rs js ≡ pos 0 → (js ≡ []) ⊎ Before [] js
      first [] c e = inl refl
      first (j ∷ js) c e = absurd (none j (head-direct c))

  pub backbone-from :
      {k s : ℕ} {ks : List ℕ} → BestFrom price rs k ks s
      → ((j : ℕ) → Direct rs j → Known price rs j (λ n. Outdone n s k j)) → Apart rs → Backbone price rs (k ∷ ks) s
  backbone-from {k} {s} {ks} best known apart =
      record {
        chain = best.chain;
        scores = score-from (k ∷ ks) s best.scores;
        none_more = none_more;
        first = first;
        some = λ j d e. cons≢nil e;
        none = λ none. absurd (none k (head-direct best.chain));
      }
    where
      none_more : (js : List ℕ) → Chain rs js → lt_z (pos s) (score_of price rs js) ≡ false
      none_more [] c = no_more [] s (omega (arith, empty-letters))
      none_more (j ∷ js) c =
          let known = known j (head-direct c) in
          no_more (j ∷ js) s (omega (arith, known.best.most js c, outdone-most known.such))

      first : (js : List ℕ) → Chain rs js → score_of price rs js ≡ pos s → (js ≡ (k ∷ ks)) ⊎ Before (k ∷ ks) js
      first [] c e =
          let direct = head-direct best.chain in
          absurd
          (omega (
            arith,
            score-told [] s e,
            empty-letters,
            best.most [] (single direct),
            alone-letters price rs k,
            alone-costs price rs k,
            apart.lettered.lettered (k - 1) (omega arith),
          ))
      first (j ∷ js) c e =
          let known = known j (head-direct c) in
          let e = score-told (j ∷ js) s e in
          best-first price rs best c (outdone-first known.such (omega (arith, known.best.most js c))) (λ _. e)
