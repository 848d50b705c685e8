-- The computed chain is the Backbone, and the only one.
--     backbone-unique     of any rows there is at most one Backbone
--     backbone-computed   of lettered rows `backbone_of` is one, and `points_of` its score
-- A row without letters would follow itself without end, and score no more than the empty chain. Assumes nothing.
use Prim.Native.Nat.{ℕ, ◌+◌, ◌*◌}
use mathlib.Core.Path.{◌≡◌, refl, sym, ◌∙◌, ap}
use mathlib.Core.Logic.{◌⊎◌, inl, inr, ⊎_elim, ◌≢◌}
use mathlib.Core.Bool.{true, false, false≢true}
use mathlib.Core.List.Memᴰ
use mathlib.Core.List.{List, [], ◌∷◌}
use mathlib.Core.List.Memᴰ.{head as here}
use mathlib.Core.List.Memᴰ.{tail as there}
use native.Mathlib.Omega.{arith}
use lib.IntN.{ℤ, pos, negsuc}
use lib.Signed.{lt_z}
use borrow.Author.Tests.{ltb-false, lt-ltb}
use Rattle.rows.specs.declared.Row.{Row}
use Rattle.refinement.specs.Order.{◌∈◌}
use Rattle.backbone.specs.Chains.{row_numbered, Direct, Chain, empty, single, letters_in, skipped_in, score_of}
use Rattle.backbone.specs.Chains.{Before, Lettered}
use Rattle.backbone.specs.Backbone.{Backbone, chains_of, backbone_of, amount, points_of}
use Rattle.backbone.proofs.Signed.{above, scored}
use Rattle.backbone.proofs.Earlier.{before-once}
use Rattle.backbone.proofs.Chains.{row-lettered}
use Rattle.backbone.proofs.Every.{every-chain, each-chain}
use Rattle.backbone.proofs.Better.{NoWorse, best-member, best-no-worse}

pub backbone-unique :
    {price : ℕ} {rs : List Row} {ks js : List ℕ} {s n : ℕ} → Backbone price rs ks s → Backbone price rs js n
    → (js ≡ ks) × (n ≡ s)
backbone-unique {price} {rs} {ks} {js} {s} {n} g h = (same (g.first js h.chain e) (h.first ks g.chain f), q)
  where
    q : n ≡ s
    q =
        omega (
          arith,
          ltb-false s n (rw h.scores at (g.none_more js h.chain)),
          ltb-false n s (rw g.scores at (h.none_more ks g.chain)),
        )

    e : score_of price rs js ≡ pos s
    e = h.scores ∙ ap pos q

    f : score_of price rs ks ≡ pos n
    f = g.scores ∙ ap pos (sym q)

    same : (js ≡ ks) ⊎ Before ks js → (ks ≡ js) ⊎ Before js ks → js ≡ ks
    same (inl p) b = p
    same (inr a) (inl p) = sym p
    same (inr a) (inr b) = absurd (before-once a b)

-- ---- scores

-- the empty chain's
nothing : (price : ℕ) (rs : List Row) → score_of price rs [] ≡ pos 0
unfolding score_of letters_in skipped_in
nothing price rs = (scored 0 (price * 0) 0).1 (omega arith)

-- that of a direct row by itself
alone : (price : ℕ) (rs : List Row) (k : ℕ) → Lettered rs → Direct rs k → lt_z (pos 0) (score_of price rs (k ∷ [])) ≡ true
unfolding score_of letters_in skipped_in
alone price rs k l d =
    let a = (row_numbered rs k).length + 0 in
    above 0 a (price * 0) ∙ lt-ltb (0 + price * 0) a (omega (arith, row-lettered rs l d))

-- a number that isn't below zero is its amount
not_negative : (z : ℤ) → lt_z z (pos 0) ≡ false → z ≡ pos (amount z)
not_negative (pos n) h = refl
not_negative (negsuc n) h = absurd (false≢true (sym h))

-- ---- the computed chain

module _ (price : ℕ) (rs : List Row) (l : Lettered rs) where
  abbrev best : List ℕ
  best = backbone_of price rs

  -- every chain is the empty one or one of `chains_of`
  every : (js : List ℕ) → Chain rs js → js ∈ ([] ∷ chains_of rs)
  every [] c = here refl
  every (k ∷ ks) c = there (every-chain rs l k ks c)

  -- .. and none is better than the computed one
  no_worse : (js : List ℕ) → Chain rs js → NoWorse price rs best js
  unfolding backbone_of
  no_worse js c = best-no-worse price rs [] (chains_of rs) js (every js c)

  -- this is the empty one, or there is a direct row
  either : (best ≡ []) ⊎ ((k : ℕ) × (Direct rs k) × (Chain rs best))
  unfolding backbone_of
  either =
      ⊎_elim inl (λ m. inr (each-chain rs (backbone_of price rs) m))
      (Memᴰ.cases_cons (best-member price rs [] (chains_of rs)))

  chains : Chain rs best
  chains = ⊎_elim (λ e. rw e empty) (λ b. b.2) either

  counts : score_of price rs best ≡ pos (points_of price rs)
  unfolding points_of
  counts = not_negative (score_of price rs best) (rw (nothing price rs) at (no_worse [] empty).none_more)

  not-empty : (k : ℕ) → Direct rs k → best ≢ []
  not-empty k d e =
      let h : lt_z (pos 0) (score_of price rs (k ∷ [])) ≡ false =
      rw (e, nothing price rs) at (no_worse (k ∷ []) (single d)).none_more
      in
      false≢true (sym h ∙ alone price rs k l d)

  no-points : best ≡ [] → points_of price rs ≡ 0
  unfolding points_of
  no-points e = rw (e, nothing price rs)

  pub backbone-computed : Backbone price rs (backbone_of price rs) (points_of price rs)
  backbone-computed =
      record {
        chain = chains;
        scores = counts;
        none_more = λ js c. rw (← counts) (no_worse js c).none_more;
        first = λ js c e. (no_worse js c).first (e ∙ sym counts);
        some = not-empty;
        none = λ none. let e = ⊎_elim (λ e. e) (λ b. absurd (none b.0 b.1)) either in (e, no-points e);
      }
