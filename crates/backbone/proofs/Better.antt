-- Of two chains the better, and of all chains one that no other betters.
--     NoWorse price rs ks js     js doesn't score more than ks, and of equals ks is js or comes before it
--     best-member                `best_of` gives one of the lists that it is given ..
--     best-no-worse              .. which is no worse than any of them
-- Assumes nothing.
use Prim.Native.Nat.{ℕ}
use mathlib.Core.Path.{◌≡◌, refl, sym, ◌∙◌, ap}
use mathlib.Core.Logic.{◌⊎◌, inl, inr, ⊎_elim}
use mathlib.Core.Bool.{Bool, true, false, cond, ◌||◌, false≢true}
use mathlib.Core.List.Memᴰ
use mathlib.Core.List.{List, [], ◌∷◌}
use mathlib.Core.List.Memᴰ.{head as here}
use mathlib.Core.List.Memᴰ.{tail as there}
use native.Mathlib.Omega.{arith}
use lib.IntN.{ℤ, pos, negsuc}
use lib.Signed.{lt_z}
use borrow.Author.Tests.{ltb-true, ltb-false, le-ltb}
use Rattle.rows.specs.declared.Row.{Row}
use Rattle.refinement.specs.Order.{◌∈◌}
use Rattle.backbone.specs.Chains.{score_of, Before}
use Rattle.backbone.specs.Backbone.{before, betters, best_of}
use Rattle.backbone.proofs.Earlier.{tested-before, before-onward, before-other}

-- ---- signed numbers

-- not to be below goes on from number to number
not-below-onward : (x y z : ℤ) → lt_z x y ≡ false → lt_z y z ≡ false → lt_z x z ≡ false
not-below-onward (pos x) (pos y) (pos z) g h = le-ltb x z (omega (arith, ltb-false x y g, ltb-false y z h))
not-below-onward (pos x) (pos y) (negsuc z) g h = refl
not-below-onward (pos x) (negsuc y) (pos z) g h = absurd (false≢true (sym h))
not-below-onward (pos x) (negsuc y) (negsuc z) g h = refl
not-below-onward (negsuc x) (pos y) z g h = absurd (false≢true (sym g))
not-below-onward (negsuc x) (negsuc y) (pos z) g h = absurd (false≢true (sym h))
not-below-onward (negsuc x) (negsuc y) (negsuc z) g h =
    le-ltb z x (omega (arith, ltb-false y x g, ltb-false z y h))

-- two numbers of which neither is below the other
not-below-same : (x y : ℤ) → lt_z x y ≡ false → lt_z y x ≡ false → x ≡ y
not-below-same (pos x) (pos y) g h = ap pos (omega (arith, ltb-false x y g, ltb-false y x h))
not-below-same (pos x) (negsuc y) g h = absurd (false≢true (sym h))
not-below-same (negsuc x) (pos y) g h = absurd (false≢true (sym g))
not-below-same (negsuc x) (negsuc y) g h = ap negsuc (omega (arith, ltb-false y x g, ltb-false x y h))

-- of two numbers at most one is below the other
below-once : (x y : ℤ) → lt_z x y ≡ true → lt_z y x ≡ false
below-once (pos x) (pos y) g = le-ltb y x (omega (arith, ltb-true x y g))
below-once (pos x) (negsuc y) g = absurd (false≢true g)
below-once (negsuc x) (pos y) g = refl
below-once (negsuc x) (negsuc y) g = le-ltb x y (omega (arith, ltb-true y x g))

-- no number is below itself
itself : (x : ℤ) → lt_z x x ≡ false
itself (pos x) = le-ltb x x (omega arith)
itself (negsuc x) = le-ltb x x (omega arith)

-- ---- chains

module _ (price : ℕ) (rs : List Row) where
  -- a chain's score
  abbrev score : List ℕ → ℤ
  score ks = score_of price rs ks

  pub record NoWorse (ks js : List ℕ) : Type 0 where
    pub none_more : lt_z (score_of price rs ks) (score_of price rs js) ≡ false
    pub first : score_of price rs js ≡ score_of price rs ks → (js ≡ ks) ⊎ Before ks js

  -- a list is no worse than itself
  same : (ks : List ℕ) → NoWorse ks ks
  same ks = record { none_more = itself (score ks); first = λ e. inl refl }

  -- to be no worse goes on from list to list
  onward : (is js ks : List ℕ) → NoWorse is js → NoWorse js ks → NoWorse is ks
  onward is js ks g h =
      record {
        none_more = not-below-onward (score is) (score js) (score ks) g.none_more h.none_more;
        first = λ e.
            let m : score js ≡ score is =
            not-below-same (score js) (score is) (rw e at h.none_more) g.none_more
            in
            join (g.first m) (h.first (e ∙ sym m));
      }
    where
      join : (js ≡ is) ⊎ Before is js → (ks ≡ js) ⊎ Before js ks → (ks ≡ is) ⊎ Before is ks
      join (inl p) (inl q) = inl (q ∙ p)
      join (inl p) (inr b) = inr (rw p at b)
      join (inr a) (inl q) = inr (rw q a)
      join (inr a) (inr b) = inr (before-onward a b)

  -- what `betters` says of two lists: yes ..
  bettering : (js ks : List ℕ) → betters price rs js ks ≡ true → NoWorse js ks
  unfolding betters
  bettering js ks e = go (lt_z (score ks) (score js)) (lt_z (score js) (score ks)) refl refl e
    where
      go :
          (a b : Bool) → lt_z (score ks) (score js) ≡ a → lt_z (score js) (score ks) ≡ b
          → (a || cond b false (before js ks)) ≡ true → NoWorse js ks
      go true b f g h =
          record {
            none_more = below-once (score ks) (score js) f;
            first = λ t. absurd (false≢true (sym (itself (score js)) ∙ (rw t at f)));
          }
      go false true f g h = absurd (false≢true h)
      go false false f g h = record { none_more = g; first = λ t. inr (tested-before js ks h) }

  -- .. and no
  no-better : (js ks : List ℕ) → betters price rs js ks ≡ false → NoWorse ks js
  unfolding betters
  no-better js ks e = go (lt_z (score ks) (score js)) (lt_z (score js) (score ks)) refl refl e
    where
      go :
          (a b : Bool) → lt_z (score ks) (score js) ≡ a → lt_z (score js) (score ks) ≡ b
          → (a || cond b false (before js ks)) ≡ false → NoWorse ks js
      go true b f g h = absurd (false≢true (sym h))
      go false true f g h =
          record { none_more = f; first = λ t. absurd (false≢true (sym (itself (score ks)) ∙ (rw t at g))) }
      go false false f g h = record { none_more = f; first = λ t. before-other js ks h }

  -- the better of two lists is one of them, and no worse than either
  record Chosen (js ks is : List ℕ) : Type 0 where
    which : (is ≡ js) ⊎ (is ≡ ks)
    left : NoWorse is js
    right : NoWorse is ks

  chosen : (js ks : List ℕ) → Chosen js ks (cond (betters price rs js ks) js ks)
  chosen js ks = go (betters price rs js ks) refl
    where
      go : (b : Bool) → betters price rs js ks ≡ b → Chosen js ks (cond b js ks)
      go true e = record { which = inl refl; left = same js; right = bettering js ks e }
      go false e = record { which = inr refl; left = no-better js ks e; right = same ks }

  pub best-member : (ks : List ℕ) (cs : List (List ℕ)) → best_of price rs ks cs ∈ (ks ∷ cs)
  unfolding best_of
  best-member ks [] = here refl
  best-member ks (js ∷ cs) =
      let is = cond (betters price rs js ks) js ks in
      ⊎_elim
      (λ e. ⊎_elim (λ g. there (here (e ∙ g))) (λ g. here (e ∙ g)) (chosen js ks).which)
      (λ h. there (there h)) (Memᴰ.cases_cons (best-member is cs))

  pub best-no-worse :
      (ks : List ℕ) (cs : List (List ℕ)) (js : List ℕ) → js ∈ (ks ∷ cs) → NoWorse (best_of price rs ks cs) js
  unfolding best_of
  best-no-worse ks [] js m =
      ⊎_elim (λ e. rw e (same ks)) (λ h. absurd (Memᴰ.not-nil h)) (Memᴰ.cases_cons m)
  best-no-worse ks (is ∷ cs) js m =
      let c = cond (betters price rs is ks) is ks in
      let r = best_of price rs c cs in
      let h = best-no-worse c cs c (here refl) in
      ⊎_elim (λ e. rw e (onward r c ks h (chosen is ks).right))
      (λ t.
      ⊎_elim (λ e. rw e (onward r c is h (chosen is ks).left)) (λ u. best-no-worse c cs js (there u))
      (Memᴰ.cases_cons t))
      (Memᴰ.cases_cons m)
