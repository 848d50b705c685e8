-- The order of rows by what a chain gains from them, and the best of some.
--     no-worse-refl, no-worse-trans, no-worse-total
--                      any two rows are in order
--     link-no-worse    it is the order of the links' sums, wherever these links begin
--     top-same         the best one of the same rows is the same
--     top-scores       by other scores too, if these rows have the same
--     top-single       the best one of a single row
--     better-top       the better one of two best rows is the best of both kinds
-- Assumes nothing.
use Prim.Native.Nat.{ℕ, ◌+◌, ◌*◌, ◌≤◌, ◌<◌}
use mathlib.Core.Path.{◌≡◌, refl, sym, subst}
use mathlib.Core.Logic.{◌⊎◌, inl, inr, ⊎_elim, ◌↔◌, dite}
use mathlib.Core.List.{List}
use native.Mathlib.Decide.{dec_le, dec_lt}
use native.Mathlib.Nat.{mul-add}
use native.Mathlib.Omega.{arith}
use Rattle.rows.specs.declared.Row.{Row}
use Rattle.backbone.specs.Chains.{row_numbered}
use Rattle.weighing.specs.Weighing.{score_at, far_at, NoWorse, better_of, Top}
use Rattle.weighing.proofs.Choosing.{
  against,
  first-none,
  second_none,
  second-better,
  first-better,
  first-lower,
  second-lower,
}

-- rows are compared by sums, and then by their numbers
abbrev InOrder : ℕ → ℕ → ℕ → ℕ → Type 0
InOrder x y j k = (x < y) ⊎ ((x ≡ y) × (j ≤ k))

-- the sums of three rows, each with its price apart
trans : (s s' s'' f f' f'' : ℕ) {i j k : ℕ} → InOrder (s' + f) (s + f') i j → InOrder (s'' + f') (s' + f'') j k
    → InOrder (s'' + f) (s + f'') i k
trans s s' s'' f f' f'' (inl a) (inl b) = inl (omega arith)
trans s s' s'' f f' f'' (inl a) (inr b) = inl (omega arith)
trans s s' s'' f f' f'' (inr a) (inl b) = inl (omega arith)
trans s s' s'' f f' f'' (inr a) (inr b) = inr (omega arith, omega arith)

-- and of two rows one comes first
total : (x y j k : ℕ) → InOrder x y j k ⊎ InOrder y x k j
total x y j k =
    dite (dec_lt x y) (λ l. inl (inl l))
    (λ l. dite (dec_lt y x) (λ m. inr (inl m))
    (λ m. dite (dec_le j k) (λ n. inl (inr (omega arith, n))) (λ n. inr (inr (omega arith, omega arith)))))

module _ {price : ℕ} {rs : List Row} {scores : List ℕ} where
  pub no-worse-refl : (j : ℕ) → NoWorse price rs scores j j
  no-worse-refl j = record { no_worse = inr (omega arith, omega arith) }

  pub no-worse-trans : {i j k : ℕ} → NoWorse price rs scores i j → NoWorse price rs scores j k
      → NoWorse price rs scores i k
  no-worse-trans {i} {j} {k} a b = record {
    no_worse =
        trans (score_at scores i) (score_at scores j) (score_at scores k) (far_at price rs i) (far_at price rs j)
        (far_at price rs k) a.no_worse b.no_worse;
  }

  pub no-worse-total : (j k : ℕ) → NoWorse price rs scores j k ⊎ NoWorse price rs scores k j
  no-worse-total j k =
      ⊎_elim (λ h. inl (record { no_worse = h })) (λ h. inr (record { no_worse = h }))
      (total (against price rs scores k j) (against price rs scores j k) j k)

  pub link-no-worse : {j k : ℕ} → NoWorse price rs scores j k → (base u v : ℕ)
      → (row_numbered rs j).left_a + (row_numbered rs j).left_b ≡ base + u
      → (row_numbered rs k).left_a + (row_numbered rs k).left_b ≡ base + v
      → (score_at scores k + price * u < score_at scores j + price * v)
      ⊎ ((score_at scores k + price * u ≡ score_at scores j + price * v) × (j ≤ k))
  link-no-worse w base u v e f =
      ⊎_elim (λ l. inl (omega arith)) (λ h. inr (omega arith, h.1))
      (rw (e, f, mul-add price base u, mul-add price base v) at w.no_worse)

  pub top-same : {P Q : ℕ → Type 0} {v : ℕ} → ((k : ℕ) → P k ↔ Q k) → Top price rs scores P v → Top price rs scores Q v
  top-same same (Top.none f) = Top.none (λ k q. f k ((same k).1 q))
  top-same {v = j} same (Top.some h p f) = Top.some h ((same j).0 p) (λ k q. f k ((same k).1 q))

  pub top-single : {j : ℕ} → 1 ≤ j → Top price rs scores (λ k. k ≡ j) j
  top-single {j} h = Top.some h refl (λ k e. subst (NoWorse price rs scores j) (sym e) (no-worse-refl j))

  -- the one that is no worse is chosen
  first-kept : {j k : ℕ} → 1 ≤ j → 1 ≤ k → NoWorse price rs scores j k → j ≡ better_of price rs scores j k
  first-kept {j} {k} hj hk w =
      ⊎_elim (first-better price rs scores j k hj hk) (λ h. first-lower price rs scores j k hj hk (sym h.0) h.1)
      w.no_worse

  second-kept : {j k : ℕ} → 1 ≤ j → 1 ≤ k → NoWorse price rs scores k j → k ≡ better_of price rs scores j k
  second-kept {j} {k} hj hk w =
      ⊎_elim (second-better price rs scores j k hj hk) (λ h. second-lower price rs scores j k hj hk h.0 h.1)
      w.no_worse

  -- a number that is equal names the same row
  named : {P : ℕ → Type 0} {v w : ℕ} → v ≡ w → Top price rs scores P v → Top price rs scores P w
  named {P} e t = subst (Top price rs scores P) e t

  pub better-top : (P Q : ℕ → Type 0) {j k : ℕ} → Top price rs scores P j → Top price rs scores Q k
      → Top price rs scores (λ i. P i ⊎ Q i) (better_of price rs scores j k)
  better-top P Q {k = k} (Top.none f) t =
      named (first-none price rs scores 0 k refl) (top-same (λ i. (inr, ⊎_elim (λ p. absurd (f i p)) (λ q. q))) t)
  better-top P Q {j} (Top.some h p f) (Top.none g) =
      named (second_none price rs scores j 0 h refl)
      (Top.some h (inl p) (λ i. ⊎_elim (f i) (λ q. absurd (g i q))))
  better-top P Q {j} {k} (Top.some hj p f) (Top.some hk q g) =
      ⊎_elim
      (λ w. named (first-kept hj hk w) (Top.some hj (inl p) (λ i. ⊎_elim (f i) (λ r. no-worse-trans w (g i r)))))
      (λ w. named (second-kept hj hk w) (Top.some hk (inr q) (λ i. ⊎_elim (λ r. no-worse-trans w (f i r)) (g i))))
      (no-worse-total j k)

pub top-scores : {price : ℕ} {rs : List Row} {scores scores' : List ℕ} {P : ℕ → Type 0} {v : ℕ}
    → ((k : ℕ) → P k → score_at scores k ≡ score_at scores' k) → Top price rs scores P v → Top price rs scores' P v
top-scores same (Top.none f) = Top.none f
top-scores {v = j} same (Top.some h p f) =
    Top.some h p (λ k q. record { no_worse = rw (← same j p, ← same k q) (f k q).no_worse })
