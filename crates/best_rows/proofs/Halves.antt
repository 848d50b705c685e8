-- How places are halved.
--     middle-within     the middle of two places or more is behind the first, and before the end
--     middle-there      it is below what the end is at most
--     within-alike      two lists of rows that agree at some places have the same rows within them
--     halved-parts      the numbers of two places or more: that at the middle, those before it and those behind it
--     halved-alike      only the rows at these places count, their scores, and the numbers behind the first
--     halved-scores, halved-members, halved-held     other scores, rows and numbers that agree there
--     halved-empty      no row is entered: every number is 0
--     better-named      the better one of two rows is a row, or none
-- Assumes nothing.
use Prim.Native.Nat.{ℕ, zero, suc, ◌+◌, ◌≤◌, ◌<◌}
use mathlib.Core.Bool.{Bool, true, false, cond}
use mathlib.Core.Path.{◌≡◌, refl}
use mathlib.Core.Logic.{◌↔◌}
use mathlib.Core.List.Memᴰ
use mathlib.Core.List.{List, []}
use native.Mathlib.Omega.{arith}
use native.Mathlib.Decide.{dec_lt}
use lib.ListN.{get_or}
use Rattle.rows.specs.declared.Row.{Row}
use Rattle.refinement.specs.Order.{◌∈◌}
use Rattle.direct_rows.specs.Direct.{place_at}
use Rattle.weighing.specs.Weighing.{Top, score_at, better_of}
use Rattle.weighing.specs.Weighing.Top.{none}
use Rattle.weighing.proofs.Top.{top-same, top-scores}
use Rattle.best_rows.specs.Halves.{middle, Within, Halved}
use Rattle.best_rows.specs.Halves.Halved.{whole, halves}

pub middle-within : (lo hi : ℕ) → lo + 1 < hi → (lo < middle lo hi) × (middle lo hi < hi)
middle-within lo hi l = omega arith

pub middle-there : (lo hi : ℕ) {n : ℕ} → lo + 1 < hi → hi ≤ n → middle lo hi < n
middle-there lo hi l m = omega arith

pub within-alike :
    {es es' places : List ℕ} {lo hi : ℕ}
    → ((k : ℕ) → lo ≤ place_at places k → place_at places k < hi → (k ∈ es) ↔ (k ∈ es'))
    → (k : ℕ) → Within es places lo hi k ↔ Within es' places lo hi k
within-alike same k = (
  λ w. record { entered = (same k w.from w.to).0 w.entered; from = w.from; to = w.to },
  λ w. record { entered = (same k w.from w.to).1 w.entered; from = w.from; to = w.to },
)

module _ {price : ℕ} {rs : List Row} {places : List ℕ} where
  pub halved-parts :
      {scores es held : List ℕ} {lo hi : ℕ} → lo + 1 < hi → Halved price rs scores es places held lo hi
      → Top price rs scores (Within es places (middle lo hi) hi) (get_or held (middle lo hi) 0)
      × Halved price rs scores es places held lo (middle lo hi)
      × Halved price rs scores es places held (middle lo hi) hi
  halved-parts l (whole m) = absurd (omega arith)
  halved-parts l (halves m top first later) = (top, first, later)

  pub halved-alike :
      {scores scores' es es' held held' : List ℕ} {lo hi : ℕ}
      → ((k : ℕ) → k ∈ es → score_at scores k ≡ score_at scores' k)
      → ((k : ℕ) → lo ≤ place_at places k → place_at places k < hi → (k ∈ es) ↔ (k ∈ es'))
      → ((i : ℕ) → lo < i → i < hi → get_or held' i 0 ≡ get_or held i 0)
      → Halved price rs scores es places held lo hi → Halved price rs scores' es' places held' lo hi
  halved-alike scored same kept (whole l) = whole l
  halved-alike scored same kept (halves {lo = lo} {hi = hi} l top first later) =
      let w = middle-within lo hi l in
      halves l
      (rw (kept (middle lo hi) w.0 w.1)
      (top-same (within-alike (λ k f t. same k (omega arith) t)) (top-scores (λ k i. scored k i.entered) top)))
      (halved-alike scored (λ k f t. same k f (omega arith)) (λ i f t. kept i f (omega arith)) first)
      (halved-alike scored (λ k f t. same k (omega arith) t) (λ i f t. kept i (omega arith) t) later)

  pub halved-scores :
      {scores scores' es held : List ℕ} {lo hi : ℕ} → ((k : ℕ) → k ∈ es → score_at scores k ≡ score_at scores' k)
      → Halved price rs scores es places held lo hi → Halved price rs scores' es places held lo hi
  halved-scores scored = halved-alike scored (λ k f t. (λ i. i, λ i. i)) (λ i f t. refl)

  pub halved-members :
      {scores es es' held : List ℕ} {lo hi : ℕ} → ((k : ℕ) → (k ∈ es) ↔ (k ∈ es'))
      → Halved price rs scores es places held lo hi → Halved price rs scores es' places held lo hi
  halved-members same = halved-alike (λ k i. refl) (λ k f t. same k) (λ i f t. refl)

  pub halved-held :
      {scores es held held' : List ℕ} {lo hi : ℕ} → ((i : ℕ) → lo < i → i < hi → get_or held' i 0 ≡ get_or held i 0)
      → Halved price rs scores es places held lo hi → Halved price rs scores es places held' lo hi
  halved-held kept = halved-alike (λ k i. refl) (λ k f t. (λ i. i, λ i. i)) kept

module _ (price : ℕ) (rs : List Row) (scores places held : List ℕ) where
  -- what is claimed of n places at most
  abbrev Empty : ℕ → Type 0
  Empty n =
      (lo hi : ℕ) → hi ≤ lo + n → ((i : ℕ) → lo < i → i < hi → get_or held i 0 ≡ 0)
      → Halved price rs scores [] places held lo hi

  -- one place more: each half has no more than n
  empty-more : (n : ℕ) → Empty n → Empty (suc n)
  empty-more n fewer lo hi l zeros = go (dec_lt (lo + 1) hi)
    where
      go : Dec (lo + 1 < hi) → Halved price rs scores [] places held lo hi
      go (no m) = whole {lo = lo} {hi = hi} (omega arith)
      go (yes m) =
          let mid = middle-within lo hi m in
          halves m (rw (zeros (middle lo hi) mid.0 mid.1) (none (λ k w. Memᴰ.not-nil w.entered)))
          (fewer lo (middle lo hi) (omega arith) (λ i f t. zeros i f (omega arith)))
          (fewer (middle lo hi) hi (omega arith) (λ i f t. zeros i (omega arith) t))

  -- however many they are
  empty-to : (n : ℕ) → Empty n
  empty-to zero lo hi l zeros = whole {lo = lo} {hi = hi} (omega arith)
  empty-to (suc n) lo hi l zeros = empty-more n (empty-to n) lo hi l zeros

pub halved-empty :
    {price : ℕ} {rs : List Row} {scores places held : List ℕ} {lo hi : ℕ}
    → ((i : ℕ) → lo < i → i < hi → get_or held i 0 ≡ 0) → Halved price rs scores [] places held lo hi
halved-empty {price} {rs} {scores} {places} {held} {lo} {hi} =
    empty-to price rs scores places held hi lo hi (omega arith)

-- of two numbers within a bound, the chosen one is
choice-within : {j k n : ℕ} (b : Bool) → j ≤ n → k ≤ n → cond b j k ≤ n
choice-within true l m = l
choice-within false l m = m

pub better-named :
    (price : ℕ) (rs : List Row) (scores : List ℕ) {j k n : ℕ} → j ≤ n → k ≤ n → better_of price rs scores j k ≤ n
unfolding better_of
better-named price rs scores l m = search choice-within
