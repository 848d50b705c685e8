-- The direct rows and the chains of them.
--     on-cond                          what holds of a list in both cases of a test
--     direct-listed, listed-direct     `direct_rows` has the numbers of the direct rows, and no other
--     head-direct, tail-chain          what a chain that isn't empty is made of
--     row-lettered                     a direct row of lettered rows has a letter
--     goes-up                          along a chain of lettered rows the left ends go up
--     chain-short                      of lettered rows no chain has more than there are: its left ends go up
-- Assumes nothing.
use Prim.Native.Nat.{ℕ, zero, suc, ◌+◌, ◌-◌, ◌≤◌, ◌<◌}
use mathlib.Core.Path.{◌≡◌, refl}
use mathlib.Core.Logic.{⊎_elim, ◌≢◌}
use mathlib.Core.Bool.{Bool, true, false, cond}
use mathlib.Core.List.Memᴰ
use mathlib.Core.List.{List, [], ◌∷◌}
use mathlib.Core.List.Memᴰ.{head as here}
use mathlib.Core.List.Memᴰ.{tail as there}
use native.Mathlib.Omega.{arith}
use lib.ListN.{length}
use lib.Dec.{eqb}
use borrow.Author.Tests.{eqb-true, eq-eqb}
use Rattle.rows.specs.Rows.{row_at}
use Rattle.rows.specs.declared.Row.{Row}
use Rattle.refinement.specs.declared.Side.TheVariants.{A}
use Rattle.refinement.specs.Order.{◌∈◌, Distinct}
use Rattle.refinement.proofs.Lists.{pigeonhole}
use Rattle.table.specs.Covering.{left_of}
use Rattle.backbone.specs.Chains.{row_numbered, Direct, Follows, Chain, empty, single, linked, Lettered}
use Rattle.backbone.specs.Backbone.{direct_from, direct_rows}

-- ---- direct rows

pub on-cond :
    (Q : List ℕ → Type 0) (b : Bool) {xs ys : List ℕ} → (b ≡ true → Q xs) → (b ≡ false → Q ys) → Q (cond b xs ys)
on-cond Q true f g = f refl
on-cond Q false f g = g refl

-- row i of rs, counted from 0, where rows count from n
numbered : (n : ℕ) (rs : List Row) (i : ℕ) → i < length rs → (row_at rs i).direction ≡ 0 → (n + i) ∈ direct_from n rs
unfolding direct_from
numbered n [] i l e = absurd (omega arith)
numbered n (r ∷ rs) zero l e = rw (eq-eqb r.direction 0 e) (here {x = n} (omega arith))
numbered n (r ∷ rs) (suc i) l e =
    let t : (suc n + i) ∈ direct_from (suc n) rs = numbered (suc n) rs i (omega arith) e in
    let m : (n + suc i) ∈ direct_from (suc n) rs = Memᴰ.cast (omega arith) t in
    on-cond (λ ks. (n + suc i) ∈ ks) (eqb r.direction 0) (λ _. there m) (λ _. m)

-- such a row, by its number
record Numbered (n : ℕ) (rs : List Row) (k : ℕ) : Type 0 where
  from : n ≤ k
  to : k < n + length rs
  direct : (row_at rs (k - n)).direction ≡ 0

-- one row more in front
later : (n : ℕ) (r : Row) (rs : List Row) (k : ℕ) → Numbered (suc n) rs k → Numbered n (r ∷ rs) k
later n r rs k h =
    let e : k - n ≡ suc (k - suc n) = omega (arith, h.from) in
    record { from = omega (arith, h.from); to = omega (arith, h.to); direct = rw e h.direct }

-- the row in front
first : (n : ℕ) (r : Row) (rs : List Row) (k : ℕ) → k ≡ n → r.direction ≡ 0 → Numbered n (r ∷ rs) k
first n r rs k e d =
    let z : k - n ≡ 0 = omega arith in record { from = omega arith; to = omega arith; direct = rw z d }

unnumbered : (n : ℕ) (rs : List Row) (k : ℕ) → k ∈ direct_from n rs → Numbered n rs k
unfolding direct_from
unnumbered n [] k m = absurd (Memᴰ.not-nil m)
unnumbered n (r ∷ rs) k m =
    let back : k ∈ direct_from (suc n) rs → Numbered n (r ∷ rs) k =
    λ h. later n r rs k (unnumbered (suc n) rs k h)
    in
    on-cond (λ ks. k ∈ ks → Numbered n (r ∷ rs) k) (eqb r.direction 0)
    (λ t h. ⊎_elim (λ e. first n r rs k e (eqb-true r.direction 0 t)) back (Memᴰ.cases_cons h)) (λ _. back) m

pub direct-listed : (rs : List Row) (k : ℕ) → Direct rs k → k ∈ direct_rows rs
direct-listed rs k d =
    Memᴰ.cast (omega (arith, d.from_one))
    (numbered 1 rs (k - 1) (omega (arith, d.from_one, d.to_last)) d.direct)

pub listed-direct : (rs : List Row) (k : ℕ) → k ∈ direct_rows rs → Direct rs k
listed-direct rs k m =
    let h = unnumbered 1 rs k m in
    record { from_one = h.from; to_last = omega (arith, h.to); direct = h.direct }

-- there are no more direct rows than rows
few : (n : ℕ) (rs : List Row) → length (direct_from n rs) ≤ length rs
unfolding direct_from
few n [] = omega arith
few n (r ∷ rs) =
    on-cond (λ ks. length ks ≤ suc (length rs)) (eqb r.direction 0)
    (λ _. omega (arith, few (suc n) rs)) (λ _. omega (arith, few (suc n) rs))

-- ---- chains

pub head-direct : {rs : List Row} {k : ℕ} {ks : List ℕ} → Chain rs (k ∷ ks) → Direct rs k
head-direct (single d) = d
head-direct (linked d f c) = d

pub tail-chain : {rs : List Row} {k : ℕ} {ks : List ℕ} → Chain rs (k ∷ ks) → Chain rs ks
tail-chain (single d) = empty
tail-chain (linked d f c) = c

-- a chain has direct rows only
all_listed : (rs : List Row) (ks : List ℕ) → Chain rs ks → (k : ℕ) → k ∈ ks → k ∈ direct_rows rs
all_listed rs [] c k m = absurd (Memᴰ.not-nil m)
all_listed rs (j ∷ js) c k m =
    ⊎_elim (λ e. Memᴰ.cast e (direct-listed rs j (head-direct c))) (all_listed rs js (tail-chain c) k)
    (Memᴰ.cases_cons m)

module _ (rs : List Row) (l : Lettered rs) where
  pub row-lettered : {k : ℕ} → Direct rs k → 1 ≤ (row_numbered rs k).length
  row-lettered {k} d = l.lettered (k - 1) (omega (arith, d.from_one, d.to_last))

  -- the left end of row k on A
  abbrev left : ℕ → ℕ
  left k = left_of A (row_numbered rs k)

  -- it goes up from a piece to one that follows ..
  step : (k j : ℕ) → Direct rs k → Follows (row_numbered rs k) (row_numbered rs j) → left k < left j
  step k j d f = omega (arith, row-lettered d, f.at_or_past A)

  -- .. and so to every later one
  pub goes-up : {k : ℕ} {ks : List ℕ} → Chain rs (k ∷ ks) → (j : ℕ) → j ∈ ks → left k < left j
  goes-up (single d) j m = absurd (Memᴰ.not-nil m)
  goes-up (linked {k} {j = i} d f c) j m =
      ⊎_elim (λ (e : j ≡ i). rw e (step k i d f)) (λ h. omega (arith, step k i d f, goes-up c j h))
      (Memᴰ.cases_cons m)

  -- no row stands in a chain twice
  distinct : (ks : List ℕ) → Chain rs ks → Distinct ks
  distinct [] c = tt
  distinct (k ∷ ks) c = (λ j m e. apart j m e, distinct ks (tail-chain c))
    where
      apart : (j : ℕ) → j ∈ ks → k ≢ j
      apart j m e = let h : left j < left j = rw e at (goes-up c j m) in omega arith

  pub chain-short : (ks : List ℕ) → Chain rs ks → length ks ≤ length rs
  chain-short ks c =
      omega (arith, pigeonhole ks (direct_rows rs) (distinct ks c) (all_listed rs ks c), few 1 rs)
