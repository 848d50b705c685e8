-- `chains_of` has every chain that isn't empty, and nothing else.
--     every-chain     of lettered rows each chain that isn't empty is in `chains_of`
--     each-chain      each member of `chains_of` is a chain, and has a first row
-- Assumes nothing.
use Prim.Native.Nat.{ℕ, zero, suc, ◌≤◌}
use mathlib.Core.Path.{◌≡◌, refl, sym, ◌∙◌, ap}
use mathlib.Core.Logic.{⊎_elim}
use mathlib.Core.Bool.{Bool, true, false, ◌&&◌, false≢true}
use mathlib.Core.List.Memᴰ
use mathlib.Core.List.{List, [], ◌∷◌, flat_map}
use mathlib.Core.List.Memᴰ.{head as here}
use mathlib.Core.List.Memᴰ.{tail as there}
use native.Mathlib.Omega.{arith}
use lib.ListN.{length}
use lib.Dec.{leb}
use borrow.Author.Tests.{leb-true, le-leb}
use Rattle.rows.specs.declared.Row.{Row}
use Rattle.refinement.specs.declared.Side.{Side}
use Rattle.refinement.specs.declared.Side.TheVariants.{A, B}
use Rattle.refinement.specs.Order.{◌∈◌}
use Rattle.refinement.proofs.Lists.{∈-flat_map, ∈-unflat_map}
use Rattle.table.specs.Covering.{left_of, right_of}
use Rattle.backbone.specs.Chains.{row_numbered, Direct, Follows, Chain, single, linked, Lettered}
use Rattle.backbone.specs.Backbone.{direct_rows, follows, followers_of, chains_from, chains_of}
use Rattle.backbone.proofs.Chains.{on-cond, direct-listed, listed-direct, head-direct, chain-short}

-- `follows` tests `Follows`
follows-tested : (r r' : Row) → Follows r r' → follows r r' ≡ true
follows-tested r r' f =
    rw
    (le-leb (right_of A r) (left_of A r') (f.at_or_past A), le-leb (right_of B r) (left_of B r') (f.at_or_past B))

tested-follows : (r r' : Row) → follows r r' ≡ true → Follows r r'
tested-follows r r' e = record { at_or_past = go (leb (right_of A r) (left_of A r')) refl e }
  where
    go : (a : Bool) → leb (right_of A r) (left_of A r') ≡ a → (a && leb (right_of B r) (left_of B r')) ≡ true
        → (s : Side) → right_of s r ≤ left_of s r'
    go true l m A = leb-true (right_of A r) (left_of A r') l
    go true l m B = leb-true (right_of B r) (left_of B r') m
    go false l m s = absurd (false≢true m)

module _ (rs : List Row) where
  -- ---- the followers of a row

  -- row j may follow row k
  abbrev After : ℕ → ℕ → Type 0
  After k j = Follows (row_numbered rs k) (row_numbered rs j)

  -- who may follow is among the followers ..
  following : (k : ℕ) (js : List ℕ) (j : ℕ) → j ∈ js → After k j → j ∈ followers_of rs k js
  unfolding followers_of
  following k [] j m f = absurd (Memᴰ.not-nil m)
  following k (i ∷ is) j m f =
      on-cond (λ l. j ∈ l) (follows (row_numbered rs k) (row_numbered rs i))
      (λ _. ⊎_elim here (λ h. there (following k is j h f)) (Memᴰ.cases_cons m))
      (λ t. ⊎_elim (λ e. absurd (not e t)) (λ h. following k is j h f) (Memᴰ.cases_cons m))
    where
      not : j ≡ i → follows (row_numbered rs k) (row_numbered rs i) ≡ false → ⊥
      not e t = false≢true (sym t ∙ follows-tested (row_numbered rs k) (row_numbered rs i) (rw e at f))

  -- .. and no one else
  follower : (k : ℕ) (js : List ℕ) (j : ℕ) → j ∈ followers_of rs k js → (j ∈ js) × After k j
  unfolding followers_of
  follower k [] j m = absurd (Memᴰ.not-nil m)
  follower k (i ∷ is) j m =
      let back : j ∈ followers_of rs k is → (j ∈ (i ∷ is)) × After k j =
      λ h. let b = follower k is j h in (there b.0, b.1)
      in
      on-cond (λ l. j ∈ l → (j ∈ (i ∷ is)) × After k j) (follows (row_numbered rs k) (row_numbered rs i))
      (λ t h.
      ⊎_elim (λ e. (here e, rw e (tested-follows (row_numbered rs k) (row_numbered rs i) t))) back
      (Memᴰ.cases_cons h))
      (λ _. back) m

  -- ---- the chains from a row

  -- each chain from row k with at most n rows behind it is among these ..
  every-from : (n : ℕ) {k : ℕ} {ks : List ℕ} → Chain rs (k ∷ ks) → length ks ≤ n → (k ∷ ks) ∈ chains_from n rs k
  unfolding chains_from
  every-from zero (single d) l = here refl
  every-from zero (linked d f c) l = absurd (omega arith)
  every-from (suc n) (single d) l = here refl
  every-from (suc n) (linked {k} {j} d f c) l =
      let m = following k (direct_rows rs) j (direct-listed rs j (head-direct c)) f in
      there (Memᴰ.map (k ∷◌) (∈-flat_map (chains_from n rs) m (every-from n c (omega arith))))

  -- .. and each of these is a chain that begins with row k
  record Begins (k : ℕ) (ks : List ℕ) : Type 0 where
    rest : List ℕ
    split : ks ≡ k ∷ rest
    chain : Chain rs (k ∷ rest)

  each_from : (n k : ℕ) (ks : List ℕ) → Direct rs k → ks ∈ chains_from n rs k → Begins k ks
  unfolding chains_from
  each_from zero k ks d m =
      ⊎_elim (λ e. record { rest = []; split = e; chain = single d }) (λ h. absurd (Memᴰ.not-nil h))
      (Memᴰ.cases_cons m)
  each_from (suc n) k ks d m =
      ⊎_elim (λ e. record { rest = []; split = e; chain = single d })
      (λ h.
      let js = flat_map (chains_from n rs) (followers_of rs k (direct_rows rs)) in
      let a = Memᴰ.of_map (k ∷◌) js h in
      let b = ∈-unflat_map (chains_from n rs) (followers_of rs k (direct_rows rs)) a.1 in
      let f = follower k (direct_rows rs) b.0 b.1 in
      let g = each_from n b.0 a.0 (listed-direct rs b.0 f.0) b.2 in
      record {
        rest = b.0 ∷ g.rest;
        split = sym a.2 ∙ ap (k ∷◌) g.split;
        chain = linked d f.1 g.chain;
      })
      (Memᴰ.cases_cons m)

  -- ---- all chains

  pub every-chain : Lettered rs → (k : ℕ) (ks : List ℕ) → Chain rs (k ∷ ks) → (k ∷ ks) ∈ chains_of rs
  unfolding chains_of
  every-chain l k ks c =
      ∈-flat_map (chains_from (length rs) rs) (direct-listed rs k (head-direct c))
      (every-from (length rs) c (omega (arith, chain-short rs l (k ∷ ks) c)))

  pub each-chain : (ks : List ℕ) → ks ∈ chains_of rs → (k : ℕ) × (Direct rs k) × (Chain rs ks)
  unfolding chains_of
  each-chain ks m =
      let b = ∈-unflat_map (chains_from (length rs) rs) (direct_rows rs) m in
      let d = listed-direct rs b.0 b.1 in
      let g = each_from (length rs) b.0 ks d b.2 in
      (b.0, d, rw g.split g.chain)
