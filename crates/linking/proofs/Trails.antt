-- What is written for the next row leaves the trails of the others.
--     chain-other      behind the head of a chain stands no row that is not right of it on A
--     trail-kept       a trail on which row k does not stand is the same once k's link is written
-- Assumes nothing.
use Prim.Native.Nat.{ℕ, ◌-◌, ◌≤◌}
use mathlib.Core.Path.{refl}
use mathlib.Core.Logic.{◌≢◌}
use mathlib.Core.List.Memᴰ.{head as here}
use mathlib.Core.List.Memᴰ.{tail as there}
use mathlib.Core.List.{List, ◌∷◌}
use native.Mathlib.Omega.{arith}
use lib.ListN.{set, length-set}
use lib.Seq.{get_or-set_other}
use Rattle.rows.specs.declared.Row.{Row}
use Rattle.refinement.specs.declared.Side.TheVariants.{A}
use Rattle.refinement.specs.Order.{◌∈◌}
use Rattle.table.specs.Covering.{left_of}
use Rattle.backbone.specs.Chains.{row_numbered, Chain}
use Rattle.backbone.proofs.Chains.{goes-up}
use Rattle.best_chains.specs.Best.{Apart}
use Rattle.walking.specs.Trail.{Trail, ends, leads}

pub chain-other : {rs : List Row} {j k : ℕ} {js : List ℕ} → Apart rs → Chain rs (j ∷ js)
    → left_of A (row_numbered rs k) ≤ left_of A (row_numbered rs j) → (m : ℕ) → m ∈ js → m ≢ k
chain-other {rs} apart chain le m among e =
    let up = rw e at (goes-up rs apart.lettered chain m among) in
    omega arith

module _ (k v : ℕ) (some : 1 ≤ k) where
  pub trail-kept : {links : List ℕ} {j : ℕ} {ks : List ℕ} → Trail links j ks → ((m : ℕ) → m ∈ ks → m ≢ k)
      → Trail (set links (k - 1) v) j ks
  trail-kept ends other = ends
  trail-kept {links} (leads {k = j} {ks = ks} l le rest) other =
      let apart : (j - 1) ≢ (k - 1) = λ e. other j (here refl) (omega arith) in
      let same = get_or-set_other links (k - 1) (j - 1) v 0 apart in
      leads {ks = ks} l (rw length-set le) (rw same (trail-kept rest (λ m n. other m (there n))))
