-- The numbers at the places of a list, and those that stand in it.
--     at-∈     what is at a place stands in the list
--     ∈-at     what stands in it is at a place
-- Assumes nothing.
use Prim.Native.Nat.{ℕ, suc, ◌<◌}
use mathlib.Core.Path.{◌≡◌, sym}
use mathlib.Core.List.{List}
use mathlib.Core.List.Memᴰ.{head as here}
use mathlib.Core.List.Memᴰ.{tail as there}
use native.Mathlib.Omega.{arith}
use lib.ListN.{length, get_or}
use Rattle.refinement.specs.Order.{◌∈◌}
use Rattle.refining.proofs.Numbered.{get_d-∈}

pub at-∈ : (ks : List ℕ) (i : ℕ) → i < length ks → get_or ks i 0 ∈ ks
at-∈ ks i l = get_d-∈ ks i 0 l

pub ∈-at : {k : ℕ} {ks : List ℕ} → k ∈ ks → (i : ℕ) × (i < length ks) × (get_or ks i 0 ≡ k)
∈-at (here e) = (0, omega arith, sym e)
∈-at (there m) = let p = ∈-at m in (suc p.0, omega (arith, p.1), p.2)
