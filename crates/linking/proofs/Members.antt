-- Where a number stands in the front of a list.
--     Stands xs t k          k stands before place t of xs
--     stands, standing       a member of the front stands there, and what stands there is a member
--     one_more               the members of a front that is one longer
-- Assumes nothing.
use Prim.Native.Nat.{ℕ, zero, suc, ◌+◌, ◌<◌}
use mathlib.Core.Path.{◌≡◌}
use mathlib.Core.Logic.{◌↔◌}
use mathlib.Core.List.Memᴰ.{head as here}
use mathlib.Core.List.Memᴰ.{tail as there}
use mathlib.Core.List.{List, [], ◌∷◌}
use native.Mathlib.Omega.{arith}
use native.Mathlib.Decide.{ℕ_discrete}
use lib.ListN.{length, get_or, take}
use Rattle.refinement.specs.Order.{◌∈◌}

pub record Stands (xs : List ℕ) (t k : ℕ) : Type 0 where
  pub place : ℕ
  pub before : place < t
  pub inside : place < length xs
  pub reads : k ≡ get_or xs place 0

pub stands : (xs : List ℕ) (t : ℕ) {k : ℕ} → k ∈ take t xs → Stands xs t k
stands [] zero m = elim m [ ]
stands [] (suc t) m = elim m [ ]
stands (x ∷ xs) zero m = elim m [ ]
stands (x ∷ xs) (suc t) (here e) =
    record { place = 0; before = omega arith; inside = omega arith; reads = e }
stands (x ∷ xs) (suc t) (there m) =
    let s = stands xs t m in
    record { place = suc s.place; before = omega arith; inside = omega arith; reads = s.reads }

pub standing : (xs : List ℕ) (t i : ℕ) {k : ℕ} → i < t → i < length xs → k ≡ get_or xs i 0 → k ∈ take t xs
standing [] t i l inside e = absurd (omega arith)
standing (x ∷ xs) zero i l inside e = absurd (omega arith)
standing (x ∷ xs) (suc t) zero l inside e = here e
standing (x ∷ xs) (suc t) (suc i) l inside e = there (standing xs t i (omega arith) (omega arith) e)

pub one_more : (xs : List ℕ) (t : ℕ) → t < length xs → (k : ℕ) → (k ∈ (get_or xs t 0 ∷ take t xs)) ↔ (k ∈ take (t + 1) xs)
one_more xs t inside k = (to, back)
  where
    to : k ∈ (get_or xs t 0 ∷ take t xs) → k ∈ take (t + 1) xs
    to (here e) = standing xs (t + 1) t (omega arith) inside e
    to (there m) =
        let s = stands xs t m in
        standing xs (t + 1) s.place (omega arith) s.inside s.reads

    split : (s : Stands xs (t + 1) k) → Dec (s.place ≡ t) → k ∈ (get_or xs t 0 ∷ take t xs)
    split s (yes e) = here (rw e at s.reads)
    split s (no ne) = there (standing xs t s.place (omega arith) s.inside s.reads)

    back : k ∈ take (t + 1) xs → k ∈ (get_or xs t 0 ∷ take t xs)
    back m = let s = stands xs (t + 1) m in split s (ℕ_discrete s.place t)
