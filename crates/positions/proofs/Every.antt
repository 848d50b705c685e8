-- A list of which each number passes a test.
--     every-each      each number of such a list passes
--     each-every      a list of which each number passes is such a list
--     every-not       of any other list some number does not
--     not-every       a list of which some number does not is no such list
-- Assumes nothing.
use Prim.Native.Nat.{ℕ}
use mathlib.Core.Path.{◌≡◌, refl}
use mathlib.Core.Bool.{Bool, true, false, ◌&&◌}
use mathlib.Core.List.Memᴰ
use mathlib.Core.List.{List, [], ◌∷◌}
use mathlib.Core.List.Memᴰ.{head as here}
use mathlib.Core.List.Memᴰ.{tail as there}
use mathlib.Core.Logic.{⊎_elim}
use native.Mathlib.Omega.{arith}
use Rattle.refinement.specs.Order.{◌∈◌}
use Rattle.positions.specs.CarryingAll.{every}

module _ (test : ℕ → Bool) where
  -- the number that does not pass
  pub record Fails (xs : List ℕ) : Type 0 where
    pub number : ℕ
    pub listed : number ∈ xs
    pub fails : test number ≡ false

  pub each-every : (xs : List ℕ) → ((x : ℕ) → x ∈ xs → test x ≡ true) → every test xs ≡ true
  each-every [] h = refl
  each-every (x ∷ xs) h = rw (h x (here refl), each-every xs (λ y i. h y (there i)))

  pub not-every : {x : ℕ} (xs : List ℕ) → x ∈ xs → test x ≡ false → every test xs ≡ false
  not-every [] i e = absurd (Memᴰ.not-nil i)
  not-every {x} (y ∷ xs) i e =
      ⊎_elim first (λ j. later (test y) (every test xs) (not-every xs j e)) (Memᴰ.cases_cons i)
    where
      first : x ≡ y → (test y && every test xs) ≡ false
      first q = let fails : test y ≡ false = rw q at e in rw fails

      later : (b c : Bool) → c ≡ false → (b && c) ≡ false
      later true c e' = e'
      later false c e' = refl

  pub every-each : (xs : List ℕ) → every test xs ≡ true → (x : ℕ) → x ∈ xs → test x ≡ true
  every-each xs e x i = go (test x) refl
    where
      go : (b : Bool) → test x ≡ b → test x ≡ true
      go true is = is
      go false is = let z : ◌≡◌ {A = Bool} true false = cc (not-every xs i is) in cc

  pub every-not : (xs : List ℕ) → every test xs ≡ false → Fails xs
  every-not [] e = let z : ◌≡◌ {A = ℕ} 0 1 = cc in absurd (omega arith)
  every-not (x ∷ xs) e = go (test x) refl (λ t. every-not xs (rw t at e))
    where
      go : (b : Bool) → test x ≡ b → (test x ≡ true → Fails xs) → Fails (x ∷ xs)
      go false is rest = record { number = x; listed = here refl; fails = is }
      go true is rest =
          let later = rest is in
          record { number = later.number; listed = there later.listed; fails = later.fails }
