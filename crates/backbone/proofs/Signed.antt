-- Differences of two naturals as signed numbers, told by sums of naturals.
--     Difference a b z     z is a less b
--     difference           of any two numbers there is one
--     order                differences are compared by sums that have no sign
--     above                so is a natural with a difference
--     scored               a difference that is a natural
-- Assumes nothing.
use Prim.Native.Nat.{ℕ, zero, suc, ◌+◌, ◌-◌, ◌<◌, ◌≤◌}
use mathlib.Core.Path.{◌≡◌, refl, sym, ap, subst, ◌∙◌}
use mathlib.Core.Logic.{◌↔◌}
use mathlib.Core.Bool.{Bool, true, false, cond}
use native.Mathlib.Omega.{arith}
use lib.Dec.{ltb}
use lib.IntN.{ℤ, pos, negsuc, ◌-ℤ◌}
use lib.Signed.{lt_z}
use borrow.Author.Tests.{ltb-true, ltb-false, lt-ltb, le-ltb}

-- a is b and a rest, or lacks something of b
pub data Difference (a b : ℕ) : ℤ → Type 0 where
  rest : (n : ℕ) → a ≡ b + n → Difference a b (pos n)
  lack : (n : ℕ) → b ≡ a + suc n → Difference a b (negsuc n)

-- by the test that subtraction makes
by-test : (a b : ℕ) (t : Bool) → ltb a b ≡ t → Difference a b (cond t (negsuc (b - suc a)) (pos (a - b)))
by-test a b true e = Difference.lack (b - suc a) (omega (arith, ltb-true a b e))
by-test a b false e = Difference.rest (a - b) (omega (arith, ltb-false a b e))

pub difference : (a b : ℕ) → Difference a b (pos a -ℤ pos b)
difference a zero = Difference.rest (a + 0) (omega arith)
difference a (suc b) = by-test a (suc b) (ltb a (suc b)) refl

-- two tests that say the same are equal
same_test : (a b c d : ℕ) → (a < b → c < d) → (b ≤ a → d ≤ c) → ltb a b ≡ ltb c d
same_test a b c d f g = go (ltb a b) refl
  where
    go : (t : Bool) → ltb a b ≡ t → t ≡ ltb c d
    go true e = sym (lt-ltb c d (f (ltb-true a b e)))
    go false e = sym (le-ltb c d (g (ltb-false a b e)))

pub order : {a b c d : ℕ} {x y : ℤ} → Difference a b x → Difference c d y → lt_z x y ≡ ltb (a + d) (c + b)
order {a} {b} {c} {d} (Difference.rest m e) (Difference.rest n f) =
    same_test m n (a + d) (c + b) (λ h. omega arith) (λ h. omega arith)
order {a} {b} {c} {d} (Difference.rest m e) (Difference.lack n f) = sym (le-ltb (a + d) (c + b) (omega arith))
order {a} {b} {c} {d} (Difference.lack m e) (Difference.rest n f) = sym (lt-ltb (a + d) (c + b) (omega arith))
order {a} {b} {c} {d} (Difference.lack m e) (Difference.lack n f) =
    same_test n m (a + d) (c + b) (λ h. omega arith) (λ h. omega arith)

pub above : (s a b : ℕ) → lt_z (pos s) (pos a -ℤ pos b) ≡ ltb (s + b) a
above s a b =
    order {a = s} {b = 0} (Difference.rest s (omega arith)) (difference a b)
    ∙ same_test (s + b) (a + 0) (s + b) a (λ h. omega arith) (λ h. omega arith)

pub scored : (a b s : ℕ) → (pos a -ℤ pos b ≡ pos s) ↔ (a ≡ s + b)
scored a b s = (λ e. there (subst (Difference a b) e (difference a b)), λ e. back (difference a b) e)
  where
    there : Difference a b (pos s) → a ≡ s + b
    there (Difference.rest n e) = omega arith

    back : {z : ℤ} → Difference a b z → a ≡ s + b → z ≡ pos s
    back (Difference.rest n f) e = ap pos (omega arith)
    back (Difference.lack n f) e = absurd (omega arith)
