-- Bits of a number by quotients: what `or` does to them.
--     or-digit        a bit of an `or` is the greater of the two bits
--     or-sets, or-keeps       the bit that is set by it, and one that was set
--     slot-place      the place of a bit
-- Assumes nothing.
use Prim.Native.Nat.{ℕ, zero, suc, ◌*◌, ◌/◌, ◌%◌, ◌^◌, ◌≤◌, ◌<◌, max}
use native.Mathlib.Omega.{arith}
use native.Mathlib.Nat.{mul_comm, mod-lt, pow-suc, div-one, div_self, div-div-eq-div-mul, max-le, max-eq_left, max-eq_right}
use mathlib.Core.Path.{◌≡◌, sym, ap, ap₂, ◌∙◌}
use lib.Bits.{bit_or, or_step}
use lib.Pow.{pow_pos}
use Rattle.noting.specs.Notes.{Set}

-- a bit is 0 or 1
bit_le : (n : ℕ) → n % 2 ≤ 1
bit_le n = omega arith

max-bit : (a b : ℕ) → max (a % 2) (b % 2) ≤ 1
max-bit a b = max-le (bit_le a) (bit_le b)

or-low : (a b : ℕ) → bit_or a b % 2 ≡ max (a % 2) (b % 2)
or-low a b = omega (arith, or_step a b, max-bit a b)

or-half : (a b : ℕ) → bit_or a b / 2 ≡ bit_or (a / 2) (b / 2)
or-half a b = omega (arith, or_step a b, max-bit a b)

half : (n k : ℕ) → n / 2 ^ suc k ≡ n / 2 / 2 ^ k
half n k = ap (λ (x : ℕ). n / x) (pow-suc 2 k ∙ mul_comm (2 ^ k) 2) ∙ sym (div-div-eq-div-mul n 2 (2 ^ k))

pub or-digit : (k a b : ℕ) → bit_or a b / 2 ^ k % 2 ≡ max (a / 2 ^ k % 2) (b / 2 ^ k % 2)
or-digit zero a b =
    ap (λ (x : ℕ). x % 2) (div-one (bit_or a b)) ∙ or-low a b
    ∙ sym (ap₂ (λ (x y : ℕ). max (x % 2) (y % 2)) (div-one a) (div-one b))
or-digit (suc k) a b =
    ap (λ (x : ℕ). x % 2) (half (bit_or a b) k ∙ ap (λ (x : ℕ). x / 2 ^ k) (or-half a b))
    ∙ or-digit k (a / 2) (b / 2)
    ∙ sym (ap₂ (λ (x y : ℕ). max (x % 2) (y % 2)) (half a k) (half b k))

pub or-sets : (word k : ℕ) → Set (bit_or word (2 ^ k)) k
or-sets word k =
    or-digit k word (2 ^ k) ∙ ap (λ (x : ℕ). max (word / 2 ^ k % 2) (x % 2)) (div_self (pow_pos k))
    ∙ max-eq_right (bit_le (word / 2 ^ k))

pub or-keeps : (word other k : ℕ) → Set word k → Set (bit_or word other) k
or-keeps word other k e =
    or-digit k word other ∙ ap (λ (x : ℕ). max x (other / 2 ^ k % 2)) e ∙ max-eq_left (bit_le (other / 2 ^ k))

pub slot-place : (x places : ℕ) → 0 < places → x % (places * 32) / 32 < places
slot-place x places h = omega (arith, mod-lt x {m = places * 32} (omega arith))
