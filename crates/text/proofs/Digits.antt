-- A number has one fewest count of decimal digits, and `places` computes it.
--     fewest-decimal    the fewest digits that hold a number of 64 bits are those of the number in decimal
--     digits-length     so many digits are so long
--     decimal-short     so a number in decimal has at most 20
-- Assumes nothing.
use Prim.Native.Nat.{ℕ, zero, suc, ◌-◌, ◌*◌, ◌/◌, ◌^◌, ◌≤◌, ◌<◌}
use mathlib.Core.Path.{◌≡◌, refl, ap, ◌∙◌}
use mathlib.Core.List.{List}
use native.Mathlib.Omega.{arith}
use native.Mathlib.Decide.{dec_lt}
use native.Mathlib.Nat.{pow-suc, one-le-pow}
use native.Mathlib.Numerals.{sub-one}
use borrow.Author.Tests.{lt-ltb, le-ltb}
use mathlib.Core.Bool.{Bool, true, false, cond}
use lib.Dec.{ltb}
use lib.ListN.{length, length-append}
use Rattle.io.specs.Digits.{IsDigitCount, last_digits}
use Rattle.text.specs.Decimal.{places_within, places, decimal}

one_less : (j : ℕ) → suc (suc j) - 1 ≡ suc j
one_less j = sub-one (suc (suc j))

-- a count of two or more digits is needed only from ten on
tens : (n j : ℕ) → IsDigitCount 10 1 n (suc (suc j)) → 10 ^ j * 10 ≤ n
tens n j f = rw (← pow-suc 10 j, ← one_less j) (f.2 (omega arith))

one_place : (n k : ℕ) → n < 10 → IsDigitCount 10 1 n k → k ≡ 1
one_place n zero h f = absurd (omega (arith, f.0))
one_place n (suc zero) h f = refl
one_place n (suc (suc j)) h f = absurd (omega (arith, tens n j f, one-le-pow j 10 (omega arith)))

-- one digit less holds a tenth
fewer : (n j : ℕ) → IsDigitCount 10 1 n (suc (suc j)) → IsDigitCount 10 1 (n / 10) (suc j)
fewer n j f = (
  omega arith,
  omega (arith, f.1, pow-suc 10 (suc j)),
  λ l. more j f l,
)
  where
    more : (j : ℕ) → IsDigitCount 10 1 n (suc (suc j)) → 1 < suc j → 10 ^ (suc j - 1) ≤ n / 10
    more zero f l = absurd (omega arith)
    more (suc i) f l = rw (one_less i) (omega (arith, tens n (suc i) f))

places-fewest : (most n k : ℕ) → n < 10 ^ suc most → IsDigitCount 10 1 n k → k ≡ places_within most n
unfolding places_within
places-fewest zero n k h f = one_place n k h f
places-fewest (suc most) n k h f =
    go (dec_lt n 10) k f
    (λ j g. places-fewest most (n / 10) (suc j) (omega (arith, pow-suc 10 (suc most))) g)
  where
    go :
        Dec (n < 10) → (k : ℕ) → IsDigitCount 10 1 n k
        → ((j : ℕ) → IsDigitCount 10 1 (n / 10) (suc j) → suc j ≡ places_within most (n / 10))
        → k ≡ cond (ltb n 10) 1 (suc (places_within most (n / 10)))
    go (yes l) k f next = rw (lt-ltb n 10 l) (one_place n k l f)
    go (no g) zero f next = absurd (omega (arith, f.0))
    go (no g) (suc zero) f next = absurd (g f.1)
    go (no g) (suc (suc j)) f next = rw (le-ltb n 10 (omega arith)) (ap suc (next j (fewer n j f)))

places-few : (most n : ℕ) → places_within most n ≤ suc most
unfolding places_within
places-few zero n = omega arith
places-few (suc most) n = go (ltb n 10) (places-few most (n / 10))
  where
    go : (b : Bool) → places_within most (n / 10) ≤ suc most
        → cond b 1 (suc (places_within most (n / 10))) ≤ suc (suc most)
    go true h = omega arith
    go false h = omega arith

pub fewest-decimal : {n k : ℕ} {ds : List ℕ} → n < 2 ^ 64 → IsDigitCount 10 1 n k → ds ≡ last_digits 10 k n → ds ≡ decimal n
fewest-decimal {n} {k} h f e = e ∙ ap (λ (k : ℕ). last_digits 10 k n) (places-fewest 19 n k (omega arith) f)

pub digits-length : (b k n : ℕ) → length (last_digits b k n) ≡ k
digits-length b zero n = refl
digits-length b (suc k) n = simp length-append (omega (arith, digits-length b k (n / b)))

pub decimal-short : (n : ℕ) → length (decimal n) ≤ 20
decimal-short n = omega (arith, digits-length 10 (places n) n, places-few 19 n)
