-- A number and its four bytes, and where they stand in a list.
--     Bytes s          s is a string of bytes
--     number_append    a number that stands in the second of two lists
--     number-back      the four bytes of a number are read as that number, if it has 32 bits
--     drop-one         an element at an offset, and what is left
--     drop-two, drop-four     two elements from an offset on, or four, and what is left
--     drop-number      from the offset of a number on stand its bytes, and then what is left
-- Assumes nothing.
use Prim.Native.Nat.{ℕ, suc, ◌+◌, ◌*◌, ◌/◌, ◌%◌, ◌^◌, ◌≤◌, ◌<◌}
use mathlib.Core.Path.{◌≡◌, sym, ap, ◌∙◌}
use mathlib.Core.List.{List, [], ◌∷◌, ◌++◌}
use native.Mathlib.Omega.{arith}
use native.Mathlib.Nat.{add_assoc, div-div-eq-div-mul, div-add-mod, mod-eq_of_lt, div-eq_of_lt}
use native.Mathlib.Nat.{add-mul-mod_self_left, add-mul-div_left}
use native.Mathlib.Numerals.{add-one}
use lib.ListN.{length, get_or, drop}
use lib.Seq.{drop-cons, get_or-append-add}
use Rattle.script.specs.Commands.{number_at}
use Rattle.records.specs.Bytes.{number_bytes}

abbrev pub Bytes : List ℕ → Type 0
Bytes s = (k : ℕ) → get_or s k 0 < 256

-- ---- in a list

pub number_append : (xs ys : List ℕ) (k : ℕ) → number_at (xs ++ ys) (length xs + k) ≡ number_at ys k
number_append xs ys k = simp (add_assoc, get_or-append-add)

module _ {X : Type 0} (l : List X) (blank : X) where
  pub drop-one : (at : ℕ) → at + 1 ≤ length l → drop at l ≡ get_or l at blank ∷ drop (at + 1) l
  drop-one at h = rw (add-one) (drop-cons l at blank (omega arith))

  -- .. and one so many places on
  drop-later : (at n : ℕ) → at + n + 1 ≤ length l → drop (at + n) l ≡ get_or l (at + n) blank ∷ drop (at + suc n) l
  drop-later at n k = let next : at + n + 1 ≡ at + suc n = omega arith in rw (← next) (drop-one (at + n) k)

  pub drop-two : (at : ℕ) → at + 2 ≤ length l
      → drop at l ≡ get_or l at blank ∷ get_or l (at + 1) blank ∷ drop (at + 2) l
  drop-two at h = drop-one at (omega arith) ∙ rw (drop-later at 1 (omega arith))

  pub drop-four : (at : ℕ) → at + 4 ≤ length l
      → drop at l
      ≡ get_or l at blank ∷ get_or l (at + 1) blank ∷ get_or l (at + 2) blank ∷ get_or l (at + 3) blank ∷ drop (at + 4) l
  drop-four at h =
      drop-two at (omega arith)
      ∙ rw (drop-later at 2 (omega arith), drop-later at 3 (omega arith))

-- ---- a number's bytes

-- what stands above the second byte and above the third, a byte at a time
further : (n : ℕ) → (n / 65536 ≡ n / 256 / 256) × (n / 16777216 ≡ n / 256 / 256 / 256)
further n =
    let two = sym (div-div-eq-div-mul n 256 256) in
    (two, sym (div-div-eq-div-mul n 65536 256) ∙ ap (λ (k : ℕ). k / 256) two)

-- a byte and what stands above it
low : (n : ℕ) → n % 256 + 256 * (n / 256) ≡ n
low n = omega (arith, div-add-mod n 256)

pub number-back : (n : ℕ) → n < 2 ^ 32 → number_at (number_bytes n) 0 ≡ n
number-back n h =
    let top : n / 256 / 256 / 256 < 256 = omega arith in
    rw ((further n).0, (further n).1, mod-eq_of_lt top)
    (omega (arith, low n, low (n / 256), low (n / 256 / 256)))

byte_split : (a n : ℕ) → a < 256 → ((a + 256 * n) % 256 ≡ a) × ((a + 256 * n) / 256 ≡ n)
byte_split a n h = (
  add-mul-mod_self_left a 256 n ∙ mod-eq_of_lt h,
  let some : 0 < 256 = omega arith in add-mul-div_left a n some ∙ ap (λ (k : ℕ). k + n) (div-eq_of_lt h) ∙ omega arith,
)

bytes_back : (a b c d : ℕ) → a < 256 → b < 256 → c < 256 → d < 256
    → number_bytes (a + 256 * b + 65536 * c + 16777216 * d) ≡ a ∷ b ∷ c ∷ d ∷ []
bytes_back a b c d ha hb hc hd =
    let n = a + 256 * (b + 256 * (c + 256 * d)) in
    let nested : a + 256 * b + 65536 * c + 16777216 * d ≡ n = omega arith in
    let one = byte_split a (b + 256 * (c + 256 * d)) ha in
    let two = byte_split b (c + 256 * d) hb in
    let three = byte_split c d hc in
    rw (nested, (further n).0, (further n).1, one.0, one.1, two.0, two.1, three.0, three.1, mod-eq_of_lt hd)

pub drop-number : (s : List ℕ) → Bytes s → (at : ℕ) → at + 4 ≤ length s
    → drop at s ≡ number_bytes (number_at s at) ++ drop (at + 4) s
drop-number s bytes at h =
    drop-four s 0 at h
    ∙ ap (λ l. l ++ drop (at + 4) s)
    (sym (bytes_back _ _ _ _ (bytes at) (bytes (at + 1)) (bytes (at + 2)) (bytes (at + 3))))
