-- A number is read back from its decimal digits, which have no leading zeros.
--     decimal-inj       numbers of 64 bits that print alike are the same
--     decimal-cut       a number is cut off its text where a blank or a newline follows, or any byte below `0`
--     decimal-start     such a text starts with a byte of at most `9`
--     decimal-one       a number below ten has one digit
--     decimal-leads     no other starts with a zero
--     shown             the numbers that stand in a text, from left to right
--     shown-decimal     a number that is printed is shown
-- Assumes nothing.
use Prim.Native.Nat.{ℕ, zero, suc, ◌+◌, ◌-◌, ◌*◌, ◌/◌, ◌%◌, ◌^◌, ◌≤◌, ◌<◌}
use mathlib.Core.Path.{◌≡◌, refl, sym, ap, ap₂, ◌∙◌}
use mathlib.Core.Bool.{Bool, true, false, cond, ◌&&◌}
use mathlib.Core.List.{List, [], ◌∷◌, ◌++◌}
use native.Mathlib.Omega.{arith}
use native.Mathlib.Decide.{dec_lt}
use native.Mathlib.Nat.{pow-suc}
use borrow.Author.Tests.{lt-ltb, le-ltb, le-leb, lt-leb}
use lib.Dec.{leb, ltb}
use lib.ListN.{length, get_or}
use Rattle.io.specs.Digits.{hex_digit_ascii, last_digits}
use Rattle.text.specs.Decimal.{places_within, places, decimal}
use Rattle.text.proofs.Digits.{digits-length}

-- ---- reading

-- the number that the digits ds say, behind digits that say n
abbrev read_on : ℕ → List ℕ → ℕ
read_on n [] = n
read_on n (d ∷ ds) = read_on (10 * n + (d - 48)) ds

read-last : (n : ℕ) (ds : List ℕ) (d : ℕ) → read_on n (ds ++ d ∷ []) ≡ 10 * read_on n ds + (d - 48)
read-last n [] d = refl
read-last n (b ∷ ds) d = read-last (10 * n + (b - 48)) ds d

-- the byte of a digit is 48 above it
glyph-digit : (n : ℕ) → hex_digit_ascii (n % 10) ≡ 48 + n % 10
glyph-digit n = rw (lt-ltb (n % 10) 10 (omega arith))

digits-read : (k n : ℕ) → n < 10 ^ k → read_on 0 (last_digits 10 k n) ≡ n
digits-read zero n h = omega arith
digits-read (suc k) n h =
    omega (
      arith,
      read-last 0 (last_digits 10 k (n / 10)) (hex_digit_ascii (n % 10)),
      glyph-digit n,
      digits-read k (n / 10) (omega (arith, pow-suc 10 k)),
    )

-- so many digits hold the number
places-hold : (most n : ℕ) → n < 10 ^ suc most → n < 10 ^ places_within most n
unfolding places_within
places-hold zero n h = h
places-hold (suc most) n h =
    go (dec_lt n 10) (places-hold most (n / 10) (omega (arith, pow-suc 10 (suc most))))
  where
    go : Dec (n < 10) → n / 10 < 10 ^ places_within most (n / 10)
        → n < 10 ^ cond (ltb n 10) 1 (suc (places_within most (n / 10)))
    go (yes l) held = rw (lt-ltb n 10 l) l
    go (no g) held = rw (le-ltb n 10 (omega arith)) (omega (arith, pow-suc 10 (places_within most (n / 10))))

decimal-read : (n : ℕ) → n < 10 ^ 20 → read_on 0 (decimal n) ≡ n
decimal-read n h = digits-read (places n) n (places-hold 19 n h)

pub decimal-inj : {n m : ℕ} → n < 2 ^ 64 → m < 2 ^ 64 → decimal n ≡ decimal m → n ≡ m
decimal-inj {n} {m} h k e = sym (decimal-read n (omega arith)) ∙ ap (read_on 0) e ∙ decimal-read m (omega arith)

-- ---- cutting off

-- the bytes are `0` to `9`
abbrev AllDigits : List ℕ → Type 0
AllDigits [] = Unit
AllDigits (b ∷ bs) = (48 ≤ b) × (b ≤ 57) × AllDigits bs

digits_last : (bs : List ℕ) (b : ℕ) → AllDigits bs → 48 ≤ b → b ≤ 57 → AllDigits (bs ++ b ∷ [])
digits_last [] b all low high = (low, high, tt)
digits_last (c ∷ bs) b all low high = (all.0, all.1, digits_last bs b all.2 low high)

all_digits : (k n : ℕ) → AllDigits (last_digits 10 k n)
all_digits zero n = tt
all_digits (suc k) n =
    let g = glyph-digit n in
    digits_last (last_digits 10 k (n / 10)) (hex_digit_ascii (n % 10)) (all_digits k (n / 10)) (omega (arith, g)) (omega (arith, g))

digits-cut :
    (xs ys : List ℕ) {u v : List ℕ} {c : ℕ} → AllDigits xs → AllDigits ys → c < 48
    → xs ++ c ∷ u ≡ ys ++ c ∷ v → (xs ≡ ys) × (u ≡ v)
digits-cut [] [] xd yd below e = (refl, cc)
digits-cut [] (y ∷ ys) {c = c} xd yd below e = let first : c ≡ y = cc in absurd (omega (arith, yd.0))
digits-cut (x ∷ xs) [] {c = c} xd yd below e = let first : x ≡ c = cc in absurd (omega (arith, xd.0))
digits-cut (x ∷ xs) (y ∷ ys) {u} {v} {c} xd yd below e =
    let first : x ≡ y = cc in
    let later : xs ++ c ∷ u ≡ ys ++ c ∷ v = cc in
    let cut = digits-cut xs ys xd.2 yd.2 below later in
    (ap₂ ◌∷◌ first cut.0, cut.1)

pub decimal-cut :
    (n m : ℕ) {u v : List ℕ} {c : ℕ} → c < 48 → decimal n ++ c ∷ u ≡ decimal m ++ c ∷ v
    → (decimal n ≡ decimal m) × (u ≡ v)
decimal-cut n m below e = digits-cut (decimal n) (decimal m) (all_digits (places n) n) (all_digits (places m) m) below e

digits-start : (xs u : List ℕ) (c d : ℕ) → AllDigits xs → c < 48 → get_or (xs ++ c ∷ u) 0 d ≤ 57
digits-start [] u c d all below = omega arith
digits-start (x ∷ xs) u c d all below = all.1

pub decimal-start : (n : ℕ) (u : List ℕ) (c d : ℕ) → c < 48 → get_or (decimal n ++ c ∷ u) 0 d ≤ 57
decimal-start n u c d below = digits-start (decimal n) u c d (all_digits (places n) n) below

-- ---- no leading zeros

pub decimal-one : (n : ℕ) → n < 10 → decimal n ≡ (48 + n) ∷ []
unfolding places_within
decimal-one n h =
    let whole : n % 10 ≡ n = omega arith in
    rw (lt-ltb n 10 h) (ap (λ (b : ℕ). b ∷ []) (glyph-digit n ∙ ap (λ (d : ℕ). 48 + d) whole))

leads-longer : (bs : List ℕ) (b : ℕ) → 49 ≤ get_or bs 0 0 → 49 ≤ get_or (bs ++ b ∷ []) 0 0
leads-longer [] b h = absurd (omega arith)
leads-longer (c ∷ bs) b h = h

digits-lead : (most n : ℕ) → 1 ≤ n → n < 10 ^ suc most → 49 ≤ get_or (last_digits 10 (places_within most n) n) 0 0
unfolding places_within
digits-lead zero n some h = omega (arith, glyph-digit n)
digits-lead (suc most) n some h =
    go (dec_lt n 10) (λ tenth. digits-lead most (n / 10) tenth (omega (arith, pow-suc 10 (suc most))))
  where
    go : Dec (n < 10) → (1 ≤ n / 10 → 49 ≤ get_or (last_digits 10 (places_within most (n / 10)) (n / 10)) 0 0)
        → 49 ≤ get_or (last_digits 10 (cond (ltb n 10) 1 (suc (places_within most (n / 10)))) n) 0 0
    go (yes l) shorter = rw (lt-ltb n 10 l) (omega (arith, glyph-digit n))
    go (no g) shorter =
        rw (le-ltb n 10 (omega arith))
        (leads-longer (last_digits 10 (places_within most (n / 10)) (n / 10)) (hex_digit_ascii (n % 10)) (shorter (omega arith)))

pub decimal-leads : (n : ℕ) → 1 ≤ n → n < 2 ^ 64 → 49 ≤ get_or (decimal n) 0 0
decimal-leads n some h = digits-lead 19 n some (omega arith)

-- ---- the numbers of a text

-- the numbers that bs shows; `inside` says that bs starts behind digits, which say n
abbrev shown_on : Bool → ℕ → List ℕ → List ℕ
shown_on inside n [] = cond inside (n ∷ []) []
shown_on inside n (b ∷ bs) =
    cond (leb 48 b && leb b 57) (shown_on true (10 * n + (b - 48)) bs)
    (cond inside (n ∷ shown_on false 0 bs) (shown_on false 0 bs))

-- every run of digits is a number; all other bytes stand between
abbrev pub shown : List ℕ → List ℕ
shown text = shown_on false 0 text

digits-shown : (n : ℕ) (ds : List ℕ) (u : List ℕ) (c : ℕ) → AllDigits ds → c < 48
    → shown_on true n (ds ++ c ∷ u) ≡ read_on n ds ∷ shown u
digits-shown n [] u c all below = rw (lt-leb 48 c below)
digits-shown n (d ∷ ds) u c all below =
    rw (le-leb 48 d all.0, le-leb d 57 all.1) (digits-shown (10 * n + (d - 48)) ds u c all.2 below)

number-shown : (ds : List ℕ) (u : List ℕ) (c : ℕ) → AllDigits ds → 1 ≤ length ds → c < 48
    → shown (ds ++ c ∷ u) ≡ read_on 0 ds ∷ shown u
number-shown [] u c all some below = absurd (omega arith)
number-shown (d ∷ ds) u c all some below =
    rw (le-leb 48 d all.0, le-leb d 57 all.1) (digits-shown (10 * 0 + (d - 48)) ds u c all.2 below)

places-some : (most n : ℕ) → 1 ≤ places_within most n
unfolding places_within
places-some zero n = omega arith
places-some (suc most) n = go (ltb n 10)
  where
    go : (b : Bool) → 1 ≤ cond b 1 (suc (places_within most (n / 10)))
    go true = omega arith
    go false = omega arith

pub shown-decimal : (n : ℕ) (u : List ℕ) (c : ℕ) → n < 2 ^ 64 → c < 48 → shown (decimal n ++ c ∷ u) ≡ n ∷ shown u
shown-decimal n u c h below =
    number-shown (decimal n) u c (all_digits (places n) n)
    (omega (arith, digits-length 10 (places n) n, places-some 19 n)) below
    ∙ ap (λ (k : ℕ). k ∷ shown u) (decimal-read n (omega arith))
