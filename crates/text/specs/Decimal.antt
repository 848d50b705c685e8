-- A number in decimal. TO READ: contracts mean what stands here.
--     places n      how many digits n has, one at least
--     decimal n     its digits, the most significant first, without leading zeros
-- Assumes nothing.
use Rattle.std.specs.Prelude.{ℕ, zero, suc, ◌/◌, cond, List, ltb}
use Rattle.io.specs.Digits.{last_digits}

-- The first number only makes the recursion end: 64 bits have 20 digits at most.
unfoldable pub places_within : ℕ → ℕ → ℕ
places_within zero n = 1
places_within (suc most) n = let rest = places_within most (n / 10) in cond (ltb n 10) 1 (suc rest)

abbrev pub places : ℕ → ℕ
places n = places_within 19 n

abbrev pub decimal : ℕ → List ℕ
decimal n = last_digits 10 (places n) n
