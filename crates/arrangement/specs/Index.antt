-- An index of the n matches of a script by their ends on one side, in a list xs of numbers. No promise of a public call
-- depends on it: contracts of the closure only need that no match is left out or taken twice.
--     sum_to w n                     w of all numbers below n, added up
--     sum_at w xs n                  w of the first n numbers of xs, added up
--     Order xs n                     the first n numbers of xs are those below n, each once
--     blocks_of c, block_start b c   how many blocks of 16 there are of c numbers; where one begins, or the numbers end
--     starts_at n, ends_at n         where the left ends and the right ends of the matches begin, in their order
--     level_room c, index_room n     how many places a level of c numbers takes with those above it, and a whole index
--     EndsListed xs f g n            what stands there bounds the ends f and g of the matches
--     Covered xs at c                the level above that of the c numbers from place `at` on bounds them
--     Levels xs at c                 it does, and so do those above it, until a level is one block
--     Indexed xs f g                 xs begins with an index of the matches with the left ends f and the right ends g
-- Assumes nothing.
use Rattle.std.specs.Prelude.{ℕ, zero, suc, ◌+◌, ◌*◌, ◌/◌, ◌≤◌, ◌<◌, min, ◌≡◌, List, length, get_or}
use Rattle.runs.specs.Runs.{In}

abbrev pub sum_to : (ℕ → ℕ) → ℕ → ℕ
sum_to w zero = 0
sum_to w (suc k) = sum_to w k + w k

abbrev pub sum_at : (ℕ → ℕ) → List ℕ → ℕ → ℕ
sum_at w xs zero = 0
sum_at w xs (suc k) = sum_at w xs k + w (get_or xs k 0)

pub record Order (xs : List ℕ) (n : ℕ) : Type 0 where
  pub below : (k : ℕ) → k < n → get_or xs k 0 < n
  pub all : (m : ℕ) → m < n → In xs 0 n m
  pub sums : (w : ℕ → ℕ) → sum_at w xs n ≡ sum_to w n

abbrev pub blocks_of : ℕ → ℕ
blocks_of count = (count + 15) / 16

abbrev pub block_start : ℕ → ℕ → ℕ
block_start b count = min (b * 16) count

abbrev pub starts_at : ℕ → ℕ
starts_at n = n

abbrev pub ends_at : ℕ → ℕ
ends_at n = n + n

-- an eighth is more than a sixteenth of the numbers, a sixteenth of those, and so on
abbrev pub level_room : ℕ → ℕ
level_room count = count + count / 8

abbrev pub index_room : ℕ → ℕ
index_room n = n + n + level_room n

-- the number at place k of the left ends is no more than that of any match from there on, so that one look tells that
-- none of them begins early enough; that at place k of the right ends is no less than that of its match
pub record EndsListed (xs f g : List ℕ) (n : ℕ) : Type 0 where
  pub starts : (k j : ℕ) → k ≤ j → j < n → get_or xs (starts_at n + k) 0 ≤ get_or f (get_or xs j 0) 0
  pub ends : (k : ℕ) → k < n → get_or g (get_or xs k 0) 0 ≤ get_or xs (ends_at n + k) 0

-- the level above stands behind the numbers; number j is in block j / 16
abbrev pub Covered : List ℕ → ℕ → ℕ → Type 0
Covered xs at count = (j : ℕ) → j < count → get_or xs (at + j) 0 ≤ get_or xs (at + count + j / 16) 0

pub data Levels (xs : List ℕ) : ℕ → ℕ → Type 0 where
  top : {at count : ℕ} → count ≤ 16 → Levels xs at count
  above : {at count : ℕ} → Covered xs at count → Levels xs (at + count) (blocks_of count) → Levels xs at count

pub record Indexed (xs f g : List ℕ) : Type 0 where
  pub room : index_room (length f) ≤ length xs
  pub order : Order xs (length f)
  pub listed : EndsListed xs f g (length f)
  pub levels : Levels xs (ends_at (length f)) (length f)
