-- Stretches kept by their ends. Only the count of letters promises anything by it.
--     under lows highs h             more of these left ends than of these right ends lie before the letter behind h
--     Paired lows highs              both rise, and each right end is at its left end or behind
--     Nested lows highs              as many right ends as left ends, up to no letter more
--     Rooms lows highs               room for five stretches at least
--     Stored from to lows highs      the ends of stretches in the window from `from` to `to`
--     Held from lows highs store     the first ends of both lists are such, as many as the store has
--     under_store lows highs store h  the letter behind h is under what the store has
--     Apart lows highs n             the first n stretches lie one behind the other
--     United L H lows highs n        they do, and are L and H united
--     Roomier, Added                 what is stored after room was made, and after a stretch was added
--     Summed lows highs n            n letters are under the stretches
-- Assumes nothing.
use Rattle.std.specs.Prelude.{ℕ, ◌+◌, ◌≤◌, ◌<◌, Bool, false, ◌||◌, ◌≡◌, List, length, get_or, take, ltb}
use Rattle.table.specs.Tally.{within, tally}
use Rattle.sorted_numbers.specs.Ranks.{rank, Rises}
use Rattle.stretches.specs.declared.Stretch.{Stretch}
use Rattle.stretches.specs.declared.Store.{Store}

-- whichever left end belongs to which right end
abbrev pub under : List ℕ → List ℕ → ℕ → Bool
under lows highs h = ltb (rank h highs) (rank h lows)

pub record Paired (lows highs : List ℕ) : Type 0 where
  pub as_many : length highs ≡ length lows
  pub low_rises : Rises lows
  pub high_rises : Rises highs
  pub forward : (i : ℕ) → i < length lows → get_or lows i 0 ≤ get_or highs i 0

-- the same, in any order
pub record Nested (lows highs : List ℕ) : Type 0 where
  pub as_many : length highs ≡ length lows
  pub nested : (h : ℕ) → rank h highs ≤ rank h lows

pub record Rooms (lows highs : List ℕ) : Type 0 where
  pub some : 5 ≤ length lows
  pub as_many : length highs ≡ length lows

pub record Stored (from to : ℕ) (lows highs : List ℕ) : Type 0 where
  pub nested : (h : ℕ) → rank h highs ≤ rank h lows
  pub none_before : (h : ℕ) → h < from → rank h lows ≡ 0
  pub none_behind : (h : ℕ) → to ≤ h → under lows highs h ≡ false

pub record Held (from : ℕ) (lows highs : List ℕ) (store : Store) : Type 0 where
  pub room : store.used ≤ length lows
  pub as_many : length highs ≡ length lows
  pub onward : from < store.to
  pub stored : Stored from store.to (take store.used lows) (take store.used highs)

-- the letters under what a store has
abbrev pub under_store : List ℕ → List ℕ → Store → ℕ → Bool
under_store lows highs store h = under (take store.used lows) (take store.used highs) h

-- no two touch
pub record Apart (lows highs : List ℕ) (n : ℕ) : Type 0 where
  pub gap : (i : ℕ) → i + 1 < n → get_or highs i 0 < get_or lows (i + 1) 0
  pub forward : (i : ℕ) → i < n → get_or lows i 0 ≤ get_or highs i 0

pub record United (L H lows highs : List ℕ) (n : ℕ) : Type 0 where
  pub within : n ≤ length L
  pub apart : Apart lows highs n
  pub fewer : (h : ℕ) → rank h (take n lows) ≤ rank h L
  pub same : (h : ℕ) → under (take n lows) (take n highs) h ≡ under L H h

pub record Roomier (from to : ℕ) (L H lows highs : List ℕ) (store : Store) : Type 0 where
  pub room : store.used < length L
  pub onward : from < store.to
  pub shorter : store.to ≤ to
  pub stored : Stored from store.to (take store.used lows) (take store.used highs)
  pub same : (h : ℕ) → h < store.to → under_store lows highs store h ≡ under L H h

pub record Added (from : ℕ) (x : Stretch) (L H : List ℕ) (before : Store) (lows highs : List ℕ) (store : Store)
    : Type 0 where
  pub held : Held from lows highs store
  pub shorter : store.to ≤ before.to
  pub more : (h : ℕ) → from ≤ h → h < store.to
      → under_store lows highs store h ≡ (within x.low x.high h || under_store L H before h)

pub record Summed (lows highs : List ℕ) (n : ℕ) : Type 0 where
  pub summed : (last : ℕ) → ((h : ℕ) → last ≤ h → under lows highs h ≡ false) → n ≡ tally (under lows highs) last
