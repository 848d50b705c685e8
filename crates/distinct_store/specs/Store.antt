-- How the count of distinct pieces looks a piece up.
--     summed by r                       the piece's four numbers, each times its factor, added up
--     folded x                          the two halves of x joined, below 2^32
--     scattered x                       another number for each x, below 2^32 as x is
--     mixed by r                        the sum folded and scattered: what a piece is dealt by
--     spot by r                         the same, spread over the shares
--     share_of by r, home_of by r         the share, and the slot where looking for the piece starts
--     in_share by s r                    r is in share s
--     stored_at rs slots j               the row stored in slot j
--     Inside, Empty                     every number stored is a row's; nothing is stored
--     Held rs slots r                   a row of the same piece as r is stored
--     Kept by s rs k slots              the slots are a store of the pieces of share s among the first k rows of rs
--     Gap, Seeking                      what looking for a piece tells, by its answer
--     Entered, Enrolling                what a store is and knows after one more row of its share, by its answer
--     firsts_dealt by s rs k             how many pieces of share s have their first row among the first k rows of rs
--     Dealt                             between two rows of a pass: so many pieces counted, and the store kept
--     Sharing                           what the count of one share is, unless it was given up
-- A slot holds a row's number counted from 1, or 0 where it is free. From a row's home to its slot no slot is free.
-- Assumes nothing.
use Rattle.std.specs.Prelude.{◌≡◌, ℕ, ◌+◌, ◌-◌, ◌*◌, ◌/◌, ◌%◌, ◌^◌, ◌<◌, ◌≤◌, Bool, true, false, List, length, take, ◌==◌, bit_xor, slice_index, Result, Ok, Err}
use Rattle.rows.specs.Rows.{row_at}
use Rattle.table.specs.Distinct.{same, occurs, first_of_each}
use Rattle.table.specs.Summing.{count}
use Rattle.rows.specs.declared.Row.{Row}
use Rattle.distinct_store.specs.declared.Dealing.{Dealing}
use Rattle.distinct_store.specs.declared.Sought.{Sought}
use Rattle.distinct_store.specs.declared.Enrolled.{Enrolled}
use Rattle.distinct_store.specs.declared.Counted.{Counted}
use Rattle.distinct_store.specs.declared.GaveUp.{GaveUp}

-- the sum of a piece's four numbers, each times its factor
unfoldable pub summed : Dealing → Row → ℕ
summed by r =
    let lefts = (r.left_a * by.left_a + r.left_b * by.left_b) % 2 ^ 64 in
    let rest = (r.length * by.length + r.direction * by.direction) % 2 ^ 64 in
    (lefts + rest) % 2 ^ 64

-- the upper half on the lower one
unfoldable pub folded : ℕ → ℕ
folded x = bit_xor x (x / 2 ^ 32) % 2 ^ 32

-- the upper bits on the lower ones, before and after a multiplication
unfoldable pub scattered : ℕ → ℕ
scattered x =
    let y = bit_xor x (x / 2 ^ 15) * 0x9E37_79B1 % 2 ^ 32 in
    bit_xor y (y / 2 ^ 16) % 2 ^ 32

-- nothing is asked of it but that rows of the same piece have the same; the better it spreads, the less a search costs
unfoldable pub mixed : Dealing → Row → ℕ
mixed by r = scattered (folded (summed by r))

unfoldable pub spot : Dealing → Row → ℕ
spot by r = mixed by r * by.shares

abbrev pub share_of : Dealing → Row → ℕ
share_of by r = spot by r / 2 ^ 32

abbrev pub home_of : Dealing → Row → ℕ
home_of by r = spot by r % 2 ^ 32 * by.homes / 2 ^ 32

abbrev pub in_share : Dealing → ℕ → Row → Bool
in_share by share r = share_of by r == share

abbrev pub stored_at : List Row → List ℕ → ℕ → Row
stored_at rs slots j = row_at rs (slice_index slots j - 1)

pub record Inside (rs : List Row) (slots : List ℕ) : Type 0 where
  pub inside : (j : ℕ) → slice_index slots j ≤ length rs

pub record Empty (slots : List ℕ) : Type 0 where
  pub empty : (j : ℕ) → slice_index slots j ≡ 0

pub record Held (rs : List Row) (slots : List ℕ) (r : Row) : Type 0 where
  pub slot : ℕ
  pub taken : 0 < slice_index slots slot
  pub it : same (stored_at rs slots slot) r ≡ true

pub record Kept (by : Dealing) (share : ℕ) (rs : List Row) (k : ℕ) (slots : List ℕ) : Type 0 where
  pub earlier : (j : ℕ) → slice_index slots j ≤ k
  pub behind : (j : ℕ) → 0 < slice_index slots j → home_of by (stored_at rs slots j) ≤ j
  pub unbroken : (j i : ℕ) → 0 < slice_index slots j → home_of by (stored_at rs slots j) ≤ i → i ≤ j → 0 < slice_index slots i
  pub complete : (r : Row) → share_of by r ≡ share → occurs r (take k rs) ≡ true → Held rs slots r

-- slot `at` is the first free one from `from` on, and no slot between holds the piece
pub record Gap (rs : List Row) (slots : List ℕ) (from : ℕ) (r : Row) (at : ℕ) : Type 0 where
  pub within : at < length slots
  pub free : slice_index slots at ≡ 0
  pub start : from ≤ at
  pub taken : (i : ℕ) → from ≤ i → i < at → 0 < slice_index slots i
  pub others : (i : ℕ) → from ≤ i → i < at → same (stored_at rs slots i) r ≡ false

abbrev pub Seeking : List Row → List ℕ → ℕ → Row → Result Sought GaveUp → Type 0
Seeking rs slots from r (Ok (Sought.Known left)) = Held rs slots r
Seeking rs slots from r (Ok (Sought.Free at left)) = Gap rs slots from r at
Seeking rs slots from r (Err gave_up) = Unit {0}

pub record Entered (by : Dealing) (share : ℕ) (rs : List Row) (k : ℕ) (slots : List ℕ) (known : Bool) : Type 0 where
  pub told : occurs (row_at rs k) (take k rs) ≡ known
  pub kept : Kept by share rs (k + 1) slots

abbrev pub Enrolling : Dealing → ℕ → List Row → ℕ → List ℕ → Result Enrolled GaveUp → Type 0
Enrolling by share rs k slots (Ok (Enrolled.Known left)) = Entered by share rs k slots true
Enrolling by share rs k slots (Ok (Enrolled.Fresh left)) = Entered by share rs k slots false
Enrolling by share rs k slots (Err gave_up) = Unit {0}

abbrev pub firsts_dealt : Dealing → ℕ → List Row → ℕ → ℕ
firsts_dealt by share rs k = count (in_share by share) (first_of_each (take k rs))

pub record Dealt (by : Dealing) (share : ℕ) (rs : List Row) (slots : List ℕ) (found k : ℕ) : Type 0 where
  pub passed : k ≤ length rs
  pub counted : found ≡ firsts_dealt by share rs k
  pub kept : Kept by share rs k slots

abbrev pub Sharing : Dealing → ℕ → List Row → Result Counted GaveUp → Type 0
Sharing by share rs (Ok counted) = counted.found ≡ count (in_share by share) (first_of_each rs)
Sharing by share rs (Err gave_up) = Unit {0}
