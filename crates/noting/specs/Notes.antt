-- Notes of numbers in the places [top, limit) of a list, a bit for each. Only the store of cuts builds on it.
--     slot_of x places     the bit of x among those of so many places
--     Slot                r is that, in one of these places
--     Set word k          bit k of the number is set
--     Notes               places for notes
--     place_of, Noted      the place of x's bit; it is set
--     OnlyNotes           no place has changed but these
--     Noting P            besides, each number with P is noted, and what was noted is
--     NotedRun            the same for the numbers of a run
--     Remembered          the same if there are places for notes
-- Assumes nothing.
use Rattle.std.specs.Prelude.{ℕ, ◌+◌, ◌-◌, ◌*◌, ◌/◌, ◌%◌, ◌^◌, ◌≤◌, ◌<◌, ◌≡◌, List, ◌⊎◌, length, get_or}
use Rattle.runs.specs.Runs.{In}

abbrev pub slot_of : ℕ → ℕ → ℕ
slot_of x places = x % (places * 32)

pub record Slot (x places r : ℕ) : Type 0 where
  pub is : r ≡ slot_of x places
  pub place : r / 32 < places

abbrev pub Set : ℕ → ℕ → Type 0
Set word k = word / 2 ^ k % 2 ≡ 1

-- some places, and no more than there are bits for 32-bit numbers
pub record Notes (xs : List ℕ) (top limit : ℕ) : Type 0 where
  pub some : top < limit
  pub few : limit ≤ top + 134217728
  pub within : limit ≤ length xs

abbrev pub place_of : ℕ → ℕ → ℕ → ℕ
place_of top limit x = top + slot_of x (limit - top) / 32

abbrev pub Noted : List ℕ → ℕ → ℕ → ℕ → Type 0
Noted xs top limit x = Set (get_or xs (place_of top limit x) 0) (slot_of x (limit - top) % 32)

abbrev pub OnlyNotes : List ℕ → ℕ → ℕ → List ℕ → Type 0
OnlyNotes xs top limit ys = (k : ℕ) → (k < top) ⊎ (limit ≤ k) → get_or ys k 0 ≡ get_or xs k 0

pub record Noting (P : ℕ → Type 0) (xs : List ℕ) (top limit : ℕ) (ys : List ℕ) : Type 0 where
  pub only : OnlyNotes xs top limit ys
  pub now : (y : ℕ) → P y → Noted ys top limit y
  pub still : (y : ℕ) → Noted xs top limit y → Noted ys top limit y

abbrev pub NotedRun : List ℕ → ℕ → ℕ → ℕ → ℕ → List ℕ → Type 0
NotedRun xs lo hi top limit ys = Noting (In xs lo hi) xs top limit ys

pub record Remembered (xs : List ℕ) (lo hi top limit : ℕ) (ys : List ℕ) : Type 0 where
  pub only : OnlyNotes xs top limit ys
  pub noted : top < limit → NotedRun xs lo hi top limit ys
