-- What taking the numbers of one run out of another does. Only the store of cuts builds on it.
--     Siftable      a run, and another behind it
--     Sifted        the second one has lost the numbers of the first, and no other
--     Counted       1 for a number that is kept, and else 0
-- Assumes nothing.
use Rattle.std.specs.Prelude.{ℕ, ◌≤◌, ◌<◌, ◌≡◌, Bool, true, false, List, ◌↔◌, get_or}
use Rattle.runs.specs.Runs.{In, Run, RisingIn}

pub record Siftable (xs : List ℕ) (lo hi at end : ℕ) : Type 0 where
  pub first : Run xs lo hi
  pub second : Run xs at end
  pub order : hi ≤ at

pub record Sifted (xs : List ℕ) (lo hi at end : ℕ) (ys : List ℕ) (r : ℕ) : Type 0 where
  pub from : at ≤ r
  pub to : r ≤ end
  pub rising : RisingIn ys at r
  pub same : (y : ℕ) → In ys at r y ↔ (In xs at end y × (In xs lo hi y → ⊥))
  pub before : (k : ℕ) → k < at → get_or ys k 0 ≡ get_or xs k 0
  pub behind : (k : ℕ) → end ≤ k → get_or ys k 0 ≡ get_or xs k 0

pub record Counted (known : Bool) (r : ℕ) : Type 0 where
  pub left_out : known ≡ true → r ≡ 0
  pub kept : known ≡ false → r ≡ 1
