-- The loop that works out the right ends of one match after the other. The lengths stand in the front of the column on
-- B, where each gives way to the right end of its match.
--     Worked          of either side's column: the first k are left plus length
--     BothWorked      so it is of both columns, and from k on that on B has the lengths yet
-- Assumes nothing.
use Prim.Native.Nat.{ℕ, ◌+◌, ◌≤◌, ◌<◌}
use mathlib.Core.Path.{◌≡◌}
use mathlib.Core.List.{List}
use lib.ListN.{length, get_or, take}

pub record Worked (f d before g : List ℕ) (n k : ℕ) : Type 0 where
  pub to : k ≤ n
  pub for_each : n ≡ length f
  pub room : n ≤ length before
  pub long : length g ≡ length before
  pub so_far : (j : ℕ) → j < k → get_or g j 0 ≡ get_or f j 0 + get_or d j 0

-- the lengths, one for each left end, in the front of a column
abbrev front : List ℕ → List ℕ → List ℕ
front f column = take (length f) column

-- both columns, with left ends f on A and t on B, and lengths that stand in the front of the column on B
pub record BothWorked (f t before-a before-b a b : List ℕ) (k : ℕ) : Type 0 where
  pub on_a : Worked f (front f before-b) before-a a (length f) k
  pub on_b : Worked t (front f before-b) before-b b (length f) k
  pub yet : (j : ℕ) → k ≤ j → j < length f → get_or b j 0 ≡ get_or (front f before-b) j 0
