-- What a step of a search does. No contract of the set cites this file: its readers may leave it out.
--     Stride                  how far a search goes on at a number
-- Assumes nothing.
use Rattle.std.specs.Prelude.{ℕ, ◌≤◌, ◌<◌, ◌≡◌}

-- r is half if v is less than x, and else 0
pub record Stride (v x half r : ℕ) : Type 0 where
  pub up : v < x → r ≡ half
  pub stay : x ≤ v → r ≡ 0
