-- The tracks that groups of matches have on one side.
--     Naming              they have a flag each
--     Wanted              the flags of the first g groups' tracks are set
-- Assumes nothing.
use Rattle.std.specs.Prelude.{ℕ, ◌*◌, ◌≤◌, ◌<◌, ◌≡◌, Bool, true, false, List, length, get_or}
use Rattle.tracks.specs.Groups.{track_at}

-- the tracks of n groups gs, whose number at tells them
pub record Naming (gs : List ℕ) (n at sets : ℕ) : Type 0 where
  pub room : 3 * n < length gs
  pub at_to : at ≤ 2
  pub named : (g : ℕ) → g < n → track_at gs at g < sets

pub record Wanted (gs : List ℕ) (at g : ℕ) (ws : List Bool) : Type 0 where
  pub each : (k : ℕ) → k < g → get_or ws (track_at gs at k) false ≡ true
