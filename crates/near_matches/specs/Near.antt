-- Matches that lie away from a stretch of positions.
--     reaching      whether a match reaches into a stretch
--     Passable      matches that do not, and so need no look at each cut of the stretch
-- Assumes nothing.
use Rattle.std.specs.Prelude.{ℕ, ◌≤◌, ◌<◌, ◌≡◌, Bool, false, ◌&&◌, List, leb, length, get_or}

-- whether the match with the ends i and g has a position from lowest to highest
abbrev pub reaching : ℕ → ℕ → ℕ → ℕ → Bool
reaching i g lowest highest = leb i highest && leb lowest g

-- the matches from index k up to r do not
pub record Passable (f g : List ℕ) (lowest highest k r : ℕ) : Type 0 where
  pub from : k ≤ r
  pub to : r ≤ length f
  pub past : (j : ℕ) → k ≤ j → j < r → reaching (get_or f j 0) (get_or g j 0) lowest highest ≡ false
