-- An index of the matches of each group, one behind the other.
--     AnyGroups         groups of so many matches, whatever their tracks
--     IndexedPart       the index of the matches from one index up to another is made, and what stands before it is kept
-- Assumes nothing.
use Rattle.std.specs.Prelude.{ℕ, ◌≡◌, List, length, take}
use Rattle.arrangement.specs.Index.{index_room, Indexed}
use Rattle.tracks.specs.Groups.{Groups, part}

pub record AnyGroups (gs : List ℕ) (n count : ℕ) : Type 0 where
  pub sets : ℕ
  pub groups : Groups gs n count sets

-- it stands behind the places that an index of the matches before them takes
pub record IndexedPart (is : List ℕ) (start end : ℕ) (f g is' : List ℕ) : Type 0 where
  pub size : length is' ≡ length is
  pub before : take (index_room start) is' ≡ take (index_room start) is
  pub made : Indexed (part (index_room start) (index_room end) is') (part start end f) (part start end g)
