-- One group of a lane. No contract of the crates above cites this file.
--     GroupAt             a group, as the groups hold it
--     Ready               what taking along a lane needs of its groups and of the sets
--     Ranged              the matches of a group are there, and so is their index
-- Assumes nothing.
use Rattle.std.specs.Prelude.{ℕ, suc, ◌≤◌, ◌≡◌, List, length}
use Rattle.refining.specs.Columns.{Columns, count_of, Fit}
use Rattle.turning.specs.Turning.{Usable}
use Rattle.shelf.specs.Shelf.{Shelf}
use Rattle.tracks.specs.Groups.{start_at, track_at, Groups, part}
use Rattle.carrying_lane.specs.Parts.{OneOfTwo, ClearBook, UsableParts}
use Rattle.carrying_lane.specs.declared.Group.{Group}

-- r is the group g, which takes from the track of one number of the groups to that of another
pub record GroupAt (gs : List ℕ) (g from_at to_at : ℕ) (r : Group) : Type 0 where
  pub start_is : r.start ≡ start_at gs g
  pub end_is : r.end ≡ start_at gs (suc g)
  pub from_is : r.from ≡ track_at gs from_at g
  pub to_is : r.to ≡ track_at gs to_at g

-- n groups of matches with their indices, in parts of `is` or none; the sets that are taken from, outside of the
-- shelf's places; and the shelf
pub record Ready (c : Columns) (is gs fb : List ℕ) (n from_at to_at sets lo hi : ℕ) (xs b : List ℕ) : Type 0 where
  pub fit : Fit c
  pub few : count_of c ≤ 4294967296
  pub usable : UsableParts is gs n c.from_lefts c.from_rights
  pub groups : Groups gs n (count_of c) sets
  pub clear : ClearBook xs fb sets lo hi
  pub shelf : Shelf xs b sets lo hi
  pub from_one : OneOfTwo from_at
  pub to_one : OneOfTwo to_at

-- the index of the group's matches stands in the places [low, high) of xs, or there is none
pub record Ranged (c : Columns) (xs : List ℕ) (g : Group) (low high : ℕ) : Type 0 where
  pub fit : Fit c
  pub order : g.start ≤ g.end
  pub within : g.end ≤ count_of c
  pub index_order : low ≤ high
  pub index_within : high ≤ length xs
  pub usable :
      Usable (part low high xs) (part g.start g.end c.from_lefts) (part g.start g.end c.from_rights)
