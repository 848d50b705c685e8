-- Taking the newly found cuts of all sets of one side along a lane, group by group.
--     OneOfTwo            a number of a group that tells a track
--     ClearBook           the sets that are taken from are gathered, and stand outside of the shelf's places
--     place_in             where the part of an index begins that is for the matches from an index on
--     UsableParts         an index of the matches of each group, or none
--     EndsKept            the ends of all matches are members of the sets that the lane takes to
--     Laning              what taking does, by its answer
-- Assumes nothing.
use Rattle.std.specs.Prelude.{ℕ, suc, ◌*◌, ◌≤◌, ◌<◌, ◌≡◌, cond, List, length, ltb, Result, Ok, Err}
use Rattle.refining.specs.Columns.{count_of, to_at, to_right_at}
use Rattle.arrangement.specs.Index.{index_room}
use Rattle.carrying_match.specs.OneMatch.{EndsIn}
use Rattle.turning.specs.Turning.{Usable}
use Rattle.shelf.specs.Shelf.{set_at}
use Rattle.carrying_group.specs.Group.{Clear}
use Rattle.carrying_group.specs.declared.TooMany.{TooMany}
use Rattle.tracks.specs.Tracks.{Lane}
use Rattle.tracks.specs.Groups.{start_at, part, Takes, TakesNot}

pub record OneOfTwo (at : ℕ) : Type 0 where
  pub from : 1 ≤ at
  pub to : at ≤ 2

pub record ClearBook (xs fb : List ℕ) (n lo hi : ℕ) : Type 0 where
  pub book : length fb ≡ 8 * n
  pub each : (j : ℕ) → j < n → Clear xs (set_at fb j) lo hi

-- of an index of so many places: an index of k matches takes so many, and none is used where there is none
abbrev pub place_in : ℕ → ℕ → ℕ
place_in places k = cond (ltb 0 places) (index_room k) 0

-- each group of n has its own index, behind those of the groups before it
pub record UsableParts (is gs : List ℕ) (n : ℕ) (f g : List ℕ) : Type 0 where
  pub order : (a : ℕ) → a < n → place_in (length is) (start_at gs a) ≤ place_in (length is) (start_at gs (suc a))
  pub within : (a : ℕ) → a < n → place_in (length is) (start_at gs (suc a)) ≤ length is
  pub usable :
      (a : ℕ) → a < n
      → Usable (part (place_in (length is) (start_at gs a)) (place_in (length is) (start_at gs (suc a))) is)
      (part (start_at gs a) (start_at gs (suc a)) f) (part (start_at gs a) (start_at gs (suc a)) g)

abbrev pub EndsKept : Lane → List ℕ → List ℕ → Type 0
EndsKept l xs b =
    (k : ℕ) → k < count_of l.columns → EndsIn xs (set_at b (l.to k)) (to_at l.columns k) (to_right_at l.columns k)

abbrev pub Laning :
    Lane → List ℕ → ℕ → ℕ → ℕ → List ℕ → List ℕ → ℕ → ℕ → List ℕ → List ℕ → Result ℕ TooMany → Type 0
Laning l fb n lo hi xs b hits most ys b' (Ok hits') =
    Takes l (count_of l.columns) fb n lo hi xs b hits most ys b' hits'
Laning l fb n lo hi xs b hits most ys b' (Err none) =
    TakesNot l (count_of l.columns) fb n lo hi xs b hits most
