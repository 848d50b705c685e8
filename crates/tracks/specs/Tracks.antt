-- Matches that name the tracks that they join, and marks: what the closure is about, for any count of tracks. A cut of a
-- track is kept apart for each side on which some match has it: a match of a track with itself carries from the one set
-- to the other.
--     Tracked                  columns of matches, the tracks of each match, and marks
--     match_in, matches_in       the match at an index, numbered from 1, and all of them
--     given_in                  what is refined
--     mark_at, marks_of          the mark at an index of two columns, its track and its position, and all of them
--     On t u k p               the place p lies on the side u of the match at the index k
--     SideCut t u p            p is a cut, and lies on the side u of some match
--     Kind, lane               the two ways by which a cut of one side gets to the other: over the matches, which carry
--                              it; and along them, as it is, where the track is theirs on the other side
--     LaneImage                what a lane takes a number to, and into which set
--     lane_hits                 how many pairs of a match and a number that it spans there are
-- Assumes nothing.
use Rattle.std.specs.Prelude.{ℕ, zero, suc, ◌+◌, ◌<◌, ◌≡◌, false, List, map, length, get_or, replicate}
use Rattle.refinement.specs.declared.Side.{Side}
use Rattle.refinement.specs.declared.Side.TheVariants.{A, B}
use Rattle.refinement.specs.Match.{Match, Place, other, Spans}
use Rattle.refinement.specs.Cut.{Cut}
use Rattle.refining.specs.Columns.{Columns, columns_of, seen_from, lefts_on, rights_on, count_of, up_from}
use Rattle.refining.specs.Columns.{from_at, from_right_at, to_at, letters_at, way_at}
use Rattle.refining.specs.Refining.{Given}
use Rattle.carrying_match.specs.OneMatch.{hits_on}
use Rattle.carrying_cuts.specs.Worker.{Image}

pub record Tracked : Type 0 where
  pub columns : Columns
  -- the track of the match at an index, on a side
  pub tracks : Side → ℕ → ℕ
  pub marks : List Place

abbrev pub match_in : Tracked → ℕ → Match
match_in t k = record {
  number = suc k;
  track_a = t.tracks A k;
  left_a = from_at t.columns k;
  track_b = t.tracks B k;
  left_b = to_at t.columns k;
  length = letters_at t.columns k;
  reversed = way_at t.columns k;
}

abbrev pub match_count : Tracked → ℕ
match_count t = count_of t.columns

-- numbered from 1
unfoldable pub matches_in : Tracked → List Match
matches_in t = map (match_in t) (up_from 0 (match_count t))

abbrev pub given_in : Tracked → Given
given_in t = record { matches = matches_in t; marks = t.marks }

abbrev pub mark_at : List ℕ → List ℕ → ℕ → Place
mark_at ts ps q = record { track = get_or ts q 0; position = get_or ps q 0 }

unfoldable pub marks_of : List ℕ → List ℕ → List Place
marks_of ts ps = map (mark_at ts ps) (up_from 0 (length ts))

-- the place lies on the side u of the match at the index k
pub record On (t : Tracked) (u : Side) (k : ℕ) (p : Place) : Type 0 where
  pub below : k < match_count t
  pub track_is : t.tracks u k ≡ p.track
  pub spans : Spans (match_in t k) u p.position

-- a cut that lies on the side u of some match
pub record SideCut (t : Tracked) (u : Side) (p : Place) : Type 0 where
  pub cut : Cut (matches_in t) t.marks p
  pub index : ℕ
  pub on : On t u index p

-- from which set the match at an index takes numbers, to which it takes them, and where to
pub record Lane : Type 0 where
  pub columns : Columns
  pub from : ℕ → ℕ
  pub to : ℕ → ℕ

pub data Kind : Type 0 where
  over : Kind
  along : Kind

-- columns of matches that carry every position of the side v to itself
abbrev pub still : Side → Columns → Columns
still v c = columns_of (lefts_on v c) (rights_on v c) (lefts_on v c) (rights_on v c) (replicate (count_of c) false)

-- the sets of the side u are taken from
abbrev pub lane : Kind → Tracked → Side → Lane
lane over t u = record {
  columns = seen_from u t.columns;
  from = t.tracks u;
  to = t.tracks (other u);
}
lane along t u = record {
  columns = still (other u) t.columns;
  from = t.tracks (other u);
  to = t.tracks (other u);
}

-- what one of the first n matches takes a number to: y, into the set number j. D i x: x is to be taken from the set i.
pub record LaneImage (l : Lane) (n : ℕ) (D : ℕ → ℕ → Type 0) (j y : ℕ) : Type 0 where
  pub index : ℕ
  pub below : index < n
  pub to_is : l.to index ≡ j
  pub x : ℕ
  pub taken : D (l.from index) x
  pub image : Image l.columns index x y

-- over the first n matches, `f` being the numbers of each set
abbrev pub lane_hits : Lane → ℕ → (ℕ → List ℕ) → ℕ
lane_hits l zero f = 0
lane_hits l (suc k) f = lane_hits l k f + hits_on (from_at l.columns k) (from_right_at l.columns k) (f (l.from k))
