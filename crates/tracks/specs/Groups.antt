-- Groups of matches that join the same two tracks, as a lent slice holds them: three numbers a group, the index of its
-- first match, its track on A and its track on B; and behind the last group the count of matches.
--     start_at gs g            the index of the first match of the group g
--     track_at gs at g         its track: at is 1 for A and 2 for B
--     tracks_of gs n at k      the track of the match at the index k, among the first n groups
--     Groups                  such a slice: the groups follow each other, and their tracks have a set
--     grouped                 the matches with the tracks of their groups, and marks
--     lane_by                  a lane that takes from the tracks of one number of the groups to those of another
--     part, part_of a e c      elements from the index a up to e; the columns of the matches from the index a up to e
--     Takes, TakesNot         what taking numbers along a lane does, where there is room and where there is none
-- Assumes nothing.
use Rattle.std.specs.Prelude.{ℕ, zero, suc, ◌+◌, ◌-◌, ◌*◌, ◌≤◌, ◌<◌, ◌≡◌, cond, ◌⊎◌, List, length, get_or, take, drop, ltb}
use Rattle.refinement.specs.declared.Side.{Side}
use Rattle.refinement.specs.declared.Side.TheVariants.{A, B}
use Rattle.refinement.specs.Match.{Place}
use Rattle.cut_set.specs.Store.{Found, found_in}
use Rattle.refining.specs.Columns.{Columns, columns_of}
use Rattle.shelf.specs.Shelf.{set_at, GrownShelf, Jammed, Shelved}
use Rattle.tracks.specs.Tracks.{Tracked, Lane, LaneImage, lane_hits}

abbrev pub start_at : List ℕ → ℕ → ℕ
start_at gs g = get_or gs (3 * g) 0

abbrev pub track_at : List ℕ → ℕ → ℕ → ℕ
track_at gs at g = get_or gs (3 * g + at) 0

abbrev pub tracks_of : List ℕ → ℕ → ℕ → ℕ → ℕ
tracks_of gs zero at k = 0
tracks_of gs (suc g) at k = cond (ltb k (start_at gs g)) (tracks_of gs g at k) (track_at gs at g)

pub record Groups (gs : List ℕ) (n count sets : ℕ) : Type 0 where
  pub room : 3 * n < length gs
  pub first : start_at gs 0 ≡ 0
  pub last : start_at gs n ≡ count
  pub rising : (g : ℕ) → g < n → start_at gs g ≤ start_at gs (suc g)
  pub on_a : (g : ℕ) → g < n → track_at gs 1 g < sets
  pub on_b : (g : ℕ) → g < n → track_at gs 2 g < sets

-- the number of a group that tells its track on a side
abbrev pub side_at : Side → ℕ
side_at A = 1
side_at B = 2

abbrev pub grouped : Columns → List ℕ → ℕ → List Place → Tracked
grouped c gs n marks = record {
  columns = c;
  tracks = λ u. tracks_of gs n (side_at u);
  marks = marks;
}

abbrev pub lane_by : Columns → List ℕ → ℕ → ℕ → ℕ → Lane
lane_by c gs n from_at to_at = record {
  columns = c;
  from = tracks_of gs n from_at;
  to = tracks_of gs n to_at;
}

-- the elements from the index a up to e
abbrev pub part : {T : Type 0} → ℕ → ℕ → List T → List T
part a e xs = take (e - a) (drop a xs)

abbrev pub part_of : ℕ → ℕ → Columns → Columns
part_of a e c =
    columns_of (part a e c.from_lefts) (part a e c.from_rights) (part a e c.to_lefts) (part a e c.to_rights)
    (part a e c.ways)

-- the newly found numbers of the sets of a book fb are taken along the lane of the first m matches, into the n sets of a
-- shelf, from a count of `hits` on
pub record Takes (l : Lane) (m : ℕ) (fb : List ℕ) (n lo hi : ℕ) (xs b : List ℕ) (hits most : ℕ) (ys b' : List ℕ) (hits' : ℕ)
    : Type 0 where
  pub grown : GrownShelf (λ j y. LaneImage l m (λ i x. Found xs (set_at fb i) x) j y) n lo hi xs b ys b'
  pub counted : hits' ≡ hits + lane_hits l m (λ i. found_in xs (set_at fb i))
  pub few : hits' ≤ most

-- more hits than allowed, or more numbers than there are places
abbrev pub TakesNot : Lane → ℕ → List ℕ → ℕ → ℕ → ℕ → List ℕ → List ℕ → ℕ → ℕ → Type 0
TakesNot l m fb n lo hi xs b hits most =
    (most < hits + lane_hits l m (λ i. found_in xs (set_at fb i)))
    ⊎ Jammed
    (λ p. Shelved xs b n p ⊎ LaneImage l m (λ i x. Found xs (set_at fb i) x) p.track p.position)
    (hi - lo)
