-- One step, told without A and B: the newly found cuts of the sets of one side are taken to the sets of the other, and
-- are finished.
--     lane_to              the lanes from the side whose columns stand first
--     of_kind              of two numbers, one for each kind of lane, the one for the kind
--     Halves              the places of two shelves, which have none in common
--     Able                what a step is given
--     Image               what the lanes take a newly found number to
--     Both, BothNot       what taking cuts by both kinds of lanes does, where there is room and where there is none
--     Stepped             what a whole step does
--     TakingBoth, Stepping     the same, by the answer
-- Assumes nothing.
use Rattle.std.specs.Prelude.{ℕ, ◌+◌, ◌-◌, ◌≤◌, ◌<◌, ◌≡◌, false, ◌↔◌, ◌⊎◌, List, replicate, Result, Ok, Err}
use Rattle.cut_set.specs.Store.{Member, Found, NothingFound, NothingAdded, found_in}
use Rattle.refining.specs.Columns.{Columns, columns_of, count_of}
use Rattle.shelf.specs.Shelf.{set_at, Shelf, Shelved, Grown, GrownShelf, Jammed, filled}
use Rattle.tracks.specs.Tracks.{Kind, over, along, Lane, LaneImage, lane_hits}
use Rattle.tracks.specs.Groups.{Groups, lane_by}
use Rattle.shelving.specs.AllSets.{AllGathered}
use Rattle.carrying_lane.specs.Parts.{OneOfTwo}
use Rattle.carrying_group.specs.declared.TooMany.{TooMany}
use Rattle.taking.specs.declared.Taken.{Taken}

-- over the matches from the tracks fa to the tracks ta; and along them, on the side that is taken to
abbrev pub lane_to : Kind → Columns → List ℕ → ℕ → ℕ → ℕ → Lane
lane_to over c gs n fa ta = lane_by c gs n fa ta
lane_to along c gs n fa ta =
    lane_by (columns_of c.to_lefts c.to_rights c.to_lefts c.to_rights (replicate (count_of c) false)) gs n ta ta

abbrev pub of_kind : Kind → ℕ → ℕ → ℕ
of_kind over a b = a
of_kind along a b = b

pub data Halves (flo fhi lo hi : ℕ) : Type 0 where
  before : fhi ≤ lo → Halves flo fhi lo hi
  behind : hi ≤ flo → Halves flo fhi lo hi

-- what a step is given: groups, the two shelves, and the hits so far
pub record Able (gs : List ℕ) (g m n fa ta flo fhi lo hi : ℕ) (xs fb b : List ℕ) (o a most : ℕ) : Type 0 where
  pub groups : Groups gs g m n
  pub from_one : OneOfTwo fa
  pub to_one : OneOfTwo ta
  pub from_shelf : Shelf xs fb n flo fhi
  pub gathered : AllGathered fb n
  pub shelf : Shelf xs b n lo hi
  pub halves : Halves flo fhi lo hi
  pub few_over : o ≤ most
  pub few_along : a ≤ most

-- what the lanes take to y in the set number j
abbrev pub Image : (Kind → Lane) → ℕ → List ℕ → List ℕ → ℕ → ℕ → Type 0
Image l m xs fb j y = (w : Kind) × LaneImage (l w) m (λ i x. Found xs (set_at fb i) x) j y

pub record Both (l : Kind → Lane) (m : ℕ) (fb : List ℕ) (n lo hi : ℕ) (xs b : List ℕ) (hits : Kind → ℕ) (most : ℕ)
    (ys b' : List ℕ) (hits' : Kind → ℕ) : Type 0 where
  pub grown : GrownShelf (Image l m xs fb) n lo hi xs b ys b'
  pub counted : (w : Kind) → hits' w ≡ hits w + lane_hits (l w) m (λ i. found_in xs (set_at fb i))
  pub few : (w : Kind) → hits' w ≤ most

pub data BothNot (l : Kind → Lane) (m : ℕ) (fb : List ℕ) (n lo hi : ℕ) (xs b : List ℕ) (hits : Kind → ℕ) (most : ℕ)
    : Type 0 where
  excess : (w : Kind) → most < hits w + lane_hits (l w) m (λ i. found_in xs (set_at fb i)) → BothNot l m fb n lo hi xs b hits most
  jammed :
      Jammed (λ p. Shelved xs b n p ⊎ Image l m xs fb p.track p.position) (hi - lo)
      → BothNot l m fb n lo hi xs b hits most

-- a whole step: what is taken stands gathered in the sets b', and the sets fb' are finished
pub record Stepped (l : Kind → Lane) (m n flo fhi lo hi : ℕ) (xs fb b : List ℕ) (hits : Kind → ℕ) (most : ℕ)
    (ys fb' b' : List ℕ) (hits' : Kind → ℕ) : Type 0 where
  pub from_shelf : Shelf ys fb' n flo fhi
  pub members : (j : ℕ) → j < n → (y : ℕ) → Member ys (set_at fb' j) y ↔ Member xs (set_at fb j) y
  pub all : (j : ℕ) → j < n → NothingFound (set_at fb' j)
  pub filled_same : filled fb' n ≡ filled fb n
  pub shelf : Shelf ys b' n lo hi
  pub grown : (j : ℕ) → j < n → Grown (Image l m xs fb j) xs (set_at b j) ys (set_at b' j)
  pub ready : (j : ℕ) → j < n → NothingAdded (set_at b' j)
  pub counted : (w : Kind) → hits' w ≡ hits w + lane_hits (l w) m (λ i. found_in xs (set_at fb i))
  pub few : (w : Kind) → hits' w ≤ most

-- by the answer of what takes by both lanes, and of a step
abbrev pub TakingBoth :
    (Kind → Lane) → ℕ → List ℕ → ℕ → ℕ → ℕ → List ℕ → List ℕ → ℕ → ℕ → ℕ → List ℕ → List ℕ → Result Taken TooMany → Type 0
TakingBoth l m fb n lo hi xs b o a most ys b' (Ok taken) =
    Both l m fb n lo hi xs b (λ w. of_kind w o a) most ys b' (λ w. of_kind w taken.over taken.along)
TakingBoth l m fb n lo hi xs b o a most ys b' (Err none) =
    BothNot l m fb n lo hi xs b (λ w. of_kind w o a) most

abbrev pub Stepping :
    (Kind → Lane) → ℕ → ℕ → ℕ → ℕ → ℕ → ℕ → List ℕ → List ℕ → List ℕ → ℕ → ℕ → ℕ → List ℕ → List ℕ → List ℕ → Result Taken TooMany → Type 0
Stepping l m n flo fhi lo hi xs fb b o a most ys fb' b' (Ok taken) =
    Stepped l m n flo fhi lo hi xs fb b (λ w. of_kind w o a) most ys fb' b' (λ w. of_kind w taken.over taken.along)
Stepping l m n flo fhi lo hi xs fb b o a most ys fb' b' (Err none) =
    BothNot l m fb n lo hi xs b (λ w. of_kind w o a) most
