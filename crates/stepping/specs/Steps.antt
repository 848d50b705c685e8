-- The two steps that call each other: what they are given, and what their answers mean.
--     hits_of              the hits so far, by kind and side
--     Given               the matches as they are lent
--     OpenWith, Opened    what holds between two steps, with these marks and with some
--     AllCuts, Going, Goes     all is carried; what an answer of the two steps means, and what a step does
-- Assumes nothing.
use Rattle.std.specs.Prelude.{ℕ, ◌≤◌, ◌<◌, ◌≡◌, Bool, false, ◌↔◌, List, length, replicate, Result, Ok, Err}
use Rattle.refinement.specs.declared.Side.{Side}
use Rattle.refinement.specs.declared.Side.TheVariants.{A, B}
use Rattle.refinement.specs.Match.{Place, on_side}
use Rattle.refining.specs.Columns.{Columns, count_of, Fit}
use Rattle.refining.specs.Refining.{least_of}
use Rattle.refining.specs.Demands.{EveryExceeds}
use Rattle.shelf.specs.Shelf.{Shelf, Shelved}
use Rattle.tracks.specs.Tracks.{Tracked, SideCut, given_in, Kind}
use Rattle.tracks.specs.Engine.{books_of, Open, unused}
use Rattle.tracks.specs.Groups.{Groups, grouped}
use Rattle.carrying_group.specs.declared.TooMany.{TooMany}
use Rattle.carrying_lane.specs.Parts.{UsableParts}
use Rattle.stepping.specs.declared.Counts.{Counts}
use Rattle.stepping.specs.declared.Closing.{Closing}
use Rattle.taking.specs.Taking.{of_kind}

abbrev pub hits_of : Counts → Kind → Side → ℕ
hits_of c w u = of_kind w (on_side u c.over_a c.over_b) (on_side u c.along_a c.along_b)

-- the matches as the steps are lent them, with the indexes of their groups
pub record Given (c : Columns) (straight : List Bool) (ia ib gs : List ℕ) (g n : ℕ) : Type 0 where
  pub fit : Fit c
  pub few : count_of c ≤ 4294967296
  pub straight_is : straight ≡ replicate (count_of c) false
  pub groups : Groups gs g (count_of c) n
  pub on_a : UsableParts ia gs g c.from_lefts c.from_rights
  pub on_b : UsableParts ib gs g c.to_lefts c.to_rights

-- between two steps, the marks being those from which the closure began
abbrev pub OpenWith : Columns → List ℕ → ℕ → List Place → ℕ → ℕ → List ℕ → List ℕ → List ℕ → Counts → Side → Type 0
OpenWith c gs g marks n cap xs a b counts s = Open (grouped c gs g marks) n cap xs (books_of a b) (hits_of counts) s

-- with some marks
abbrev pub Opened : Columns → List ℕ → ℕ → ℕ → ℕ → List ℕ → List ℕ → List ℕ → Counts → Side → Type 0
Opened c gs g n cap xs a b counts s = (marks : List Place) × OpenWith c gs g marks n cap xs a b counts s

-- the sets of each side hold just the cuts that lie on it, and the least table has room
pub record AllCuts (t : Tracked) (n cap : ℕ) (ys : List ℕ) (books : Side → List ℕ) : Type 0 where
  pub shelf : (u : Side) → (lo : ℕ) × (hi : ℕ) × Shelf ys (books u) n lo hi
  pub cuts : (u : Side) (p : Place) → Shelved ys (books u) n p ↔ SideCut t u p
  pub fits : length (least_of (given_in t)) ≤ cap

-- after steps that began with `free` unused places: all is carried; or a step is due, with fewer of them
abbrev pub Going : Columns → List ℕ → ℕ → List Place → ℕ → ℕ → ℕ → List ℕ → List ℕ → List ℕ → Result Closing TooMany → Type 0
Going c gs g marks n cap free ys a b (Ok Closing.Done) = AllCuts (grouped c gs g marks) n cap ys (books_of a b)
Going c gs g marks n cap free ys a b (Ok (Closing.MoreA k)) =
    OpenWith c gs g marks n cap ys a b k A × (unused (books_of a b) n cap < free)
Going c gs g marks n cap free ys a b (Ok (Closing.MoreB k)) =
    OpenWith c gs g marks n cap ys a b k B × (unused (books_of a b) n cap < free)
Going c gs g marks n cap free ys a b (Err none) = EveryExceeds (given_in (grouped c gs g marks)) cap

-- a step of the side s, and those that follow it: whatever the marks are that hold before it
abbrev pub Goes :
    Columns → List ℕ → ℕ → ℕ → ℕ → List ℕ → List ℕ → List ℕ → Counts → Side → List ℕ → List ℕ → List ℕ → Result Closing TooMany → Type 0
Goes c gs g n cap xs a b counts s ys a' b' r =
    (marks : List Place) → OpenWith c gs g marks n cap xs a b counts s
    → Going c gs g marks n cap (unused (books_of a b) n cap) ys a' b' r
