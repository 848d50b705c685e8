-- Between two steps: what the sets of cuts hold. Each side has a shelf of sets, one for each track, in its half of the
-- work buffer. A step takes the newly found cuts of its side over the matches and along them to the other side; what is
-- finished has been taken. (A worklist: finished and newly found are done and pending.)
--     FitTracks           the columns fit, and each match names tracks that have a set
--     books_of             the books of the two shelves, by side
--     half_from, half_to    the places of a side's shelf
--     Counted             the cuts taken from a side, each once, and the hits of both kinds of lanes
--     Open                all that holds between two steps, s being the side whose newly found cuts are next
--     finished_in, unused  the places that hold a finished cut; those that hold none, which fall with each step
--     Taken               what a whole step does
-- Assumes nothing.
use Rattle.std.specs.Prelude.{ℕ, zero, suc, ◌+◌, ◌-◌, ◌*◌, ◌≤◌, ◌<◌, ◌≡◌, ◌↔◌, List}
use Rattle.refinement.specs.declared.Side.{Side}
use Rattle.refinement.specs.declared.Side.TheVariants.{A, B}
use Rattle.refinement.specs.Order.{◌∈◌, Distinct}
use Rattle.refinement.specs.Match.{Place, other}
use Rattle.cut_set.specs.Store.{Member, Finished, Found, NothingFound, NothingAdded, found_in}
use Rattle.refining.specs.Columns.{Fit, from_at, from_right_at}
use Rattle.carrying_match.specs.OneMatch.{EndsIn}
use Rattle.shelf.specs.Shelf.{set_at, Shelf, Shelved, Grown, filled}
use Rattle.tracks.specs.Tracks.{Tracked, match_count, On, SideCut, Kind, lane, LaneImage, lane_hits}

pub record FitTracks (t : Tracked) (n : ℕ) : Type 0 where
  pub fit : Fit t.columns
  pub named : (u : Side) (k : ℕ) → k < match_count t → t.tracks u k < n

abbrev pub books_of : List ℕ → List ℕ → Side → List ℕ
books_of a b A = a
books_of a b B = b

-- the first half of 4 * cap places is for the cuts of A, the second one for those of B
abbrev pub half_from : Side → ℕ → ℕ
half_from A cap = 0
half_from B cap = 2 * cap

abbrev pub half_to : Side → ℕ → ℕ
half_to A cap = 2 * cap
half_to B cap = 4 * cap

-- what is finished in the sets of the side u, each number once, and the hits of it
pub record Counted (t : Tracked) (n : ℕ) (xs b : List ℕ) (u : Side) (hits : Kind → ℕ) : Type 0 where
  pub carried : ℕ → List ℕ
  pub once : (j : ℕ) → j < n → Distinct (carried j)
  pub finished : (j : ℕ) → j < n → (x : ℕ) → (x ∈ carried j) ↔ Finished xs (set_at b j) x
  pub hits_are : (w : Kind) → hits w ≡ lane_hits (lane w t u) (match_count t) carried

pub record Open (t : Tracked) (n cap : ℕ) (xs : List ℕ) (books : Side → List ℕ) (hits : Kind → Side → ℕ) (s : Side)
    : Type 0 where
  pub shelf : (u : Side) → Shelf xs (books u) n (half_from u cap) (half_to u cap)
  -- only cuts are kept, and only on a side on which some match has them
  pub sound : (u : Side) (p : Place) → Shelved xs (books u) n p → SideCut t u p
  -- the ends on A are kept, and the marks that a match spans
  pub ended :
      (k : ℕ) → k < match_count t
      → EndsIn xs (set_at (books A) (t.tracks A k)) (from_at t.columns k) (from_right_at t.columns k)
  pub marked :
      (u : Side) (k : ℕ) (p : Place) → p ∈ t.marks → On t u k p → Member xs (set_at (books u) p.track) p.position
  -- what is finished was taken to the other side
  pub taken :
      (w : Kind) (u : Side) (j y : ℕ)
      → LaneImage (lane w t u) (match_count t) (λ i x. Finished xs (set_at (books u) i) x) j y
      → Member xs (set_at (books (other u)) j) y
  -- where nothing new is left on the side that is next, nothing is left at all: on the other side only marks can be new,
  -- and only before the first step
  pub settled :
      ((j : ℕ) → j < n → NothingFound (set_at (books s) j)) → (j : ℕ) → j < n → NothingFound (set_at (books (other s)) j)
  pub gathered : (u : Side) (j : ℕ) → j < n → NothingAdded (set_at (books u) j)
  pub counted : (u : Side) → Counted t n xs (books u) u (λ w. hits w u)
  pub few : (w : Kind) (u : Side) → hits w u ≤ cap + match_count t

-- of the first n sets
abbrev pub finished_in : List ℕ → ℕ → ℕ
finished_in b zero = 0
finished_in b (suc j) = finished_in b j + ((set_at b j).done - (set_at b j).base)

abbrev pub unused : (Side → List ℕ) → ℕ → ℕ → ℕ
unused books n cap = 4 * cap - (finished_in (books A) n + finished_in (books B) n)

-- a step of the side s: its newly found cuts are taken to the other side by both kinds of lanes, and are finished
pub record Taken (t : Tracked) (n cap : ℕ) (xs : List ℕ) (books : Side → List ℕ) (hits : Kind → Side → ℕ) (s : Side)
    (ys : List ℕ) (books' : Side → List ℕ) (hits' : Kind → Side → ℕ) : Type 0 where
  pub shelf : (u : Side) → Shelf ys (books' u) n (half_from u cap) (half_to u cap)
  pub members :
      (j : ℕ) → j < n → (y : ℕ) → Member ys (set_at (books' s) j) y ↔ Member xs (set_at (books s) j) y
  pub all : (j : ℕ) → j < n → NothingFound (set_at (books' s) j)
  pub filled_same : filled (books' s) n ≡ filled (books s) n
  pub grown :
      (j : ℕ) → j < n
      → Grown
      (λ y. (w : Kind) × LaneImage (lane w t s) (match_count t) (λ i x. Found xs (set_at (books s) i) x) j y) xs
      (set_at (books (other s)) j) ys (set_at (books' (other s)) j)
  pub ready : (j : ℕ) → j < n → NothingAdded (set_at (books' (other s)) j)
  pub counted :
      (w : Kind) → hits' w s ≡ hits w s + lane_hits (lane w t s) (match_count t) (λ i. found_in xs (set_at (books s) i))
  pub counted_other : (w : Kind) → hits' w (other s) ≡ hits w (other s)
  pub few : (w : Kind) → hits' w s ≤ cap + match_count t
