-- What is done to all sets of a shelf. TO READ: contracts mean what stands here.
--     AllGathered             to no set was anything added since it was gathered
--     GatheredSets            every set is gathered
--     FinishedSets            every set has the same members, all of them finished
--     SomeFound, AnyFound     a set with newly found members; whether there is one
--     Layable, LaidOut        there are places for a shelf; a shelf of empty sets
-- Assumes nothing.
use Rattle.std.specs.Prelude.{ℕ, ◌-◌, ◌*◌, ◌≤◌, ◌<◌, ◌≡◌, Bool, true, false, List, ◌↔◌, length}
use Rattle.cut_set.specs.Store.{Member, NothingAdded, NothingFound}
use Rattle.shelf.specs.Shelf.{set_at, Outside, Shelf, filled, GrownShelf}

-- nothing was added to any of the first n sets since it was gathered
pub record AllGathered (b : List ℕ) (n : ℕ) : Type 0 where
  pub each : (j : ℕ) → j < n → NothingAdded (set_at b j)

-- no member has come or gone, and every set is gathered
pub record GatheredSets (n lo hi : ℕ) (xs b ys b' : List ℕ) : Type 0 where
  pub grown : GrownShelf (λ i y. ⊥) n lo hi xs b ys b'
  pub ready : AllGathered b' n

-- the members are the same, in as many places of each set, and all are finished
pub record FinishedSets (n lo hi : ℕ) (xs b ys b' : List ℕ) : Type 0 where
  pub shelf : Shelf ys b' n lo hi
  pub members : (j : ℕ) → j < n → (y : ℕ) → Member ys (set_at b' j) y ↔ Member xs (set_at b j) y
  pub none : (j : ℕ) → j < n → NothingFound (set_at b' j)
  pub sizes : (j : ℕ) → j < n → (set_at b' j).used - (set_at b' j).base ≡ (set_at b j).used - (set_at b j).base
  pub filled_same : filled b' n ≡ filled b n
  pub outside : Outside lo hi xs ys

-- one of the first n sets has newly found members
pub record SomeFound (b : List ℕ) (n : ℕ) : Type 0 where
  pub set : ℕ
  pub within : set < n
  pub found : NothingFound (set_at b set) → ⊥

-- the answer r is whether one of them has
pub record AnyFound (b : List ℕ) (n : ℕ) (r : Bool) : Type 0 where
  pub when : r ≡ true → SomeFound b n
  pub unless : r ≡ false → (j : ℕ) → j < n → NothingFound (set_at b j)

-- a book for n sets, and places that are in the list
pub record Layable (xs b : List ℕ) (n lo hi : ℕ) : Type 0 where
  pub book : length b ≡ 8 * n
  pub part : lo ≤ hi
  pub within : hi ≤ length xs

-- n sets in these places, none of which has a member
pub record LaidOut (n lo hi : ℕ) (xs b : List ℕ) : Type 0 where
  pub shelf : Shelf xs b n lo hi
  pub none_done : (j : ℕ) → j < n → (set_at b j).done ≡ (set_at b j).base
  pub none_used : (j : ℕ) → j < n → (set_at b j).used ≡ (set_at b j).base
