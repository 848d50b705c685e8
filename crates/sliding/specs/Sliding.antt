-- Sets of a shelf slide, step by step. No contract of the crates above cites this file.
--     Slidable                a shelf of gathered sets without notes
--     Slid                    sets may have moved, and are gathered and without notes
--     Bared                   one set was gathered, and dropped its notes
--     Between, MovedTo        a set can be moved between its neighbours; it has been
--     Packed                  the sets stand at the front, and end at r
--     Leaving                 how many free places a set leaves behind it
--     Spreadable, Spread      there are free places behind the last set; the set number j has got some
-- Assumes nothing.
use Rattle.std.specs.Prelude.{ℕ, ◌+◌, ◌-◌, ◌≤◌, ◌<◌, ◌≡◌, ◌≢◌, List}
use Rattle.shelf.specs.Shelf.{set_at, Shelf, GrownShelf, filled}
use Rattle.moving.specs.Moving.{Bare, placed}

-- such sets can be moved
pub record Slidable (xs b : List ℕ) (n lo hi : ℕ) : Type 0 where
  pub shelf : Shelf xs b n lo hi
  pub bare : (i : ℕ) → i < n → Bare (set_at b i)

-- every set has the members that it had
pub record Slid (n lo hi : ℕ) (xs b ys b' : List ℕ) : Type 0 where
  pub grown : GrownShelf (λ i y. ⊥) n lo hi xs b ys b'
  pub bare : (i : ℕ) → i < n → Bare (set_at b' i)

-- the set number u stands where it stood
pub record Bared (n lo hi u : ℕ) (xs b ys b' : List ℕ) : Type 0 where
  pub grown : GrownShelf (λ i y. ⊥) n lo hi xs b ys b'
  pub here : Bare (set_at b' u)
  pub others : (i : ℕ) → i ≢ u → set_at b' i ≡ set_at b i

-- the places [base, limit) are those of no other set, and the members of set number u fit there
pub record Between (b : List ℕ) (n lo hi u base limit : ℕ) : Type 0 where
  pub index : u < n
  pub from : lo ≤ base
  pub to : limit ≤ hi
  pub below : (i : ℕ) → i < u → (set_at b i).limit ≤ base
  pub above : (i : ℕ) → u < i → i < n → limit ≤ (set_at b i).base
  pub fits : base + ((set_at b u).used - (set_at b u).base) ≤ limit

-- the set number u stands there, and the others where they stood
pub record MovedTo (n lo hi u base limit : ℕ) (xs b ys b' : List ℕ) : Type 0 where
  pub slid : Slid n lo hi xs b ys b'
  pub here : set_at b' u ≡ placed (set_at b u) base limit
  pub others : (i : ℕ) → i ≢ u → set_at b' i ≡ set_at b i

-- no place before r is free
pub record Packed (n lo hi : ℕ) (xs b ys b' : List ℕ) (r : ℕ) : Type 0 where
  pub slid : Slid n lo hi xs b ys b'
  pub sum : r ≡ lo + filled b' n
  pub fits : r ≤ hi
  pub ends : (i : ℕ) → i < n → (set_at b' i).limit ≤ r

-- r of the free places behind the set number u stay there: for the set number j the reserve at least, which the sets
-- behind it leave
pub record Leaving (free u j reserve r : ℕ) : Type 0 where
  pub most : r ≤ free
  pub above : j < u → reserve ≤ free → r + reserve ≤ free
  pub here : u ≡ j → reserve ≤ free → reserve ≤ r

-- the reserve is free
pub record Spreadable (xs b : List ℕ) (n lo hi j reserve : ℕ) : Type 0 where
  pub slidable : Slidable xs b n lo hi
  pub index : j < n
  pub room : (i : ℕ) → i < n → (set_at b i).used + reserve ≤ hi

-- the set number j has the reserve
pub record Spread (n lo hi j reserve : ℕ) (xs b ys b' : List ℕ) : Type 0 where
  pub slid : Slid n lo hi xs b ys b'
  pub room : (set_at b' j).used + reserve ≤ (set_at b' j).limit
