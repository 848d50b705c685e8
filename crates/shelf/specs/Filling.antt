-- Numbers of a kind come to one set of a shelf, where that stands, or to any of its sets, while these slide.
--     Reached             a number of the kind P that is a member of the set number j
--     Crammed             all that there was room for has come
--     Filling             numbers have come, by the answer: all of them, or there are more than places
--     FillingHere         the same of the set number j, where that stands
-- Assumes nothing.
use Rattle.std.specs.Prelude.{ℕ, ◌-◌, ◌≡◌, Bool, true, false, ◌⊎◌, List}
use Rattle.cut_set.specs.Store.{Member, NothingAdded, Crowded}
use Rattle.shelf.specs.Shelf.{set_at, GrownShelf, Jammed, Shelved}

-- y is of the kind P, and a member of the set number j, which i is
abbrev pub Reached : (ℕ → Type 0) → ℕ → List ℕ → List ℕ → ℕ → ℕ → Type 0
Reached P j ys b i y = (i ≡ j) × (P y × Member ys (set_at b j) y)

-- the set number j stands where it stood; every place of it holds a member, and one number of the kind P is none
pub record Crammed (P : ℕ → Type 0) (n lo hi j : ℕ) (xs b ys b' : List ℕ) : Type 0 where
  pub grown : GrownShelf (Reached P j ys b') n lo hi xs b ys b'
  pub base_same : (set_at b' j).base ≡ (set_at b j).base
  pub limit_same : (set_at b' j).limit ≡ (set_at b j).limit
  pub ready : NothingAdded (set_at b' j)
  pub crowded : Crowded P ys (set_at b' j)

-- P is about the number of a set and a number
abbrev pub Filling : (ℕ → ℕ → Type 0) → ℕ → ℕ → ℕ → List ℕ → List ℕ → List ℕ → List ℕ → Bool → Type 0
Filling P n lo hi xs b ys b' true = GrownShelf P n lo hi xs b ys b'
Filling P n lo hi xs b ys b' false = Jammed (λ p. Shelved xs b n p ⊎ P p.track p.position) (hi - lo)

abbrev pub FillingHere : (ℕ → Type 0) → ℕ → ℕ → ℕ → ℕ → List ℕ → List ℕ → List ℕ → List ℕ → Bool → Type 0
FillingHere P n lo hi j xs b ys b' true = GrownShelf (λ i y. (i ≡ j) × P y) n lo hi xs b ys b'
FillingHere P n lo hi j xs b ys b' false = Crammed P n lo hi j xs b ys b'
