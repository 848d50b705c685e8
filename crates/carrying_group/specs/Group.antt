-- Carrying the newly found cuts of one set over matches into another set of a shelf, whose sets slide where it is full.
--     Clear               the set that is carried from stands outside of the shelf's places
--     Grouping            what carrying does, by its answer
-- Assumes nothing.
use Rattle.std.specs.Prelude.{ℕ, ◌+◌, ◌-◌, ◌≤◌, ◌<◌, ◌≡◌, ◌⊎◌, List, Result, Ok, Err}
use Rattle.cut_set.specs.Store.{Good, Found, NothingAdded, found_in}
use Rattle.cut_set.specs.declared.CutSet.{CutSet}
use Rattle.refining.specs.Columns.{Columns, count_of}
use Rattle.carrying_cuts.specs.Worker.{Images, hits_over}
use Rattle.shelf.specs.Shelf.{GrownShelf, Jammed, Shelved}
use Rattle.carrying_group.specs.declared.TooMany.{TooMany}

-- a set that is gathered, and stands outside of the places [lo, hi)
pub record Clear (xs : List ℕ) (from : CutSet) (lo hi : ℕ) : Type 0 where
  pub good : Good xs from
  pub ready : NothingAdded from
  pub apart : (from.limit ≤ lo) ⊎ (hi ≤ from.base)

-- all its newly found numbers are carried into the set number j
pub record Carried (c : Columns) (from : CutSet) (n lo hi j : ℕ) (xs b : List ℕ) (hits most : ℕ) (ys b' : List ℕ) (hits' : ℕ)
    : Type 0 where
  pub grown : GrownShelf (λ i y. (i ≡ j) × Images c (count_of c) (Found xs from) y) n lo hi xs b ys b'
  pub counted : hits' ≡ hits + hits_over c (count_of c) (found_in xs from)
  pub few : hits' ≤ most

abbrev pub Grouping :
    Columns → CutSet → ℕ → ℕ → ℕ → ℕ → List ℕ → List ℕ → ℕ → ℕ → List ℕ → List ℕ → Result ℕ TooMany → Type 0
Grouping c from n lo hi j xs b hits most ys b' (Ok hits') =
    Carried c from n lo hi j xs b hits most ys b' hits'
Grouping c from n lo hi j xs b hits most ys b' (Err none) =
    (most < hits + hits_over c (count_of c) (found_in xs from))
    ⊎ Jammed
    (λ p. Shelved xs b n p ⊎ ((p.track ≡ j) × Images c (count_of c) (Found xs from) p.position))
    (hi - lo)
