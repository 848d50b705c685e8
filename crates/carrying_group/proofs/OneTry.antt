-- Carrying into one set of a shelf, where that stands.
--     tried               what one try did, from what carrying and writing into the book did
-- Assumes nothing.
use Prim.Native.Nat.{ℕ, ◌+◌, ◌≤◌, ◌<◌}
use mathlib.Core.Path.{◌≡◌}
use mathlib.Core.List.{List}
use lib.ListN.{length}
use Rattle.cut_set.specs.Store.{Found, found_in, Stored}
use Rattle.cut_set.specs.declared.CutSet.{CutSet}
use Rattle.refining.specs.Columns.{Columns, count_of}
use Rattle.carrying_cuts.specs.Worker.{Images, hits_over}
use Rattle.shelf.specs.Shelf.{set_at, Shelf, Saved}
use Rattle.shelf.proofs.Filling.{put}
use Rattle.carrying_group.specs.Group.{Carried}

-- the set number j was loaded as s, and saved as t
module _ {s t : CutSet} {n lo hi j : ℕ} {xs b ys b' : List ℕ} (e : s ≡ set_at b j)
    (shelf : Shelf xs b n lo hi) (l : j < n) (saved : Saved b j t b') (length_work : length ys ≡ length xs)
    (length_book : length b' ≡ length b) where
  pub tried : {c : Columns} {from : CutSet} {hits hits' most : ℕ} →
      Stored (Images c (count_of c) (Found xs from)) xs s ys t
      × (hits' ≡ hits + hits_over c (count_of c) (found_in xs from)) × (hits' ≤ most) →
      Carried c from n lo hi j xs b hits most ys b' hits'
  tried p = record {
    grown = put e shelf l saved length_work length_book p.0;
    counted = p.1;
    few = p.2;
  }
