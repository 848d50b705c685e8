-- Carrying into one set of a shelf, where that stands. No contract of the crates above cites this file.
--     Trying              what one try does, by its answer
-- Assumes nothing.
use Rattle.std.specs.Prelude.{ℕ, ◌+◌, ◌<◌, List, Result, Ok, Err}
use Rattle.cut_set.specs.Store.{Found, found_in}
use Rattle.cut_set.specs.declared.CutSet.{CutSet}
use Rattle.refining.specs.Columns.{Columns, count_of}
use Rattle.carrying_cuts.specs.Worker.{Images, hits_over}
use Rattle.shelf.specs.Filling.{Crammed}
use Rattle.carrying_group.specs.Group.{Carried}
use Rattle.carrying_group.specs.declared.Halt.{Halt}

abbrev pub Trying :
    Columns → CutSet → ℕ → ℕ → ℕ → ℕ → List ℕ → List ℕ → ℕ → ℕ → List ℕ → List ℕ → Result ℕ Halt → Type 0
Trying c from n lo hi j xs b hits most ys b' (Ok hits') =
    Carried c from n lo hi j xs b hits most ys b' hits'
Trying c from n lo hi j xs b hits most ys b' (Err Halt.Crowded) =
    Crammed (Images c (count_of c) (Found xs from)) n lo hi j xs b ys b'
Trying c from n lo hi j xs b hits most ys b' (Err Halt.TooMany) = most < hits + hits_over c (count_of c) (found_in xs from)
