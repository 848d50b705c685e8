-- What is done to one set of a shelf. No contract of the crates above cites this file.
--     GatheredSet, FinishedSet, EmptiedSet    one set is gathered, finished, made empty, and saved
--     Between                 a place between two others, or one of them
-- Assumes nothing.
use Rattle.std.specs.Prelude.{ℕ, ◌≤◌, List}
use Rattle.cut_set.specs.Store.{Gathered, AllFinished, Emptied}
use Rattle.cut_set.specs.declared.CutSet.{CutSet}
use Rattle.shelf.specs.Shelf.{set_at, Saved}

-- the set number j is gathered
pub record GatheredSet (j : ℕ) (xs b ys b' : List ℕ) : Type 0 where
  pub set : CutSet
  pub gathered : Gathered xs (set_at b j) ys set
  pub saved : Saved b j set b'

-- all members of the set number j are finished
pub record FinishedSet (j : ℕ) (xs b ys b' : List ℕ) : Type 0 where
  pub set : CutSet
  pub finished : AllFinished xs (set_at b j) ys set
  pub saved : Saved b j set b'

-- the set number j is an empty one in the places [base, limit)
pub record EmptiedSet (j base limit : ℕ) (xs b b' : List ℕ) : Type 0 where
  pub set : CutSet
  pub emptied : Emptied xs base limit set
  pub saved : Saved b j set b'

-- at is lo, or hi, or stands between them
pub record Between (lo at hi : ℕ) : Type 0 where
  pub from : lo ≤ at
  pub to : at ≤ hi
