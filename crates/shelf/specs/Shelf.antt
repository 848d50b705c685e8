-- Sets side by side in the places [lo, hi) of a list, and a book that says where the runs of each end: eight numbers a
-- set. What is said of a set elsewhere is said here of one that may have moved.
--     set_at b j           the set number j of the book b
--     Apart lo hi         the numbers outside the places [lo, hi) are the same in both lists
--     Shelf xs b n lo hi  n sets, in this order and without a common place
--     filled b n          how many places of the first n sets hold gathered members
--     Grown P             what Stored P says, of a set that may have moved
--     GrownShelf P        that much of every set, P being about the number of a set and a number
--     Saved               the book after one set's numbers were written
--     MadeRoom            what making room for a set does, by its answer
--     Jammed Q places     more places of a kind than there are
-- Assumes nothing.
use Rattle.std.specs.Prelude.{ℕ, zero, suc, ◌+◌, ◌-◌, ◌*◌, ◌≤◌, ◌<◌, ◌≡◌, Bool, true, false, ◌↔◌, ◌⊎◌, ◌≢◌, List, length, get_or}
use Rattle.refinement.specs.Order.{◌∈◌, Distinct}
use Rattle.refinement.specs.Match.{Place}
use Rattle.runs.specs.Runs.{In}
use Rattle.cut_set.specs.Store.{Good, Member, Finished, Found, NothingAdded}
use Rattle.cut_set.specs.declared.CutSet.{CutSet}

-- the eight numbers of a set, in the order in which CutSet has them
abbrev pub set_at : List ℕ → ℕ → CutSet
set_at b j = record {
  base = get_or b (8 * j) 0;
  long = get_or b (8 * j + 1) 0;
  mid = get_or b (8 * j + 2) 0;
  done = get_or b (8 * j + 3) 0;
  fresh = get_or b (8 * j + 4) 0;
  used = get_or b (8 * j + 5) 0;
  top = get_or b (8 * j + 6) 0;
  limit = get_or b (8 * j + 7) 0;
}

abbrev pub Outside : ℕ → ℕ → List ℕ → List ℕ → Type 0
Outside lo hi xs ys = (k : ℕ) → (k < lo) ⊎ (hi ≤ k) → get_or ys k 0 ≡ get_or xs k 0

-- n sets in the places [lo, hi), in the order of their numbers: no two share a place
pub record Shelf (xs b : List ℕ) (n lo hi : ℕ) : Type 0 where
  pub book : length b ≡ 8 * n
  pub good : (j : ℕ) → j < n → Good xs (set_at b j)
  pub from : (j : ℕ) → j < n → lo ≤ (set_at b j).base
  pub to : (j : ℕ) → j < n → (set_at b j).limit ≤ hi
  pub order : (i j : ℕ) → i < j → j < n → (set_at b i).limit ≤ (set_at b j).base
  pub part : lo ≤ hi
  pub within : hi ≤ length xs

-- the gathered members of the first n sets: distinct ones within a set
abbrev pub filled : List ℕ → ℕ → ℕ
filled b zero = 0
filled b (suc j) = filled b j + ((set_at b j).fresh - (set_at b j).base)

-- every number with P is now a member; besides, only numbers with P have come, as newly found, and nothing has gone
pub record Grown (P : ℕ → Type 0) (xs : List ℕ) (s : CutSet) (ys : List ℕ) (t : CutSet) : Type 0 where
  pub finished : (y : ℕ) → Finished ys t y ↔ Finished xs s y
  pub stays : (y : ℕ) → Member xs s y → Member ys t y
  pub run_kept : (y : ℕ) → In xs s.done s.fresh y → In ys t.done t.fresh y
  pub only : (y : ℕ) → Found ys t y → Found xs s y ⊎ P y
  pub held : (y : ℕ) → P y → Member ys t y
  pub more : s.fresh - s.base ≤ t.fresh - t.base
  -- the finished members stand in as many places as before
  pub done_same : t.done - t.base ≡ s.done - s.base

pub record GrownShelf (P : ℕ → ℕ → Type 0) (n lo hi : ℕ) (xs b ys b' : List ℕ) : Type 0 where
  pub shelf : Shelf ys b' n lo hi
  pub sets : (j : ℕ) → j < n → Grown (P j) xs (set_at b j) ys (set_at b' j)
  pub outside : Outside lo hi xs ys

-- the set number j is s now, and the others are as they were
pub record Saved (b : List ℕ) (j : ℕ) (s : CutSet) (b' : List ℕ) : Type 0 where
  pub here : set_at b' j ≡ s
  pub others : (i : ℕ) → i ≢ j → set_at b' i ≡ set_at b i

-- sets have slid, so that the set number j has room for one number more; or every place holds a member of some set
pub record MadeRoom (n lo hi j : ℕ) (xs b ys b' : List ℕ) (r : Bool) : Type 0 where
  pub slid : GrownShelf (λ i y. ⊥) n lo hi xs b ys b'
  pub ready : (i : ℕ) → i < n → NothingAdded (set_at b' i)
  pub room : r ≡ true → (set_at b' j).used < (set_at b' j).limit
  pub full : r ≡ false → filled b' n ≡ hi - lo

-- as many places with Q as there are, and one more
pub record Jammed (Q : Place → Type 0) (places : ℕ) : Type 0 where
  pub list : List Place
  pub distinct : Distinct list
  pub all : (p : Place) → p ∈ list → Q p
  pub more : length list ≡ suc places

-- a member of the set whose number is the place's track
pub record Shelved (xs b : List ℕ) (n : ℕ) (p : Place) : Type 0 where
  pub set : p.track < n
  pub member : Member xs (set_at b p.track) p.position
