-- A set moves to other places of its list, which may overlap the old ones.
--     Shiftable, Shifted      n numbers at lo can be moved to `to`; they have been
--     Bare                    a set that was gathered and has no notes
--     placed s base limit     the set s, once its members stand from base on and it has the places up to limit
--     Ends                    the runs of a set end in their order, and its members fit before limit, from base on
--     Movable, MovedSet       a set can be moved there; it has been
-- Assumes nothing.
use Rattle.std.specs.Prelude.{ℕ, ◌+◌, ◌-◌, ◌≤◌, ◌<◌, ◌≡◌, List, length, get_or}
use Rattle.cut_set.specs.Store.{Good, NothingAdded}
use Rattle.cut_set.specs.declared.CutSet.{CutSet}
use Rattle.shelf.specs.Shelf.{Grown}

-- both the old places and the new ones are in the list
pub record Shiftable (xs : List ℕ) (lo to n : ℕ) : Type 0 where
  pub from : lo + n ≤ length xs
  pub into : to + n ≤ length xs

-- the numbers stand at the new places, and no other place has changed
pub record Shifted (xs : List ℕ) (lo to n : ℕ) (ys : List ℕ) : Type 0 where
  pub moved : (k : ℕ) → k < n → get_or ys (to + k) 0 ≡ get_or xs (lo + k) 0
  pub before : (k : ℕ) → k < to → get_or ys k 0 ≡ get_or xs k 0
  pub behind : (k : ℕ) → to + n ≤ k → get_or ys k 0 ≡ get_or xs k 0

-- nothing was added since the set was gathered, and it has no notes
pub record Bare (s : CutSet) : Type 0 where
  pub ready : NothingAdded s
  pub none : s.top ≡ s.limit

-- the ends of the runs move along with the base
abbrev pub placed : CutSet → ℕ → ℕ → CutSet
placed s base limit = record {
  base = base;
  long = base + (s.long - s.base);
  mid = base + (s.mid - s.base);
  done = base + (s.done - s.base);
  fresh = base + (s.used - s.base);
  used = base + (s.used - s.base);
  top = limit;
  limit = limit;
}

-- in the order of the runs
pub record Ends (s : CutSet) (base limit : ℕ) : Type 0 where
  pub long : s.base ≤ s.long
  pub mid : s.long ≤ s.mid
  pub done : s.mid ≤ s.done
  pub used : s.done ≤ s.used
  pub fits : base + (s.used - s.base) ≤ limit

-- the members fit into the places [base, limit) of the list
pub record Movable (xs : List ℕ) (s : CutSet) (base limit : ℕ) : Type 0 where
  pub good : Good xs s
  pub bare : Bare s
  pub fits : base + (s.used - s.base) ≤ limit
  pub within : limit ≤ length xs

-- the members stand there in the same runs, and no place has changed that has none of them now
pub record MovedSet (xs : List ℕ) (s : CutSet) (base limit : ℕ) (ys : List ℕ) (t : CutSet) : Type 0 where
  pub is : t ≡ placed s base limit
  pub good : Good ys t
  pub grown : Grown (λ y. ⊥) xs s ys t
  pub before : (k : ℕ) → k < base → get_or ys k 0 ≡ get_or xs k 0
  pub behind : (k : ℕ) → limit ≤ k → get_or ys k 0 ≡ get_or xs k 0
