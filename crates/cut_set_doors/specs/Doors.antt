-- The bookkeeping of a set as eight numbers in a slice, for callers in C and Rust. TO READ: contracts mean what stands
-- here.
--     set_of               the set that eight numbers say
--     Lent                a slice and eight numbers that keep a set in it
--     CrampedSet          a set without room for one more number
--     AddedBy             what adding a number does, by its answer
-- Assumes nothing.
use Rattle.std.specs.Prelude.{ℕ, ◌≤◌, ◌≡◌, List, Bool, true, false, length, get_or}
use Rattle.cut_set.specs.declared.CutSet.{CutSet}
use Rattle.cut_set.specs.Store.{Good, Stored, Cramped}

-- the set whose fields are the numbers of es, in order
abbrev pub set_of : List ℕ → CutSet
set_of es = record {
  base = get_or es 0 0;
  long = get_or es 1 0;
  mid = get_or es 2 0;
  done = get_or es 3 0;
  fresh = get_or es 4 0;
  used = get_or es 5 0;
  top = get_or es 6 0;
  limit = get_or es 7 0;
}

-- es has room for the eight numbers, and they keep a set in xs
pub record Lent (xs es : List ℕ) : Type 0 where
  pub eight : 8 ≤ length es
  pub good : Good xs (set_of es)

-- there is no room for one more number with P in the set that the buffer keeps, which the caller's numbers do not say
pub record CrampedSet (P : ℕ → Type 0) (xs : List ℕ) (s : CutSet) (ys : List ℕ) : Type 0 where
  pub set : CutSet
  pub cramped : Cramped P xs s ys set

-- what adding x does, by its answer: true where the set has x, false where there was no room, even once it was gathered
pub record AddedBy (xs es : List ℕ) (x : ℕ) (ys fs : List ℕ) (r : Bool) : Type 0 where
  pub held : r ≡ true → Stored (λ y. y ≡ x) xs (set_of es) ys (set_of fs)
  pub full : r ≡ false → CrampedSet (λ y. y ≡ x) xs (set_of es) ys
