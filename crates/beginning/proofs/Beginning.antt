-- What the calls with which the closure begins ask, from what it is given.
--     lent-a, lent-b       the groups of the matches on a side
--     flags, named_by      flags of the sets
--     none-usable          no index is one that can be used
--     no-hits              counts of zero
--     filled_in, sown-open what an answer of true says
--     given_by             what the steps are given
-- Assumes nothing.
use Prim.Native.Nat.{ℕ, ◌≤◌}
use mathlib.Core.Path.{◌≡◌, refl, sym, subst, ◌∙◌}
use mathlib.Core.Bool.{Bool, true, false}
use mathlib.Core.Logic.{inl}
use mathlib.Core.List.{List, []}
use native.Mathlib.Omega.{arith}
use lib.ListN.{length, replicate, take, length-replicate}
use lib.Seq.{length-take-le}
use Rattle.refinement.specs.declared.Side.{Side}
use Rattle.refinement.specs.declared.Side.TheVariants.{A, B}
use Rattle.refining.specs.Columns.{Columns, count_of}
use Rattle.shelf.specs.Shelf.{GrownShelf}
use Rattle.shelf.specs.Filling.{Filling}
use Rattle.tracks.specs.Tracks.{Tracked, Kind, over, along}
use Rattle.tracks.specs.Engine.{books_of, Open}
use Rattle.tracks.specs.Groups.{Groups}
use Rattle.carrying_lane.specs.Parts.{UsableParts}
use Rattle.seeding.specs.Sown.{SideGroups}
use Rattle.seeding.specs.Wanting.{Naming}
use Rattle.stepping.specs.Steps.{hits_of, Given}
use Rattle.stepping.specs.declared.Counts.{Counts}
use Rattle.beginning.specs.Beginning.{Lent, zeros, Sowing}

module _ {c : Columns} {gs ts ps : List ℕ} {g n : ℕ} (lent : Lent c gs ts ps g n) where
  pub lent-a : SideGroups c.from_lefts c.from_rights gs g 1 n
  lent-a = record {
    same_length = lent.fit.from_length ∙ sym lent.fit.from_right_length;
    groups = subst (λ (k : ℕ). Groups gs g k n) (sym lent.fit.from_length) lent.groups;
    at_from = omega arith;
    at_to = omega arith;
  }

  pub lent-b : SideGroups c.to_lefts c.to_rights gs g 2 n
  lent-b = record {
    same_length = lent.fit.to_length ∙ sym lent.fit.to_right_length;
    groups = subst (λ (k : ℕ). Groups gs g k n) (sym lent.fit.to_length) lent.groups;
    at_from = omega arith;
    at_to = omega arith;
  }

-- the flags of so many sets, of the 16 that are there
pub flags : {sets : ℕ} → sets ≤ 16 → sets ≡ length (take sets (replicate 16 false))
flags {sets} h = sym (length-take-le sets (replicate 16 false) (omega (arith, length-replicate 16 false)))

pub named_by : {gs : List ℕ} {g at sets k : ℕ} → sets ≡ k → Naming gs g at sets → Naming gs g at k
named_by {gs} {g} {at} e p = subst (Naming gs g at) e p

pub none-usable : (gs : List ℕ) (g : ℕ) (f r : List ℕ) → UsableParts [] gs g f r
none-usable gs g f r = record {
  order = λ a l. omega arith;
  within = λ a l. omega arith;
  usable = λ a l. inl refl;
}

-- no hits at all
abbrev pub none : Counts
none = record { over_a = 0; over_b = 0; along_a = 0; along_b = 0 }

pub no-hits : zeros ≡ hits_of none
no-hits = λ i w u. each w u i
  where
    each : (w : Kind) (u : Side) → 0 ≡ hits_of none w u
    each over A = refl
    each over B = refl
    each along A = refl
    each along B = refl

-- what an answer of true says
pub filled_in :
    (P : ℕ → ℕ → Type 0) (n lo hi : ℕ) (xs b ys b' : List ℕ) (r : Bool) → r ≡ true → Filling P n lo hi xs b ys b' r
    → GrownShelf P n lo hi xs b ys b'
filled_in P n lo hi xs b ys b' r e h = subst (Filling P n lo hi xs b ys b') e h

pub sown-open :
    (t : Tracked) (n cap : ℕ) (ys a b : List ℕ) (r : Bool) → r ≡ true → Sowing t n cap ys a b r
    → Open t n cap ys (books_of a b) zeros A
sown-open t n cap ys a b r e h = subst (Sowing t n cap ys a b) e h

pub given_by :
    {c : Columns} {straight : List Bool} {ia ib gs ts ps : List ℕ} {g n : ℕ} → Lent c gs ts ps g n
    → count_of c ≤ 4294967296 → straight ≡ replicate (count_of c) false → UsableParts ia gs g c.from_lefts c.from_rights
    → UsableParts ib gs g c.to_lefts c.to_rights → Given c straight ia ib gs g n
given_by lent few straight on_a on_b = record {
  fit = lent.fit;
  few = few;
  straight_is = straight;
  groups = lent.groups;
  on_a = on_a;
  on_b = on_b;
}
