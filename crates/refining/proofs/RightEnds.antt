-- #103: the right ends, and what they are to the matches.
--     rights-worked, rights-alone    `rights_of` is left plus length for each match, and is the one column that is
--     read-fit                       columns that are read are Fit once their right ends are worked out
--     right_at                       at an index, the columns hold the right end of the match there, on either side
--     facing                         and its ends are equally far apart on both
-- Assumes nothing.
use Prim.Native.Nat.{ℕ, zero, suc, ◌+◌, ◌-◌, ◌<◌}
use mathlib.Core.Path.{◌≡◌, refl, sym, ap, ◌∙◌}
use mathlib.Core.Bool.{Bool}
use mathlib.Core.List.{List, [], ◌∷◌}
use native.Mathlib.Omega.{arith}
use lib.ListN.{length, get_or}
use lib.Seq.{ext_get_or}
use Rattle.refinement.specs.declared.Side.{Side}
use Rattle.refinement.specs.declared.Side.TheVariants.{A, B}
use Rattle.refinement.specs.Match.{right}
use Rattle.refining.specs.Columns.{Columns, columns_read, seen_from, count_of, from_at, from_right_at, to_at, to_right_at}
use Rattle.refining.specs.Columns.{FitRead, rights_of, RightEnds, Fit, match_at}

pub rights-worked : (f d : List ℕ) → length f ≡ length d → RightEnds f d (rights_of f d)
rights-worked [] d e = record { for_each = refl; left_plus_length = λ k l. absurd (omega arith) }
rights-worked (x ∷ f) [] e = absurd (omega arith)
rights-worked (x ∷ f) (y ∷ d) e =
    let rest = rights-worked f d (omega arith) in
    record { for_each = ap suc rest.for_each; left_plus_length = at rest }
  where
    at :
        RightEnds f d (rights_of f d) → (k : ℕ) → k < length (x ∷ f)
        → get_or (rights_of (x ∷ f) (y ∷ d)) k 0 ≡ get_or (x ∷ f) k 0 + get_or (y ∷ d) k 0
    at rest zero l = refl
    at rest (suc k) l = rest.left_plus_length k (omega arith)

pub rights-alone : {f d g : List ℕ} → length f ≡ length d → RightEnds f d g → g ≡ rights_of f d
rights-alone {f} {d} {g} e r =
    let w = rights-worked f d e in
    ext_get_or 0 g (rights_of f d) (r.for_each ∙ sym w.for_each) (λ k l.
    let below : k < length f = omega (arith, r.for_each) in
    r.left_plus_length k below ∙ sym (w.left_plus_length k below))

module _ {f t d : List ℕ} {r : List Bool} (read : FitRead f t d r) where
  pub read-fit : Fit (columns_read f t d r)
  read-fit =
      let a = rights-worked f d read.on_a.same_length in
      let b = rights-worked t d read.on_b.same_length in
      let from_length = read.on_a.same_length ∙ sym read.way_length in
      let to_length = read.on_b.same_length ∙ sym read.way_length in
      record {
        from_length = from_length;
        from_right_length = a.for_each ∙ from_length;
        to_length = to_length;
        to_right_length = b.for_each ∙ to_length;
        lettered = λ k l.
            omega (arith, b.left_plus_length k (omega arith), read.lettered k (omega (arith, read.way_length)));
        from_right = λ k l.
            omega (arith, a.left_plus_length k (omega arith), b.left_plus_length k (omega arith));
        to_right = λ k l. omega (arith, b.left_plus_length k (omega arith));
      }

pub right_at :
    {c : Columns} → Fit c → (u : Side) {k : ℕ} → k < count_of c → from_right_at (seen_from u c) k ≡ right (match_at c k) u
right_at fit A {k} l = fit.from_right k l
right_at fit B {k} l = fit.to_right k l

pub facing :
    {c : Columns} → Fit c → {k : ℕ} → k < count_of c
    → to_at c k + (from_right_at c k - from_at c k) ≡ to_right_at c k
facing fit {k} l = omega (arith, fit.from_right k l, fit.to_right k l)
