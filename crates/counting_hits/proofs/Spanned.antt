-- The hits of one match: the newly found cuts from its left end to its right end, which follow each other in the run.
--     found_within        the newly found cuts stand in the list
--     hits-before         those before the right end, from the first that is at least the left end
--     hits-to             the same, and the next, which is not behind the right end
-- Assumes nothing.
use Prim.Native.Nat.{ℕ, zero, suc, ◌+◌, ◌-◌, ◌≤◌, ◌<◌}
use native.Mathlib.Omega.{arith}
use native.Mathlib.Decide.{ℕ_discrete}
use mathlib.Core.Path.{◌≡◌, sym, ◌∙◌}
use mathlib.Core.Bool.{true}
use mathlib.Core.List.{List}
use lib.ListN.{length, get_or}
use lib.Seq.{slice, slice-cons}
use borrow.Author.Tests.{le-leb}
use Rattle.refinement.specs.Match.{between}
use Rattle.refinement.proofs.Geometry.{between-below, between-from}
use Rattle.runs.specs.Runs.{Bound}
use Rattle.cut_set.specs.Store.{Good, found_in}
use Rattle.cut_set.specs.declared.CutSet.{CutSet}
use Rattle.carrying_match.specs.OneMatch.{hits_on}
use Rattle.carrying_match.proofs.RunLists.{hits-past}
use Rattle.cut_set.proofs.Laws.{done-used}

pub found_within : {xs : List ℕ} {s : CutSet} → Good xs s → s.used ≤ length xs
found_within g = omega (arith, g.room, g.within)

-- n places, all of them spanned, are n hits at least
spanned-places :
    (xs : List ℕ) {hi : ℕ} → hi ≤ length xs → (i g n lo : ℕ) → lo + n ≤ hi
    → ((k : ℕ) → lo ≤ k → k < lo + n → between i g (get_or xs k 0) ≡ true) → n ≤ hits_on i g (slice lo hi xs)
spanned-places xs w i g zero lo h f = omega arith
spanned-places xs {hi} w i g (suc n) lo h f =
    let later : n ≤ hits_on i g (slice (suc lo) hi xs) =
    spanned-places xs w i g n (suc lo) (omega arith) (λ k l u. f k (omega arith) (omega arith))
    in
    rw (slice-cons lo hi xs 0 (omega arith) w, f lo (omega arith) (omega arith)) (omega arith)

module _ {xs : List ℕ} {s : CutSet} {left right first last : ℕ} (good : Good xs s)
    (a : Bound xs s.done s.used left first) (b : Bound xs s.done s.used right last) (o : first ≤ last) where
  -- n places from `first` on that hold no cut behind the right end
  hits-from :
      (n : ℕ) → first + n ≤ s.used → ((k : ℕ) → first ≤ k → k < first + n → get_or xs k 0 ≤ right)
      → n ≤ hits_on left right (found_in xs s)
  hits-from n h f =
      rw (hits-past xs (found_within good) (done-used good) left right first a.from a.to
      (λ k l u. sym (between-below left right (get_or xs k 0) (a.less k l u))))
      (spanned-places xs (found_within good) left right n first h (λ k l u.
      sym (between-from left right (get_or xs k 0) (a.least k l (omega arith)))
      ∙ le-leb (get_or xs k 0) right (f k l u)))

  below_last : (k : ℕ) → first ≤ k → k < last → get_or xs k 0 < right
  below_last k l u = b.less k (omega (arith, a.from)) u

  pub hits-before : last - first ≤ hits_on left right (found_in xs s)
  hits-before = hits-from (last - first) (omega (arith, b.to))
      (λ k l u. omega (arith, below_last k l (omega arith)))

  pub hits-to :
      last < s.used → get_or xs last 0 ≤ right → last - first + 1 ≤ hits_on left right (found_in xs s)
  hits-to h e = hits-from (last - first + 1) (omega arith) (λ k l u. go k l u (ℕ_discrete k last))
    where
      go : (k : ℕ) → first ≤ k → k < first + (last - first + 1) → Dec (k ≡ last) → get_or xs k 0 ≤ right
      go k l u (yes q) = rw q e
      go k l u (no q) = omega (arith, below_last k l (omega arith))
