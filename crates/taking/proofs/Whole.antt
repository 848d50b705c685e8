-- A whole step: what was taken is gathered, and what it was taken from is finished.
--     shelf-apart          a shelf stays as it is where only other places change
--     clear_of             its sets, gathered, can be taken from
--     both-outside         what else changes: nothing
--     step-taken           what the step did, from what its parts did
-- Assumes nothing.
use Prim.Native.Nat.{ℕ, ◌≤◌, ◌<◌}
use mathlib.Core.Path.{◌≡◌, sym, ◌∙◌}
use mathlib.Core.Logic.Iff
use mathlib.Core.Logic.{◌↔◌, ◌⊎◌, inl, inr, ⊎_elim}
use mathlib.Core.List.{List}
use native.Mathlib.Omega.{arith}
use lib.ListN.{length}
use Rattle.runs.specs.Runs.{Same}
use Rattle.runs.proofs.Membership.{in-same}
use Rattle.cut_set.specs.Store.{Member}
use Rattle.cut_set.proofs.Gathering.{used-limit}
use Rattle.cut_set.proofs.Laws.{good-same}
use Rattle.shelf.specs.Shelf.{set_at, Outside, Shelf}
use Rattle.shelf.proofs.Shelving.{grown-same, grown-then, grown-as}
use Rattle.shelving.specs.AllSets.{AllGathered, GatheredSets, FinishedSets}
use Rattle.tracks.specs.Tracks.{Kind, Lane}
use Rattle.carrying_lane.specs.Parts.{ClearBook}
use Rattle.taking.specs.Taking.{Halves, before, behind, Both, Stepped}

module _ {xs b : List ℕ} {n flo fhi lo hi : ℕ} (s : Shelf xs b n lo hi) (h : Halves flo fhi lo hi) (ys : List ℕ)
    (o : Outside flo fhi xs ys) where
  pub set_same : (j : ℕ) → j < n → Same xs ys (set_at b j).base (set_at b j).limit
  set_same j l k from to = o k (side h)
    where
      side : Halves flo fhi lo hi → (k < flo) ⊎ (fhi ≤ k)
      side (before p) = inr (omega (arith, s.from j l))
      side (behind p) = inl (omega (arith, s.to j l))

  pub shelf-apart : length ys ≡ length xs → Shelf ys b n lo hi
  shelf-apart e = record {
    book = s.book;
    good = λ j l. good-same xs ys (set_same j l) e (s.good j l);
    from = s.from;
    to = s.to;
    order = s.order;
    part = s.part;
    within = omega (arith, s.within);
  }

  pub member_apart : (j : ℕ) → j < n → (y : ℕ) → Member ys (set_at b j) y ↔ Member xs (set_at b j) y
  member_apart j l y =
      let same = set_same j l in
      let g = s.good j l in (
        in-same (λ k p q. sym (same k p (omega (arith, used-limit g)))),
        in-same (λ k p q. same k p (omega (arith, used-limit g))),
      )

pub halves-flip : {flo fhi lo hi : ℕ} → Halves flo fhi lo hi → Halves lo hi flo fhi
halves-flip (before p) = behind p
halves-flip (behind p) = before p

pub clear_of :
    {xs fb : List ℕ} {n flo fhi lo hi : ℕ} → Shelf xs fb n flo fhi → AllGathered fb n → Halves flo fhi lo hi
    → ClearBook xs fb n lo hi
clear_of {xs} {fb} {n} {flo} {fhi} {lo} {hi} s g h = record {
  book = s.book;
  each = λ j l. record { good = s.good j l; ready = g.each j l; apart = side h j l };
}
  where
    side : Halves flo fhi lo hi → (j : ℕ) → j < n → ((set_at fb j).limit ≤ lo) ⊎ (hi ≤ (set_at fb j).base)
    side (before p) j l = inl (omega (arith, s.to j l))
    side (behind p) j l = inr (omega (arith, s.from j l))

-- neither taking nor gathering touches other places
pub both-outside :
    {l : Kind → Lane} {m n lo hi most : ℕ} {fb xs b ys b' zs b'' : List ℕ} {hits hits' : Kind → ℕ}
    → Both l m fb n lo hi xs b hits most ys b' hits' → GatheredSets n lo hi ys b' zs b'' → Outside lo hi xs zs
both-outside t g k p = g.grown.outside k p ∙ t.grown.outside k p

pub step-taken :
    (l : Kind → Lane) {m n flo fhi lo hi most : ℕ} {xs fb b ys b' zs b'' vs fb' : List ℕ} {hits hits' : Kind → ℕ}
    → Shelf xs fb n flo fhi → Halves flo fhi lo hi → Both l m fb n lo hi xs b hits most ys b' hits'
    → GatheredSets n lo hi ys b' zs b'' → FinishedSets n flo fhi zs fb vs fb' → length vs ≡ length zs
    → Stepped l m n flo fhi lo hi xs fb b hits most vs fb' b'' hits'
step-taken l {m} {n} {flo} {fhi} {lo} {hi} {xs = xs} {fb} {b} {ys} {zs = zs} {b''} {vs} s h t g f e = record {
  from_shelf = f.shelf;
  members = λ j k y. Iff.trans (f.members j k y) (member_apart s (halves-flip h) zs (both-outside t g) j k y);
  all = f.none;
  filled_same = f.filled_same;
  shelf = shelf-apart g.grown.shelf h vs f.outside e;
  grown = λ j k. grown-as
      (grown-then (t.grown.sets j k)
      (grown-then (g.grown.sets j k)
      (grown-same zs vs (g.grown.shelf.good j k) (set_same g.grown.shelf h vs f.outside j k))))
      (λ y. (⊎_elim (λ p. p) (λ q. ⊎_elim absurd absurd q), inl));
  ready = g.ready.each;
  counted = t.counted;
  few = t.few;
}
