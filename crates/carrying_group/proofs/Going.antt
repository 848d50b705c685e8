-- Carrying into a set of a shelf again and again, while sets slide: the set that is carried from stays as it is.
--     going-clear, going-ends         the next try can be made
--     going-crammed                   what it left full, it left full of the same images
--     carried-all, gone-excess        what all tries did, by the last one's answer
-- Assumes nothing.
use Prim.Native.Nat.{ℕ, ◌+◌, ◌<◌}
use native.Mathlib.Omega.{arith}
use mathlib.Core.Path.{◌≡◌, sym}
use mathlib.Core.List.{List}
use mathlib.Core.Logic.{inl, inr, ⊎_elim}
use Rattle.runs.specs.Runs.{Same}
use Rattle.runs.proofs.Membership.{in-same}
use Rattle.cut_set.specs.Store.{Found, found_in}
use Rattle.cut_set.specs.declared.CutSet.{CutSet}
use Rattle.cut_set.proofs.Gathering.{base_done, used-limit, used-within}
use Rattle.cut_set.proofs.Laws.{done-used, good-same}
use Rattle.refining.specs.Columns.{Columns, count_of}
use Rattle.carrying_match.proofs.RunLists.{slice-same}
use Rattle.carrying_cuts.specs.Worker.{Images, EndsKnown, hits_over}
use Rattle.shelf.specs.Shelf.{set_at}
use Rattle.shelf.specs.Filling.{Crammed}
use Rattle.shelf.proofs.Shelving.{shelf-as}
use Rattle.shelf.proofs.Filling.{Going, crammed-as, gone}
use Rattle.carrying_group.specs.Group.{Clear, Carried}

-- images of numbers of one kind are those of numbers of a wider kind
images-as : {c : Columns} {n : ℕ} {P Q : ℕ → Type 0} → ((x : ℕ) → P x → Q x) → (y : ℕ) → Images c n P y → Images c n Q y
images-as f y m = record {
  index = m.index;
  below = m.below;
  x = m.x;
  carried = f m.x m.carried;
  image = m.image;
}

-- before the next try
module _ {c : Columns} {from : CutSet} {n lo hi j : ℕ} {xs b ys b' : List ℕ} (clear : Clear xs from lo hi) (l : j < n)
    (g : Going (Images c (count_of c) (Found xs from)) n lo hi j xs b ys b') where
  -- the set that is carried from stands where nothing changes
  from-same : Same xs ys from.base from.limit
  from-same k low high =
      g.grown.outside k (⊎_elim (λ h. inl (omega arith)) (λ h. inr (omega arith)) clear.apart)

  run-same : Same xs ys from.done from.used
  run-same k low high =
      from-same k (omega (arith, base_done clear.good)) (omega (arith, used-limit clear.good))

  images-back : (y : ℕ) → Images c (count_of c) (Found ys from) y → Images c (count_of c) (Found xs from) y
  images-back y = images-as (λ x p. in-same (λ k low high. sym (run-same k low high)) p) y

  images-forth : (y : ℕ) → Images c (count_of c) (Found xs from) y → Images c (count_of c) (Found ys from) y
  images-forth y = images-as (λ x p. in-same run-same p) y

  list_same : found_in ys from ≡ found_in xs from
  list_same = slice-same xs ys (used-within clear.good) (omega (arith, g.lengths, used-within clear.good))
      (done-used clear.good) run-same

  pub going-crammed : {zs b'' : List ℕ} → Crammed (Images c (count_of c) (Found ys from)) n lo hi j ys b' zs b'' →
      Crammed (Images c (count_of c) (Found xs from)) n lo hi j ys b' zs b''
  going-crammed = crammed-as (λ y. (images-back y, images-forth y))

  pub going-clear : Clear ys from lo hi
  going-clear = record {
    good = good-same xs ys from-same g.lengths clear.good;
    ready = clear.ready;
    apart = clear.apart;
  }

  pub going-ends : EndsKnown c xs (set_at b j) → EndsKnown c ys (set_at b' j)
  going-ends ends k h =
      let kept = (g.grown.sets j l).stays in
      (kept _ (ends k h).0, kept _ (ends k h).1)

  pub carried-all : {hits hits' most : ℕ} {zs b'' : List ℕ} → Carried c from n lo hi j ys b' hits most zs b'' hits' →
      Carried c from n lo hi j xs b hits most zs b'' hits'
  carried-all p = record {
    grown = gone l g (shelf-as p.grown (λ i u y. (
      λ r. (r.0, images-back y r.1),
      λ r. (r.0, images-forth y r.1),
    )));
    counted = rw (sym list_same) p.counted;
    few = p.few;
  }

  pub gone-excess : (hits most : ℕ) → most < hits + hits_over c (count_of c) (found_in ys from) →
      most < hits + hits_over c (count_of c) (found_in xs from)
  gone-excess hits most p = rw (sym list_same) p
