-- The sets of a shelf are gathered, or finished, one after the other.
--     added_is                    what is known of a set holds of one that is the same
--     GatheredTo, gather-next     the first k sets are gathered; one set more
--     FinishedTo, finish-next     the first k sets are finished; one set more
-- Assumes nothing.
use Prim.Native.Nat.{ℕ, ◌+◌, ◌-◌, ◌≤◌, ◌<◌}
use native.Mathlib.Omega.{arith}
use native.Mathlib.Decide.{ℕ_discrete}
use mathlib.Core.Path.{◌≡◌, refl, sym, ◌∙◌}
use mathlib.Core.List.{List}
use mathlib.Core.Logic.Iff
use mathlib.Core.Logic.{◌↔◌, ⊎_elim}
use lib.ListN.{length}
use Rattle.runs.specs.Runs.{Same}
use Rattle.cut_set.specs.Store.{Good, Member, NothingAdded, NothingFound, Kept, AllFinished}
use Rattle.cut_set.specs.declared.CutSet.{CutSet}
use Rattle.cut_set.proofs.Laws.{none-added, good-same}
use Rattle.shelf.specs.Shelf.{set_at, Outside, Shelf, GrownShelf}
use Rattle.shelf.proofs.Shelving.{grown-same, gathered-grown, shelf-then, shelf-as}
use Rattle.shelf.proofs.Shelving.{others_same, shelf-outside, shelf-kept, set_grown}
use Rattle.shelving.specs.OneSet.{GatheredSet, FinishedSet}

-- what is known of a set holds of one that is the same
pub added_is : {s t : CutSet} → s ≡ t → NothingAdded t → NothingAdded s
added_is e p = rw e p

-- the set that was read from the book is gathered and saved, or finished and saved
-- the first k sets of n are gathered
pub record GatheredTo (n lo hi k : ℕ) (xs b ys b' : List ℕ) : Type 0 where
  pub few : k ≤ n
  pub grown : GrownShelf (λ i y. ⊥) n lo hi xs b ys b'
  pub ready : (i : ℕ) → i < k → NothingAdded (set_at b' i)
  pub length_work : length ys ≡ length xs
  pub length_book : length b' ≡ length b

pub gather-next : {n lo hi k : ℕ} {xs b ys b' zs b'' : List ℕ} → GatheredTo n lo hi k xs b ys b' → k < n →
    GatheredSet k ys b' zs b'' → length zs ≡ length ys → length b'' ≡ length b' → GatheredTo n lo hi (k + 1) xs b zs b''
gather-next {k = k} {ys = ys} {b' = b'} {zs = zs} {b'' = b''} p l g lw lb = record {
  few = omega arith;
  grown = shelf-as
      (shelf-then p.grown (set_grown p.grown.shelf l kept.good (gathered-grown g.gathered) g.saved lw lb
      kept.base_same kept.limit_same kept.outside))
      (λ i l y. (⊎_elim (λ h. h) (λ h. h.1), (λ h. absurd h)));
  ready = λ i u. ready_at i u (ℕ_discrete i k);
  length_work = lw ∙ p.length_work;
  length_book = lb ∙ p.length_book;
}
  where
    kept : Kept ys (set_at b' k) zs g.set
    kept = g.gathered.kept

    ready_at : (i : ℕ) → i < k + 1 → Dec (i ≡ k) → NothingAdded (set_at b'' i)
    ready_at i u (yes e) = rw e (added_is g.saved.here g.gathered.ready)
    ready_at i u (no v) = added_is (g.saved.others i v) (p.ready i (omega arith))

-- the first k sets of n are finished
pub record FinishedTo (n lo hi k : ℕ) (xs b ys b' : List ℕ) : Type 0 where
  pub few : k ≤ n
  pub shelf : Shelf ys b' n lo hi
  pub ready : (i : ℕ) → i < n → NothingAdded (set_at b' i)
  pub members : (i : ℕ) → i < n → (y : ℕ) → Member ys (set_at b' i) y ↔ Member xs (set_at b i) y
  pub none : (i : ℕ) → i < k → NothingFound (set_at b' i)
  pub sizes : (i : ℕ) → i < n → (set_at b' i).used - (set_at b' i).base ≡ (set_at b i).used - (set_at b i).base
  pub outside : Outside lo hi xs ys
  pub length_work : length ys ≡ length xs
  pub length_book : length b' ≡ length b

-- a set in the second list has the members that another has in the first, in as many places, and nothing was added
record SameMembers (xs : List ℕ) (s : CutSet) (ys : List ℕ) (t : CutSet) : Type 0 where
  ready : NothingAdded t
  members : (y : ℕ) → Member ys t y ↔ Member xs s y
  size : t.used - t.base ≡ s.used - s.base

same-is : {xs ys : List ℕ} {s t u : CutSet} → t ≡ u → SameMembers xs s ys u → SameMembers xs s ys t
same-is e p = rw e p

found-is : {s t : CutSet} → s ≡ t → NothingFound t → NothingFound s
found-is e p = rw e p

-- where the set's part has stayed
same-apart : (xs ys : List ℕ) {s : CutSet} → Good xs s → NothingAdded s → Same xs ys s.base s.limit →
    length ys ≡ length xs → SameMembers xs s ys s
same-apart xs ys g a same n = record {
  ready = a;
  members = λ y. (
    (grown-same ys xs (good-same xs ys same n g) (λ k l u. sym (same k l u))).stays y,
    (grown-same xs ys g same).stays y,
  );
  size = refl;
}

-- where it was finished
same-finished : {xs ys : List ℕ} {s t : CutSet} → AllFinished xs s ys t → SameMembers xs s ys t
same-finished f = record {
  ready = none-added f.kept.good f.all;
  members = f.kept.members;
  size = omega (arith, f.used_same, f.kept.base_same);
}

pub finish-next : {n lo hi k : ℕ} {xs b ys b' zs b'' : List ℕ} → FinishedTo n lo hi k xs b ys b' → k < n →
    FinishedSet k ys b' zs b'' → length zs ≡ length ys → length b'' ≡ length b' → FinishedTo n lo hi (k + 1) xs b zs b''
finish-next {n} {k = k} {ys = ys} {b'} {zs} {b''} p l f lw lb = record {
  few = omega arith;
  shelf = shelf-kept p.shelf l kept.good f.saved lw lb kept.base_same kept.limit_same kept.outside;
  ready = λ i u. (same_at i u (ℕ_discrete i k)).ready;
  members = λ i u y. Iff.trans ((same_at i u (ℕ_discrete i k)).members y) (p.members i u y);
  none = λ i u. none-at i u (ℕ_discrete i k);
  sizes = λ i u. (same_at i u (ℕ_discrete i k)).size ∙ p.sizes i u;
  outside = λ k o. shelf-outside ys zs p.shelf l kept.outside k o ∙ p.outside k o;
  length_work = lw ∙ p.length_work;
  length_book = lb ∙ p.length_book;
}
  where
    kept : Kept ys (set_at b' k) zs f.set
    kept = f.finished.kept

    same_at : (i : ℕ) → i < n → Dec (i ≡ k) → SameMembers ys (set_at b' i) zs (set_at b'' i)
    same_at i u (yes e) = rw e (same-is f.saved.here (same-finished f.finished))
    same_at i u (no v) = same-is (f.saved.others i v)
        (same-apart ys zs (p.shelf.good i u) (p.ready i u) (others_same ys zs p.shelf l kept.outside i u v) lw)

    none-at : (i : ℕ) → i < k + 1 → Dec (i ≡ k) → NothingFound (set_at b'' i)
    none-at i u (yes e) = rw e (found-is f.saved.here f.finished.all)
    none-at i u (no v) = found-is (f.saved.others i v) (p.none i (omega arith))

-- none of the first k sets of n has newly found members
pub record NoneTo (b : List ℕ) (n k : ℕ) : Type 0 where
  pub few : k ≤ n
  pub none : (i : ℕ) → i < k → NothingFound (set_at b i)
