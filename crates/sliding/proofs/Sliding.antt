-- Sets of a shelf that slide.
--     set-good            what is known of one set of a shelf
--     bared, moved_to     one set of a shelf is gathered, or moved
--     Baring              the invariant of the loop that gathers: the sets before u are gathered and without notes
--     baring-step         one set more
--     Packing             the invariant of the loop that packs: the sets before u stand at the front, and end at `at`
--     packing-order, packing-between, packing-step    the same; and that a set can be moved there
--     Spreading           the invariant of the loop that spreads: the sets from u on are spread, the others end before `end`
--     spreading-order, spreading-free, spreading-between, spreading-step      the same
--     room-none, room-made    what making room does, by its answer
-- Assumes nothing.
use Prim.Native.Nat.{ℕ, ◌+◌, ◌-◌, ◌≤◌, ◌<◌}
use native.Mathlib.Omega.{arith}
use native.Mathlib.Decide.{ℕ_discrete}
use native.Mathlib.Numerals.{add-one}
use mathlib.Core.Path.{◌≡◌, refl, sym, ap, ◌∙◌}
use mathlib.Core.List.{List}
use mathlib.Core.Bool.{true, false, true≢false}
use mathlib.Core.Logic.{⊎_elim, dite, ◌≢◌}
use lib.ListN.{length}
use Rattle.runs.proofs.Membership.{lt-or-le}
use Rattle.cut_set.specs.Store.{Good, GatheredBare}
use Rattle.cut_set.specs.declared.CutSet.{CutSet}
use Rattle.cut_set.proofs.Gathering.{base-fresh, used-limit}
use Rattle.runs.specs.Runs.{Same}
use Rattle.shelf.specs.Shelf.{set_at, Outside, Shelf, GrownShelf, Saved, MadeRoom, filled}
use Rattle.shelf.proofs.Shelving.{shelf-then, shelf-as, gathered-grown, good-is, base_is, limit_is}
use Rattle.shelf.proofs.Shelving.{set-moved, set_grown, filled_same}
use Rattle.moving.specs.Moving.{Bare, MovedSet}
use Rattle.sliding.specs.Sliding.{Slidable, Slid, Bared, Between, MovedTo, Packed, Leaving, Spread}

-- no number comes when sets slide, and none when they slide again
grown-then : {n lo hi : ℕ} {xs b ys b' zs b'' : List ℕ} → GrownShelf (λ i y. ⊥) n lo hi xs b ys b' →
    GrownShelf (λ i y. ⊥) n lo hi ys b' zs b'' → GrownShelf (λ i y. ⊥) n lo hi xs b zs b''
grown-then p q = shelf-as (shelf-then p q) (λ i l y. (⊎_elim (λ h. h) (λ h. h), λ h. absurd h))

-- none of one set is none of any
grown-none : {n lo hi u : ℕ} {xs b ys b' : List ℕ} → GrownShelf (λ i y. (i ≡ u) × ⊥) n lo hi xs b ys b' →
    GrownShelf (λ i y. ⊥) n lo hi xs b ys b'
grown-none p = shelf-as p (λ i l y. (λ h. h.1, λ h. absurd h))

slid-then : {n lo hi : ℕ} {xs b ys b' zs b'' : List ℕ} → Slid n lo hi xs b ys b' → Slid n lo hi ys b' zs b'' →
    Slid n lo hi xs b zs b''
slid-then p q = record { grown = grown-then p.grown q.grown; bare = q.bare }

-- what is known of a set holds of one that is the same
bare-is : {s t : CutSet} → s ≡ t → Bare t → Bare s
bare-is e g = rw e g

fresh_is : {s t : CutSet} → s ≡ t → s.fresh ≡ t.fresh
fresh_is e = ap (λ s. s.fresh) e

used_is : {s t : CutSet} → s ≡ t → s.used ≡ t.used
used_is e = ap (λ s. s.used) e

pub set-good : {xs b : List ℕ} {n lo hi u : ℕ} {s : CutSet} → Shelf xs b n lo hi → u < n → s ≡ set_at b u → Good xs s
set-good {u = u} f h e = good-is e (f.good u h)

module _ {xs b ys b' : List ℕ} {n lo hi u : ℕ} {s t : CutSet} (length_work : length ys ≡ length xs)
    (length_book : length b' ≡ length b) (e : s ≡ set_at b u) (saved : Saved b u t b') where
  pub bared : Shelf xs b n lo hi → u < n → GatheredBare xs s ys t → Bared n lo hi u xs b ys b'
  bared f h p = record {
    grown = grown-none (set_grown f h g.gathered.kept.good (gathered-grown g.gathered) saved length_work
        length_book g.gathered.kept.base_same g.gathered.kept.limit_same g.gathered.kept.outside);
    here = bare-is saved.here (record { ready = g.gathered.ready; none = g.none });
    others = saved.others;
  }
    where
      g : GatheredBare xs (set_at b u) ys t
      g = rw e at p

  pub moved_to : {base limit : ℕ} → Slidable xs b n lo hi → Between b n lo hi u base limit →
      MovedSet xs s base limit ys t → MovedTo n lo hi u base limit xs b ys b'
  moved_to {base} {limit} f p m = record {
    slid = record {
      grown = grown-none (set-moved f.shelf p.index q.good q.grown saved length_work length_book
          (omega (arith, base_is q.is, p.from)) (omega (arith, limit_is q.is, p.to))
          (λ i l. omega (arith, base_is q.is, p.below i l)) (λ i l h. omega (arith, limit_is q.is, p.above i l h))
          same outside);
      bare = λ i l. dite (ℕ_discrete i u)
          (λ c. rw c (bare-is (saved.here ∙ q.is) (record { ready = refl; none = refl })))
          (λ d. bare-is (saved.others i d) (f.bare i l));
    };
    here = saved.here ∙ q.is;
    others = saved.others;
  }
    where
      q : MovedSet xs (set_at b u) base limit ys t
      q = rw e at m

      same : (i : ℕ) → i < n → i ≢ u → Same xs ys (set_at b i).base (set_at b i).limit
      same i l d k low high = ⊎_elim
          (λ h. q.before k (omega (arith, p.below i h)))
          (λ h. q.behind k (omega (arith, p.above i (omega arith) l)))
          (lt-or-le i u)

      outside : Outside lo hi xs ys
      outside k = ⊎_elim (λ h. q.before k (omega (arith, p.from))) (λ h. q.behind k (omega (arith, p.to)))

-- the sets before u are gathered and have no notes
pub record Baring (n lo hi : ℕ) (xs b ys b' : List ℕ) (u : ℕ) : Type 0 where
  pub most : u ≤ n
  pub lengths : length ys ≡ length xs
  pub grown : GrownShelf (λ i y. ⊥) n lo hi xs b ys b'
  pub bare : (i : ℕ) → i < u → Bare (set_at b' i)

pub baring-step : {n lo hi u : ℕ} {xs b ys b' zs b'' : List ℕ} → Baring n lo hi xs b ys b' u → u < n →
    length zs ≡ length ys → Bared n lo hi u ys b' zs b'' → Baring n lo hi xs b zs b'' (u + 1)
baring-step {u = u} p h m q = record {
  most = omega arith;
  lengths = m ∙ p.lengths;
  grown = grown-then p.grown q.grown;
  bare = λ i l. dite (ℕ_discrete i u)
      (λ e. rw e q.here)
      (λ d. bare-is (q.others i d) (p.bare i (omega arith)));
}

-- no place before `at` is free, and the sets from u on stand behind it
pub record Packing (n lo hi : ℕ) (xs b ys b' : List ℕ) (at u : ℕ) : Type 0 where
  pub most : u ≤ n
  pub lengths : length ys ≡ length xs
  pub slid : Slid n lo hi xs b ys b'
  pub sum : at ≡ lo + filled b' u
  pub fits : at ≤ hi
  pub below : (i : ℕ) → i < u → (set_at b' i).limit ≤ at
  pub above : (i : ℕ) → u ≤ i → i < n → at ≤ (set_at b' i).base

-- s is the set number u, as it was read from the book
module _ {n lo hi at u : ℕ} {xs b ys b' : List ℕ} {s : CutSet} (p : Packing n lo hi xs b ys b' at u) (h : u < n)
    (read : s ≡ set_at b' u) where
  shelf : Shelf ys b' n lo hi
  shelf = p.slid.grown.shelf

  good : Good ys s
  good = set-good shelf h read

  pub packing-order : s.base ≤ s.used
  packing-order = omega (arith, base-fresh good, good.added)

  -- the set will not end behind where it ends
  ends : at + (s.used - s.base) ≤ (set_at b' u).limit
  ends = omega (arith, base_is read, limit_is read, p.above u (omega arith) h, packing-order, used-limit good)

  pub packing-between : Between b' n lo hi u at (at + (s.used - s.base))
  packing-between = record {
    index = h;
    from = omega (arith, p.sum);
    to = omega (arith, ends, shelf.to u h);
    below = p.below;
    above = λ i l k. omega (arith, ends, shelf.order u i l k);
    fits = omega (arith, base_is read, used_is read);
  }

  pub packing-step : {zs b'' : List ℕ} → length zs ≡ length ys →
      MovedTo n lo hi u at (at + (s.used - s.base)) ys b' zs b'' →
      Packing n lo hi xs b zs b'' (at + (s.used - s.base)) (u + 1)
  packing-step {zs} {b''} m q = record {
    most = omega arith;
    lengths = m ∙ p.lengths;
    slid = slid-then p.slid q.slid;
    sum = rw (add-one u) (omega (
      arith,
      p.sum,
      base_is read,
      used_is read,
      base_is q.here,
      fresh_is q.here,
      filled_same b' b'' u (λ i l. let e : set_at b'' i ≡ set_at b' i = q.others i (λ c. omega arith) in
          omega (arith, base_is e, fresh_is e)),
    ));
    fits = packing-between.to;
    below = λ i l. dite (ℕ_discrete i u)
        (λ c. rw c (omega (arith, limit_is q.here)))
        (λ d. omega (arith, limit_is (q.others i d), p.below i (omega arith)));
    above = λ i l k. omega (arith, base_is (q.others i (λ c. omega arith)), packing-between.above i (omega arith) k);
  }

-- the sets from u on stand behind `end`; the reserve is the set's number j, or is left before `end`
pub record Spreading (n lo hi j reserve : ℕ) (xs b ys b' : List ℕ) (end u : ℕ) : Type 0 where
  pub most : u ≤ n
  pub lengths : length ys ≡ length xs
  pub slid : Slid n lo hi xs b ys b'
  pub fits : end ≤ hi
  pub below : (i : ℕ) → i < u → (set_at b' i).limit ≤ end
  pub above : (i : ℕ) → u ≤ i → i < n → end ≤ (set_at b' i).base
  pub left : j < u → (i : ℕ) → i < u → (set_at b' i).used + reserve ≤ end
  pub there : u ≤ j → (set_at b' j).used + reserve ≤ (set_at b' j).limit

-- s is the set before the one number v, as it was read from the book
module _ {n lo hi j reserve end v : ℕ} {xs b ys b' : List ℕ} {s : CutSet} (u : ℕ) (before : v ≡ u + 1)
    (p : Spreading n lo hi j reserve xs b ys b' end v) (read : s ≡ set_at b' u) where
  kept : Shelf ys b' n lo hi
  kept = p.slid.grown.shelf

  inside : u < n
  inside = omega (arith, p.most)

  whole : Good ys s
  whole = set-good kept inside read

  pub spreading-order : s.base ≤ s.used
  spreading-order = omega (arith, base-fresh whole, whole.added)

  pub spreading-free : s.used ≤ end
  spreading-free = omega (arith, limit_is read, used-limit whole, p.below u (omega arith))

  module _ {room : ℕ} (l : Leaving (end - s.used) u j reserve room) where
    pub spreading-between : Between b' n lo hi u (s.base + (end - s.used - room)) end
    spreading-between = record {
      index = inside;
      from = omega (arith, base_is read, kept.from u inside);
      to = p.fits;
      below = λ i h. omega (arith, base_is read, kept.order i u h inside);
      above = λ i h k. p.above i (omega arith) k;
      fits = omega (arith, base_is read, used_is read, spreading-free, spreading-order);
    }

    pub spreading-step : {zs b'' : List ℕ} → length zs ≡ length ys →
        MovedTo n lo hi u (s.base + (end - s.used - room)) end ys b' zs b'' →
        Spreading n lo hi j reserve xs b zs b'' (s.base + (end - s.used - room)) u
    spreading-step {zs} {b''} m q = record {
      most = omega arith;
      lengths = m ∙ p.lengths;
      slid = slid-then p.slid q.slid;
      fits = omega (arith, p.fits, spreading-free, spreading-order);
      below = λ i h. omega (arith, limit_is (q.others i (λ c. omega arith)), spreading-between.below i h);
      above = λ i h k. dite (ℕ_discrete i u)
          (λ c. rw c (omega (arith, base_is q.here)))
          (λ d. omega (arith, base_is (q.others i d), p.above i (omega arith) k, spreading-free, spreading-order));
      left = λ h i k. omega (
        arith,
        used_is (q.others i (λ c. omega arith)),
        kept.order i u k inside,
        base_is read,
        used-limit (kept.good i (omega arith)),
        l.above h (slack (omega arith)),
      );
      there = λ h. dite (ℕ_discrete u j)
          (λ c. rw (← c) (omega (
            arith,
            used_is q.here,
            limit_is q.here,
            base_is read,
            used_is read,
            l.here c (slack (omega arith)),
            l.most,
            spreading-free,
            spreading-order,
          )))
          (λ d. omega (
            arith,
            used_is (q.others j (λ c. d (sym c))),
            limit_is (q.others j (λ c. d (sym c))),
            p.there (omega arith),
          ));
    }
      where
        slack : j < v → reserve ≤ end - s.used
        slack h = omega (arith, used_is read, p.left h u (omega arith))

pub room-none : {n lo hi j r : ℕ} {xs b ys b' zs b'' : List ℕ} → Slid n lo hi xs b ys b' →
    Packed n lo hi ys b' zs b'' r → r ≡ hi → MadeRoom n lo hi j xs b zs b'' false
room-none s p e = record {
  slid = grown-then s.grown p.slid.grown;
  ready = λ i l. (p.slid.bare i l).ready;
  room = λ f. absurd (true≢false (sym f));
  full = λ f. omega (arith, p.sum);
}

pub room-made : {n lo hi j r reserve : ℕ} {xs b ys b' zs b'' ws b''' : List ℕ} → Slid n lo hi xs b ys b' →
    Packed n lo hi ys b' zs b'' r → Spread n lo hi j reserve zs b'' ws b''' → 0 < reserve →
    MadeRoom n lo hi j xs b ws b''' true
room-made s p q h = record {
  slid = grown-then s.grown (grown-then p.slid.grown q.slid.grown);
  ready = λ i l. (q.slid.bare i l).ready;
  room = λ f. omega (arith, q.room);
  full = λ f. absurd (true≢false f);
}
