-- Newly found members become finished, and all members one run, by merges of neighbouring runs.
--     over-to, merged-outside, over-outside       what a merge leaves of a set's part and of what is outside
--     settled             a merge of runs leaves a set all of whose members are finished
--     settled-short, settled-apart, settled-middle, lengthened     each way of it
--     joined              all members are one run
--     found-mergeable, last-mergeable     two runs can be merged
--     spare-places        the places behind the set are spare ones
-- Assumes nothing.
use Prim.Native.Nat.{ℕ, ◌+◌, ◌≤◌}
use native.Mathlib.Omega.{arith}
use mathlib.Core.Path.{◌≡◌, refl, sym, ◌∙◌}
use mathlib.Core.List.{List}
use mathlib.Core.Logic.Iff
use mathlib.Core.Logic.{⊎_elim}
use lib.ListN.{length, get_or}
use Rattle.runs.specs.Runs.{Run, RisingIn, DistinctIn, Same}
use Rattle.runs.proofs.Membership.{distinct-part, run-same}
use Rattle.merging.specs.Steps.{Mergeable, Merged}
use Rattle.merging.proofs.Rearranging.{MergedTo, merged-to, merged-wide, merged-distinct}
use Rattle.merging_wide.specs.Wide.{Spare, MergedOver}
use Rattle.cut_set.specs.Store.{Good, Outside, AllFinished, Joined, NothingAdded, NothingFound}
use Rattle.cut_set.specs.declared.CutSet.{CutSet}
use Rattle.cut_set.proofs.Gathering.{base_done, used-top, used-limit, used-within, still_noted}
use Rattle.cut_set.proofs.Laws.{none-added}
use Rattle.settling.specs.Parts.{parts}

-- a run of no place
empty-run : {xs : List ℕ} {k : ℕ} → k ≤ length xs → Run xs k k
empty-run h = record { order = omega arith; within = h; rising = λ i j l o u. absurd (omega arith) }

pub over-to : {xs ys : List ℕ} {lo hi spare limit : ℕ} → MergedOver xs lo hi spare limit ys → MergedTo xs lo hi spare ys
over-to m = record { rising = m.rising; same = m.same; before = m.before; between = m.between }

-- a merge of some runs, and then of these with the one before or behind them
merged-twice : {xs ys zs : List ℕ} {lo hi low high spare limit : ℕ} → Merged xs lo hi ys → low ≤ lo → hi ≤ high →
    MergedOver ys low high spare limit zs → MergedTo xs low high spare zs
merged-twice {high = high} m l h o = record {
  rising = o.rising;
  same = λ y. Iff.trans (o.same y) (merged-wide (merged-to high m) l h y);
  before = λ k u. o.before k u ∙ m.before k (omega arith);
  between = λ k a b. o.between k a b ∙ m.behind k (omega arith);
}

module _ {xs ys : List ℕ} {s : CutSet} (g : Good xs s) {lo hi : ℕ} (low : s.base ≤ lo) (high : hi ≤ s.used) where
  pub merged-outside : Merged xs lo hi ys → Outside s xs ys
  merged-outside m k o =
      ⊎_elim (λ h. m.before k (omega arith)) (λ h. m.behind k (omega (arith, used-limit g))) o

  pub over-outside : {spare : ℕ} → MergedOver xs lo hi spare s.top ys → Outside s xs ys
  over-outside m k o =
      ⊎_elim (λ h. m.before k (omega arith))
      (λ h. m.behind k (omega (arith, used-limit g)) (omega (arith, g.notes.order))) o

pub spare-places : {xs ys : List ℕ} {s : CutSet} {hi : ℕ} → Good xs s → length ys ≡ length xs → hi ≤ s.used →
    Spare ys hi s.used s.top
spare-places g n h =
    record { behind = h; order = used-top g; within = omega (arith, n, g.notes.order, g.within) }

module _ {xs : List ℕ} {s : CutSet} (g : Good xs s) (e : NothingAdded s) where
  whole : DistinctIn xs s.base s.used
  whole = rw (sym e) g.distinct

  found : Run xs s.done s.used
  found = rw (sym e) g.found_run

  part : {lo hi : ℕ} → s.base ≤ lo → hi ≤ s.used → DistinctIn xs lo hi
  part l h = distinct-part xs l h whole

  module _ {ys : List ℕ} (n : length ys ≡ length xs) where
    -- the newly found run goes into what the first merge made of the middle and the short one
    pub found-mergeable : Merged xs s.long s.done ys → Mergeable ys s.long s.done s.used
    found-mergeable m = record {
      low = record {
        order = omega (arith, g.finished_middle.order, g.finished_short.order);
        within = omega (arith, n, g.finished_short.within);
        rising = m.rising;
      };
      high = run-same {xs = xs} (λ k l u. m.behind k l) n found;
      distinct = merged-distinct (merged-to s.used m) (omega arith) found.order
          (part g.finished_long.order (omega arith));
    }

    -- and that into the long one
    pub last-mergeable : Merged xs s.long s.done ys → Mergeable ys s.base s.long s.done
    last-mergeable m = record {
      low = run-same {xs = xs} (λ k l u. m.before k u) n g.finished_long;
      high = (found-mergeable m).low;
      distinct = merged-distinct (merged-to s.done m) g.finished_long.order (omega arith)
          (part (omega arith) found.order);
    }

    pub settled : {lo hi long mid : ℕ} → s.base ≤ lo → hi ≤ s.used → Run ys s.base long → Run ys long mid →
        Run ys mid s.used → s.used ≤ mid + 512 → MergedTo xs lo hi s.used ys → Outside s xs ys →
        Same xs ys s.top s.limit → AllFinished xs s ys (parts s long mid)
    settled {lo} {hi} {long} {mid} low high a b c few m o same = record {
      kept = record {
        good = record {
          finished_long = a;
          finished_middle = b;
          finished_short = c;
          found_run = empty-run c.within;
          few_finished = few;
          added = omega arith;
          room = omega (arith, used-top g);
          notes = record {
            order = g.notes.order;
            few = g.notes.few;
            noted = λ h y i. still_noted g ys same h y (rw e ((merged-wide m low high y).0 i));
          };
          within = omega (arith, n, g.within);
          distinct = merged-distinct m low high whole;
        };
        base_same = refl;
        limit_same = refl;
        members = merged-wide m low high;
        outside = o;
      };
      used_same = refl;
      all = refl;
    }

    pub settled-short : s.used ≤ s.mid + 512 → Merged xs s.mid s.used ys →
        AllFinished xs s ys (parts s s.long s.mid)
    settled-short few m = settled low (omega arith)
        (run-same {xs = xs} (λ k l u. m.before k (omega (arith, g.finished_middle.order))) n g.finished_long)
        (run-same {xs = xs} (λ k l u. m.before k u) n g.finished_middle)
        (record {
          order = omega (arith, g.finished_short.order, found.order);
          within = omega (arith, n, used-within g);
          rising = m.rising;
        })
        few (merged-to s.used m) (merged-outside g low (omega arith) m)
        (λ k l u. m.behind k (omega (arith, used-top g)))
      where
        low : s.base ≤ s.mid
        low = omega (arith, g.finished_long.order, g.finished_middle.order)

    long_kept : Merged xs s.long s.done ys → Run ys s.base s.long
    long_kept m = run-same {xs = xs} (λ k l u. m.before k u) n g.finished_long

    pub settled-apart : s.used ≤ s.done + 512 → Merged xs s.long s.done ys →
        AllFinished xs s ys (parts s s.long s.done)
    settled-apart few m = settled g.finished_long.order found.order (long_kept m) (found-mergeable m).low
        (found-mergeable m).high few (merged-to s.used m) (merged-outside g g.finished_long.order found.order m)
        (λ k l u. m.behind k (omega (arith, used-top g, found.order)))

  module _ {ys zs : List ℕ} (n : length ys ≡ length xs) (p : length zs ≡ length ys)
      (m : Merged xs s.long s.done ys) where
    -- what stands behind both merges
    behind-both : (k : ℕ) {lo hi : ℕ} → hi ≤ k → s.top ≤ k → MergedOver ys lo hi s.used s.top zs
        → get_or zs k 0 ≡ get_or xs k 0
    behind-both k h t o = o.behind k h t ∙ m.behind k (omega (arith, used-top g, found.order))

    pub settled-middle : MergedOver ys s.long s.used s.used s.top zs →
        AllFinished xs s zs (parts s s.long s.used)
    settled-middle o = settled (p ∙ n) g.finished_long.order (omega arith)
        (run-same {xs = ys} (λ k l u. o.before k u) p (long_kept n m))
        (record {
          order = omega (arith, g.finished_middle.order, g.finished_short.order, found.order);
          within = omega (arith, p, n, used-within g);
          rising = o.rising;
        })
        (empty-run (omega (arith, p, n, used-within g)))
        (omega arith)
        (merged-twice m (omega arith) found.order o)
        (λ k u. ⊎_elim
        (λ h. o.before k (omega (arith, g.finished_long.order)) ∙ m.before k (omega (arith, g.finished_long.order)))
        (λ h. behind-both k (omega (arith, used-limit g)) (omega (arith, g.notes.order)) o)
        u)
        (λ k l u. behind-both k (omega (arith, used-top g)) l o)

    pub joined : NothingFound s → MergedOver ys s.base s.done s.used s.top zs →
        Joined xs s zs (parts s s.used s.used)
    joined d o = record {
      kept = (settled (p ∙ n) (omega arith) found.order
          (record {
            order = omega (arith, base_done g, found.order);
            within = omega (arith, p, n, used-within g);
            rising = all;
          })
          (empty-run (omega (arith, p, n, used-within g)))
          (empty-run (omega (arith, p, n, used-within g)))
          (omega arith)
          (merged-twice m g.finished_long.order (omega arith) o)
          (λ k u. ⊎_elim
          (λ h. o.before k h ∙ m.before k (omega (arith, g.finished_long.order)))
          (λ h. behind-both k (omega (arith, used-limit g, found.order)) (omega (arith, g.notes.order)) o)
          u)
          (λ k l u. behind-both k (omega (arith, used-top g, found.order)) l o)
          ).kept;
      run = all;
    }
      where
        all : RisingIn zs s.base s.used
        all = rw (sym d) o.rising

module _ {xs : List ℕ} {s : CutSet} (g : Good xs s) (d : NothingFound s) where
  pub lengthened : {ys : List ℕ} → length ys ≡ length xs → MergedOver xs s.base s.mid s.used s.top ys →
      AllFinished xs s ys (parts s s.mid s.mid)
  lengthened {ys} n m = settled g (none-added g d) n (omega arith) mid-used
      (record {
        order = omega (arith, g.finished_long.order, g.finished_middle.order);
        within = omega (arith, n, g.finished_middle.within);
        rising = m.rising;
      })
      (empty-run (omega (arith, n, g.finished_middle.within)))
      (run-same {xs = xs} (λ k l u. m.between k l u) n (rw (sym d) g.finished_short))
      (omega (arith, g.few_finished))
      (over-to m)
      (over-outside g (omega arith) mid-used m)
      (λ k l u. m.behind k (omega (arith, used-top g, mid-used)) l)
    where
      mid-used : s.mid ≤ s.used
      mid-used = omega (arith, g.finished_short.order)
