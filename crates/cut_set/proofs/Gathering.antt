-- What was added to a set is sorted, what is new of it is kept and merged with the newly found run.
--     base_done, done-fresh, base-fresh, used-top, used-limit, used-within     the order of the ends of a set's runs
--     has-notes, still_noted      the notes of a set, and that they stay
--     sorted_apart        then it is a run behind the others
--     new-mergeable, new-spare    what is new can be merged with the newly found run
--     gathered-set        the set that gathering leaves
--     gathered            it keeps the members
-- Assumes nothing.
use Prim.Native.Nat.{ℕ, ◌≤◌, ◌<◌}
use native.Mathlib.Omega.{arith}
use mathlib.Core.Path.{◌≡◌, refl, sym, ◌∙◌}
use mathlib.Core.List.{List}
use mathlib.Core.Logic.{◌↔◌, ◌⊎◌, inl, inr, ⊎_elim}
use lib.ListN.{length, get_or}
use Rattle.runs.specs.Runs.{In, DistinctIn, Same}
use Rattle.runs.proofs.Membership.{lt-or-le, in-wide, in_parts, in-or-not, in-same, rising-distinct, distinct-part, run-same}
use Rattle.merging.specs.Steps.{Mergeable}
use Rattle.merging.proofs.Rearranging.{MergedTo, merged-wide, merged-distinct}
use Rattle.merging_wide.specs.Wide.{Spare, MergedOver}
use Rattle.sorting.specs.Sorting.{Sorted}
use Rattle.noting.specs.Notes.{Notes, Noted, Remembered}
use Rattle.noting.proofs.Noting.{noted-same}
use Rattle.cut_set.specs.Store.{Good, Gathered, SortedApart, NewOnes}
use Rattle.cut_set.specs.declared.CutSet.{CutSet}

module _ {xs : List ℕ} {s : CutSet} (g : Good xs s) where
  pub base_done : s.base ≤ s.done
  base_done = omega (arith, g.finished_long.order, g.finished_middle.order, g.finished_short.order)

  pub done-fresh : s.done ≤ s.fresh
  done-fresh = g.found_run.order

  pub base-fresh : s.base ≤ s.fresh
  base-fresh = omega (arith, base_done, done-fresh)

  pub used-top : s.used ≤ s.top
  used-top = omega (arith, g.room)

  pub used-limit : s.used ≤ s.limit
  used-limit = omega (arith, used-top, g.notes.order)

  pub used-within : s.used ≤ length xs
  used-within = omega (arith, used-limit, g.within)

  pub has-notes : s.top < s.limit → Notes xs s.top s.limit
  has-notes h = record { some = h; few = g.notes.few; within = g.within }

  -- what was noted is noted where the notes stand as they did
  pub still_noted : (ys : List ℕ) → Same xs ys s.top s.limit → s.top < s.limit
      → (y : ℕ) → In xs s.base s.fresh y → Noted ys s.top s.limit y
  still_noted ys e h y i = noted-same ys (has-notes h) e y (g.notes.noted h y i)

-- the set with its newly found run up to `end`, and nothing added behind it
abbrev pub gathered_to : CutSet → ℕ → CutSet
gathered_to s end = record {
  base = s.base;
  long = s.long;
  mid = s.mid;
  done = s.done;
  fresh = end;
  used = end;
  top = s.top;
  limit = s.limit;
}

module _ {xs ys : List ℕ} {s : CutSet} {end : ℕ} (g : Good xs s) (n : length ys ≡ length xs)
    (p : Sorted xs s.fresh s.used s.used ys end) where
  same-front : {lo hi : ℕ} → hi ≤ s.fresh → Same xs ys lo hi
  same-front h k l u = p.kept.before k (omega arith)

  notes-same : Same xs ys s.top s.limit
  notes-same k l u = p.kept.behind k (omega (arith, used-top g)) (omega (arith, g.room))

  pub sorted_apart : SortedApart ys s end
  sorted_apart = record {
    standing = record {
      finished_long = run-same {xs = xs}
          (same-front (omega (arith, g.finished_middle.order, g.finished_short.order, done-fresh g))) n
          g.finished_long;
      finished_middle = run-same {xs = xs} (same-front (omega (arith, g.finished_short.order, done-fresh g))) n
          g.finished_middle;
      finished_short = run-same {xs = xs} (same-front (done-fresh g)) n g.finished_short;
      found_run = run-same {xs = xs} (same-front (omega arith)) n g.found_run;
      notes = record {
        order = g.notes.order;
        few = g.notes.few;
        noted = λ h y i. still_noted g ys notes-same h y (in-same (λ k l u. sym (same-front (omega arith) k l u)) i);
      };
      within = omega (arith, n, g.within);
    };
    added = record { order = p.from; within = omega (arith, n, p.to, used-within g); rising = p.rising };
    apart = omega (arith, p.to, used-top g);
  }

  module _ {zs : List ℕ} {r : ℕ} (m : length zs ≡ length ys) (q : NewOnes ys s end zs r) where
    front : {lo hi : ℕ} → hi ≤ s.fresh → Same xs zs lo hi
    front h k l u = q.before k (omega arith) ∙ p.kept.before k (omega arith)

    r-used : r ≤ s.used
    r-used = omega (arith, q.to, p.to)

    -- no number at [fresh, r) stands before
    apart : (y : ℕ) → In zs s.fresh r y → In xs s.base s.fresh y → ⊥
    apart y i j = ((q.same y).0 i).1 (in-same (λ k l u. p.kept.before k u) j)

    distinct : DistinctIn zs s.base r
    distinct i j il ih jl jh e = go (lt-or-le i s.fresh) (lt-or-le j s.fresh)
      where
        here : (k : ℕ) → s.base ≤ k → k < s.fresh → In xs s.base s.fresh (get_or zs k 0)
        here k l u = record { place = k; from = l; below = u; is = sym (front (omega arith) k l u) }

        go : (i < s.fresh) ⊎ (s.fresh ≤ i) → (j < s.fresh) ⊎ (s.fresh ≤ j) → i ≡ j
        go (inl a) (inl b) = g.distinct i j il a jl b
            (sym (front (omega arith) i il a) ∙ e ∙ front (omega arith) j jl b)
        go (inl a) (inr b) =
            absurd (apart (get_or zs i 0) (record { place = j; from = b; below = jh; is = sym e }) (here i il a))
        go (inr a) (inl b) =
            absurd (apart (get_or zs j 0) (record { place = i; from = a; below = ih; is = e }) (here j jl b))
        go (inr a) (inr b) = rising-distinct zs q.rising i j a ih b jh e

    pub new-mergeable : Mergeable zs s.done s.fresh r
    new-mergeable = record {
      low = run-same {xs = xs} (front (omega arith)) (m ∙ n) g.found_run;
      high = record {
        order = q.from;
        within = omega (arith, m, n, r-used, used-within g);
        rising = q.rising;
      };
      distinct = distinct-part zs (base_done g) (omega arith) distinct;
    }

    r_top : r ≤ s.top
    r_top = omega (arith, r-used, used-top g)

    pub new-spare : Spare zs r r s.top
    new-spare = record {
      behind = omega arith;
      order = r_top;
      within = omega (arith, m, n, g.notes.order, g.within);
    }

    module _ {us ws : List ℕ} (t : length us ≡ length zs) (w : length ws ≡ length us)
        (o : MergedOver zs s.done r r s.top us) (v : Remembered us s.done r s.top s.limit ws) where
      l : length ws ≡ length zs
      l = w ∙ t

      -- what is noted stands behind the members
      low : (k : ℕ) → k < r → get_or ws k 0 ≡ get_or us k 0
      low k h = v.only k (inl (omega (arith, r_top)))

      merged : MergedTo zs s.done r r ws
      merged = record {
        rising = λ i j a b c. rw (low i (omega arith), low j c) (o.rising i j a b c);
        same = λ y. (
          λ i. (o.same y).0 (in-same (λ k a b. sym (low k b)) i),
          λ i. in-same (λ k a b. low k b) ((o.same y).1 i),
        );
        before = λ k h. low k (omega (arith, done-fresh g, q.from)) ∙ o.before k h;
        between = λ k a b. absurd (omega arith);
      }

      start : {lo hi : ℕ} → hi ≤ s.done → Same xs ws lo hi
      start h k a b = merged.before k (omega arith) ∙ front (omega (arith, done-fresh g)) k a b

      behind : (k : ℕ) → s.top ≤ k → get_or us k 0 ≡ get_or xs k 0
      behind k h = o.behind k (omega (arith, r_top)) h ∙ q.behind k (omega (arith, p.to, used-top g))
          ∙ p.kept.behind k (omega (arith, used-top g)) (omega (arith, g.room))

      noted : s.top < s.limit → (y : ℕ) → In ws s.base r y → Noted ws s.top s.limit y
      noted h y i = ⊎_elim
          (λ j. (v.noted h).still y (still_noted g us (λ k a b. behind k a) h y
          (in-wide (omega arith) (done-fresh g) (in-same (λ k a b. sym (start (omega arith) k a b)) j))))
          (λ j. (v.noted h).now y (in-same (λ k a b. sym (low k b)) j))
          (in_parts s.done i)

      good : Good ws (gathered_to s r)
      good = record {
        finished_long = run-same {xs = xs}
            (start (omega (arith, g.finished_middle.order, g.finished_short.order))) (l ∙ m ∙ n) g.finished_long;
        finished_middle = run-same {xs = xs} (start g.finished_short.order) (l ∙ m ∙ n) g.finished_middle;
        finished_short = run-same {xs = xs} (start (omega arith)) (l ∙ m ∙ n) g.finished_short;
        found_run = record {
          order = omega (arith, done-fresh g, q.from);
          within = omega (arith, l, m, n, r-used, used-within g);
          rising = merged.rising;
        };
        few_finished = g.few_finished;
        added = omega arith;
        room = omega (arith, r_top);
        notes = record { order = g.notes.order; few = g.notes.few; noted = noted };
        within = omega (arith, l, m, n, g.within);
        distinct = merged-distinct merged (base_done g) (omega arith) distinct;
      }

      to-zs : (lo : ℕ) → lo ≤ s.done → (y : ℕ) → In ws lo r y ↔ In zs lo r y
      to-zs lo h y = merged-wide merged h (omega arith) y

      back : (lo : ℕ) → lo ≤ s.fresh → (y : ℕ) → In zs lo r y → In xs lo s.used y
      back lo h y i = ⊎_elim
          (λ j. in-wide (omega arith) g.added (in-same (λ k a b. sym (front (omega arith) k a b)) j))
          (λ j. in-wide h (omega arith) ((p.same y).0 ((q.same y).0 j).0))
          (in_parts s.fresh i)

      forth : (y : ℕ) → In xs s.base s.used y → In zs s.base r y
      forth y i = ⊎_elim old
          (λ j. ⊎_elim old
          (λ no_one. in-wide (base-fresh g) (omega arith) ((q.same y).1 (
            (p.same y).1 j,
            λ v.
                no_one (in-same (λ k a b. sym (p.kept.before k b)) v),
          )))
          (in-or-not xs s.base s.fresh y))
          (in_parts s.fresh i)
        where
          old : In xs s.base s.fresh y → In zs s.base r y
          old j = in-wide (omega arith) q.from (in-same (front (omega arith)) j)

      pub gathered : Gathered xs s ws (gathered_to s r)
      gathered = record {
        kept = record {
          good = good;
          base_same = refl;
          limit_same = refl;
          members = λ y. (
            λ i. back s.base (base-fresh g) y ((to-zs s.base (base_done g) y).0 i),
            λ i. (to-zs s.base (base_done g) y).1 (forth y i),
          );
          outside = λ k u. ⊎_elim
              (λ h. start {lo = 0} (base_done g) k (omega arith) h)
              (λ h. v.only k (inr h) ∙ behind k (omega (arith, g.notes.order)))
              u;
        };
        done_same = refl;
        finished = λ y. (
          in-same (λ k a b. sym (start (omega arith) k a b)),
          in-same (start (omega arith)),
        );
        only = λ y i. back s.done (done-fresh g) y ((merged.same y).0 i);
        run_kept = λ y i. (merged.same y).1
            (in-wide (omega arith) q.from (in-same (front (omega arith)) i));
        more = q.from;
        run = merged.rising;
        ready = refl;
      }
