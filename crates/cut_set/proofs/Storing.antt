-- What adding to a set does.
--     outside-same        what is outside a part is outside the same part
--     grown               one place more is used
--     appended            a number in the first unused place is stored
--     gathered-stored     storing after gathering
-- Assumes nothing.
use Prim.Native.Nat.{ℕ, ◌+◌, ◌≤◌, ◌<◌}
use native.Mathlib.Omega.{arith}
use mathlib.Core.Path.{◌≡◌, refl, sym, ◌∙◌}
use mathlib.Core.List.{List}
use mathlib.Core.Logic.Iff
use mathlib.Core.Logic.{◌⊎◌, inl, inr, ⊎_elim}
use lib.ListN.{length, set, length-set}
use lib.Seq.{get_or-set_same, get_or-set_other}
use Rattle.runs.specs.Runs.{In, Same}
use Rattle.runs.proofs.Membership.{in-wide, in_parts, in-same, run-same}
use Rattle.cut_set.specs.Store.{Good, Gathered, Stored, RoomForOne}
use Rattle.cut_set.specs.declared.CutSet.{CutSet}
use Rattle.cut_set.proofs.Gathering.{done-fresh, base-fresh, still_noted}

pub outside-same : (s t : CutSet) {k : ℕ} → t.base ≡ s.base → t.limit ≡ s.limit → (k < s.base) ⊎ (s.limit ≤ k) →
    (k < t.base) ⊎ (t.limit ≤ k)
outside-same s t a b = ⊎_elim (λ h. inl (omega arith)) (λ h. inr (omega arith))

abbrev pub grown : CutSet → CutSet
grown s = record {
  base = s.base;
  long = s.long;
  mid = s.mid;
  done = s.done;
  fresh = s.fresh;
  used = s.used + 1;
  top = s.top;
  limit = s.limit;
}

module _ {xs : List ℕ} {s : CutSet} (x : ℕ) (g : Good xs s) (free : RoomForOne s) where
  here : s.used < length xs
  here = omega (arith, g.notes.order, g.within)

  front : {lo hi : ℕ} → hi ≤ s.used → Same xs (set xs s.used x) lo hi
  front h k l u = get_or-set_other xs s.used k x 0 (λ e. omega arith)

  widen : {lo hi : ℕ} → hi ≤ s.used → (y : ℕ) → In xs lo hi y → In (set xs s.used x) lo hi y
  widen h y i = in-same (front h) i

  narrow : {lo hi : ℕ} → hi ≤ s.used → (y : ℕ) → In (set xs s.used x) lo hi y → In xs lo hi y
  narrow h y i = in-same (λ k l u. sym (front h k l u)) i

  pub appended : Stored (λ y. y ≡ x) xs s (set xs s.used x) (grown s)
  appended = record {
    good = record {
      finished_long = run-same {xs = xs}
          (front (omega (arith, g.finished_middle.order, g.finished_short.order, done-fresh g, g.added))) n
          g.finished_long;
      finished_middle = run-same {xs = xs}
          (front (omega (arith, g.finished_short.order, done-fresh g, g.added))) n g.finished_middle;
      finished_short = run-same {xs = xs} (front (omega (arith, done-fresh g, g.added))) n g.finished_short;
      found_run = run-same {xs = xs} (front g.added) n g.found_run;
      few_finished = g.few_finished;
      added = omega (arith, g.added);
      room = omega arith;
      notes = record {
        order = g.notes.order;
        few = g.notes.few;
        noted = λ h y i. still_noted g (set xs s.used x) (λ k l u. get_or-set_other xs s.used k x 0 (λ e. omega arith))
            h y (narrow g.added y i);
      };
      within = omega (arith, n, g.within);
      distinct = λ i j il ih jl jh e. g.distinct i j il ih jl jh
          (sym (front g.added i il ih) ∙ e ∙ front g.added j jl jh);
    };
    base_same = refl;
    limit_same = refl;
    done_same = refl;
    finished = λ y. (narrow below y, widen below y);
    stays = λ y i. in-wide (omega arith) (omega arith) (widen (omega arith) y i);
    run_kept = λ y i. widen g.added y i;
    only = λ y i. ⊎_elim
        (λ j. inl (narrow (omega arith) y j))
        (λ j. let e : j.place ≡ s.used = omega (arith, j.from, j.below) in
        inr (sym (rw e at j.is) ∙ get_or-set_same xs s.used x 0 here))
        (in_parts s.used i);
    held = λ y e. record {
      place = s.used;
      from = omega (arith, base-fresh g, g.added);
      below = omega arith;
      is = get_or-set_same xs s.used x 0 here ∙ sym e;
    };
    more = omega arith;
    outside = λ k o. get_or-set_other xs s.used k x 0
        (λ e. ⊎_elim (λ h. omega (arith, base-fresh g, g.added)) (λ h. omega (arith, g.notes.order)) o);
  }
    where
      n : length (set xs s.used x) ≡ length xs
      n = length-set xs s.used x

      below : s.done ≤ s.used
      below = omega (arith, done-fresh g, g.added)

pub gathered-stored : {P : ℕ → Type 0} {xs ys zs : List ℕ} {s t u : CutSet} → Gathered xs s zs t → Stored P zs t ys u →
    Stored P xs s ys u
gathered-stored {s = s} {t = t} g p = record {
  good = p.good;
  base_same = p.base_same ∙ g.kept.base_same;
  limit_same = p.limit_same ∙ g.kept.limit_same;
  done_same = p.done_same ∙ g.done_same;
  finished = λ y. Iff.trans (p.finished y) (g.finished y);
  stays = λ y i. p.stays y ((g.kept.members y).1 i);
  run_kept = λ y i. p.run_kept y (g.run_kept y i);
  only = λ y i. ⊎_elim (λ q. inl (g.only y q)) inr (p.only y i);
  held = p.held;
  more = omega (arith, g.more, p.more);
  outside = λ k o. p.outside k (outside-same s t g.kept.base_same g.kept.limit_same o) ∙ g.kept.outside k o;
}
