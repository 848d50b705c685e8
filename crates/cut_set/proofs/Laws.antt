-- Laws of a set for the crates above.
--     done-used           newly found members end behind the finished ones
--     good-same           a set stays where its part of the list stays
--     none-added          where nothing is newly found, nothing was added
--     stored-none         nothing is to be stored that is not there
--     stored-then         storing numbers with P, and then numbers with Q
--     stored-wide         storing numbers with P, where those with Q are then members
--     stored_same         storing numbers with P, which are those with Q
--     cramped-wide        no room for one with P is none for one with Q
--     cramped-then        storing numbers with P, and then no room for one with Q
-- Not here: what stays of a run, Membership.in-same; which members a walk meets, Searching.walk_from.
-- Assumes nothing.
use Prim.Native.Nat.{ℕ, ◌≤◌}
use native.Mathlib.Omega.{arith}
use mathlib.Core.Path.{◌≡◌, refl, sym, ◌∙◌}
use mathlib.Core.List.{List}
use mathlib.Core.Logic.Iff
use mathlib.Core.Logic.{◌↔◌, ◌⊎◌, inl, inr, ⊎_elim}
use lib.ListN.{length}
use Rattle.runs.specs.Runs.{Run, Same}
use Rattle.runs.proofs.Membership.{in-same, run-same}
use Rattle.cut_set.specs.Store.{Good, Member, NothingFound, NothingAdded}
use Rattle.cut_set.specs.Store.{Stored, Cramped}
use Rattle.cut_set.specs.declared.CutSet.{CutSet}
use Rattle.cut_set.proofs.Gathering.{base_done, done-fresh, used-top, used-limit, still_noted}
use Rattle.cut_set.proofs.Storing.{outside-same}

pub done-used : {xs : List ℕ} {s : CutSet} → Good xs s → s.done ≤ s.used
done-used g = omega (arith, done-fresh g, g.added)

pub good-same : (xs ys : List ℕ) {s : CutSet} → Same xs ys s.base s.limit → length ys ≡ length xs → Good xs s →
    Good ys s
good-same xs ys {s} same n g = record {
  finished_long = run (omega arith) (omega (arith, middle, short, done-used g)) g.finished_long;
  finished_middle = run g.finished_long.order (omega (arith, short, done-used g)) g.finished_middle;
  finished_short = run (omega (arith, g.finished_long.order, middle)) (done-used g) g.finished_short;
  found_run = run (base_done g) g.added g.found_run;
  few_finished = g.few_finished;
  added = g.added;
  room = g.room;
  notes = record {
    order = g.notes.order;
    few = g.notes.few;
    noted = λ h y i. still_noted g ys (λ k l u. same k (omega (arith, base_done g, done-used g, used-top g)) u) h y
        (in-same (λ k l u. sym (same k l (omega (arith, g.added, used-limit g)))) i);
  };
  within = omega (arith, n, g.within);
  distinct = λ i j il ih jl jh e. g.distinct i j il ih jl jh
      (sym (same i il (omega (arith, g.added, used-limit g))) ∙ e ∙ same j jl (omega (arith, g.added, used-limit g)));
}
  where
    middle : s.long ≤ s.mid
    middle = g.finished_middle.order

    short : s.mid ≤ s.done
    short = g.finished_short.order

    run : {lo hi : ℕ} → s.base ≤ lo → hi ≤ s.used → Run xs lo hi → Run ys lo hi
    run l h p = run-same {xs = xs} (λ k a b. same k (omega arith) (omega (arith, used-limit g))) n p

pub none-added : {xs : List ℕ} {s : CutSet} → Good xs s → NothingFound s → NothingAdded s
none-added g e = omega (arith, done-fresh g, g.added)

pub stored-none : {P : ℕ → Type 0} {xs : List ℕ} {s : CutSet} → Good xs s → ((y : ℕ) → P y → Member xs s y) →
    Stored P xs s xs s
stored-none g h = record {
  good = g;
  base_same = refl;
  limit_same = refl;
  done_same = refl;
  finished = λ y. Iff.rfl;
  stays = λ y p. p;
  run_kept = λ y p. p;
  only = λ y p. inl p;
  held = h;
  more = omega arith;
  outside = λ k o. refl;
}

pub stored-then : {P Q : ℕ → Type 0} {xs ys zs : List ℕ} {s t u : CutSet} → Stored P xs s ys t → Stored Q ys t zs u →
    Stored (λ y. P y ⊎ Q y) xs s zs u
stored-then {xs = xs} {ys} {zs} {s} {t} {u} p q = record {
  good = q.good;
  base_same = q.base_same ∙ p.base_same;
  limit_same = q.limit_same ∙ p.limit_same;
  done_same = q.done_same ∙ p.done_same;
  finished = λ y. Iff.trans (q.finished y) (p.finished y);
  stays = λ y m. q.stays y (p.stays y m);
  run_kept = λ y m. q.run_kept y (p.run_kept y m);
  only = λ y m. ⊎_elim
      (λ f. ⊎_elim inl (λ h. inr (inl h)) (p.only y f))
      (λ h. inr (inr h))
      (q.only y m);
  held = λ y h. ⊎_elim (λ h'. q.stays y (p.held y h')) (q.held y) h;
  more = omega (arith, p.more, q.more);
  outside = λ k o. q.outside k (outside-same s t p.base_same p.limit_same o) ∙ p.outside k o;
}

pub stored-wide : {P Q : ℕ → Type 0} {xs ys : List ℕ} {s t : CutSet} → ((y : ℕ) → P y → Q y)
    → ((y : ℕ) → Q y → Member ys t y) → Stored P xs s ys t → Stored Q xs s ys t
stored-wide w h p = record {
  good = p.good;
  base_same = p.base_same;
  limit_same = p.limit_same;
  done_same = p.done_same;
  finished = p.finished;
  stays = p.stays;
  run_kept = p.run_kept;
  only = λ y m. ⊎_elim inl (λ q. inr (w y q)) (p.only y m);
  held = h;
  more = p.more;
  outside = p.outside;
}

pub stored_same : {P Q : ℕ → Type 0} {xs ys : List ℕ} {s t : CutSet} → ((y : ℕ) → P y ↔ Q y) → Stored P xs s ys t →
    Stored Q xs s ys t
stored_same e p = stored-wide (λ y. (e y).0) (λ y q. p.held y ((e y).1 q)) p

pub cramped-wide : {P Q : ℕ → Type 0} {xs ys : List ℕ} {s t : CutSet} → ((y : ℕ) → P y → Q y) → Cramped P xs s ys t →
    Cramped Q xs s ys t
cramped-wide w c = record {
  stored = stored-wide (λ y h. (w y h.0, h.1)) (λ y h. h.1) c.stored;
  ready = c.ready;
  bare = c.bare;
  crowded = record {
    full = c.crowded.full;
    missing = c.crowded.missing;
    wanted = w c.crowded.missing c.crowded.wanted;
    absent = c.crowded.absent;
  };
}

pub cramped-then : {P Q : ℕ → Type 0} {xs ys zs : List ℕ} {s t u : CutSet} → Stored P xs s ys t → Cramped Q ys t zs u →
    Cramped (λ y. P y ⊎ Q y) xs s zs u
cramped-then p c = record {
  stored = stored-wide
      (λ y. ⊎_elim (λ h. (inl h, c.stored.stays y (p.held y h))) (λ h. (inr h.0, h.1)))
      (λ y h. h.1)
      (stored-then p c.stored);
  ready = c.ready;
  bare = c.bare;
  crowded = record {
    full = c.crowded.full;
    missing = c.crowded.missing;
    wanted = inr c.crowded.wanted;
    absent = c.crowded.absent;
  };
}
