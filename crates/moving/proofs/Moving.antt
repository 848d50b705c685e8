-- Moving numbers, and a set of them.
--     Shifting            the invariant of the loop that moves down: k numbers are moved
--     moved-set           a set whose members were moved keeps them
-- Assumes nothing.
use Prim.Native.Nat.{ℕ, ◌+◌, ◌-◌, ◌≤◌, ◌<◌}
use native.Mathlib.Omega.{arith}
use mathlib.Core.Path.{◌≡◌, refl, sym, ◌∙◌}
use mathlib.Core.List.{List}
use mathlib.Core.Logic.{inl}
use lib.ListN.{length, get_or}
use Rattle.runs.specs.Runs.{In, Run}
use Rattle.cut_set.specs.Store.{Good}
use Rattle.cut_set.specs.declared.CutSet.{CutSet}
use Rattle.moving.specs.Moving.{Shifted, placed, Ends, Movable, MovedSet}

pub record Shifting (xs : List ℕ) (lo to n k : ℕ) (ys : List ℕ) : Type 0 where
  pub most : k ≤ n
  pub lengths : length ys ≡ length xs
  pub so_far : Shifted xs lo to k ys

module _ {xs ys : List ℕ} {lo to n : ℕ} (p : Shifted xs lo to n ys) where
  -- what stands at a new place
  back : (k : ℕ) → to ≤ k → k < to + n → get_or ys k 0 ≡ get_or xs (lo + (k - to)) 0
  back k l u = let e : to + (k - to) ≡ k = omega arith in rw e at (p.moved (k - to) (omega arith))

  -- the places [a, c) are now [a', c')
  module _ {a c a' c' : ℕ} (low : lo ≤ a) (high : c ≤ lo + n) (f : a' + lo ≡ a + to) (g : c' + lo ≡ c + to) where
    run-shifted : length ys ≡ length xs → to + n ≤ length xs → Run xs a c → Run ys a' c'
    run-shifted m into r = record {
      order = omega (arith, r.order);
      within = omega arith;
      rising = λ i j l o u. rw (back i (omega arith) (omega arith), back j (omega arith) (omega arith))
          (r.rising (lo + (i - to)) (lo + (j - to)) (omega arith) (omega arith) (omega arith));
    }

    in-forth : {y : ℕ} → In xs a c y → In ys a' c' y
    in-forth i = record {
      place = to + (i.place - lo);
      from = omega (arith, i.from);
      below = omega (arith, i.from, i.below);
      is = let e : lo + (i.place - lo) ≡ i.place = omega (arith, i.from) in
          p.moved (i.place - lo) (omega (arith, i.from, i.below)) ∙ rw e i.is;
    }

    in-back : {y : ℕ} → In ys a' c' y → In xs a c y
    in-back i = record {
      place = lo + (i.place - to);
      from = omega (arith, i.from);
      below = omega (arith, i.from, i.below);
      is = sym (back i.place (omega (arith, i.from)) (omega (arith, i.below))) ∙ i.is;
    }

-- the runs of a good set end in their order
set-ends : {xs : List ℕ} {s : CutSet} {base limit : ℕ} → Movable xs s base limit → Ends s base limit
set-ends p = record {
  long = p.good.finished_long.order;
  mid = p.good.finished_middle.order;
  done = p.good.finished_short.order;
  used = omega (arith, p.good.found_run.order, p.good.added);
  fits = p.fits;
}

module _ {xs ys : List ℕ} {s : CutSet} {base limit : ℕ} (p : Movable xs s base limit) (n : length ys ≡ length xs)
    (q : Shifted xs s.base base (s.used - s.base) ys) where
  o : Ends s base limit
  o = set-ends p

  good_placed : Good ys (placed s base limit)
  good_placed = record {
    finished_long = run (omega arith) (omega (arith, o)) (omega arith) (omega (arith, o)) p.good.finished_long;
    finished_middle = run o.long (omega (arith, o)) (omega (arith, o)) (omega (arith, o)) p.good.finished_middle;
    finished_short = run (omega (arith, o)) o.used (omega (arith, o)) (omega (arith, o)) p.good.finished_short;
    found_run = run (omega (arith, o)) p.good.added (omega (arith, o)) (omega (arith, o, p.bare.ready))
        p.good.found_run;
    few_finished = omega (arith, o, p.good.few_finished);
    added = omega arith;
    room = omega (arith, p.fits);
    notes = record { order = omega arith; few = omega arith; noted = λ h y i. absurd (omega arith) };
    within = omega (arith, p.within);
    distinct = λ i j il ih jl jh e.
        let f : s.base + (i - base) ≡ s.base + (j - base) = p.good.distinct
        (s.base + (i - base)) (s.base + (j - base)) (omega arith) (omega (arith, o, p.bare.ready)) (omega arith)
        (omega (arith, o, p.bare.ready)) (sym (back q i il ih) ∙ e ∙ back q j jl jh) in
        omega arith;
  }
    where
      run : {a c a' c' : ℕ} → s.base ≤ a → c ≤ s.used → a' + s.base ≡ a + base → c' + s.base ≡ c + base
          → Run xs a c → Run ys a' c'
      run l h f g r = run-shifted q l (omega (arith, o)) f g n (omega (arith, p.fits, p.within)) r

  pub moved-set : MovedSet xs s base limit ys (placed s base limit)
  moved-set = record {
    is = refl;
    good = good_placed;
    grown = record {
      finished = λ y. (
        in-back q (omega arith) (omega (arith, o)) (omega arith) (omega (arith, o)),
        in-forth q (omega arith) (omega (arith, o)) (omega arith) (omega (arith, o)),
      );
      stays = λ y i. in-forth q (omega arith) (omega (arith, o)) (omega arith) (omega (arith, o)) i;
      run_kept = λ y i. in-forth q (omega (arith, o)) (omega (arith, o, p.bare.ready)) (omega (arith, o))
          (omega (arith, o, p.bare.ready)) i;
      only = λ y i. inl (in-back q (omega (arith, o)) (omega (arith, o)) (omega (arith, o)) (omega (arith, o)) i);
      held = λ y h. absurd h;
      more = omega (arith, p.bare.ready);
      done_same = omega arith;
    };
    before = q.before;
    behind = λ k h. q.behind k (omega (arith, p.fits));
  }
