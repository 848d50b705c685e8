-- Members are taken out of a run that stands behind them, one of the set's runs after the other.
--     Sieved              what is left of the run: the numbers with Q
--     sieve-first, sieve-then     one run is taken out, and then another
--     sieved-all          when all four are, what is left is new
--     kept-standing, kept-known, kept_new    the same number by number: the runs stand, what is known, and what is left
-- Assumes nothing.
use Prim.Native.Nat.{ℕ, ◌≤◌, ◌<◌}
use native.Mathlib.Omega.{arith}
use mathlib.Core.Path.{◌≡◌, sym, ◌∙◌}
use mathlib.Core.List.{List}
use mathlib.Core.Logic.{◌↔◌, ⊎_elim}
use mathlib.Core.Bool.{Bool}
use lib.ListN.{get_or}
use Rattle.runs.specs.Runs.{In, Run, RisingIn, Same, Answers}
use Rattle.runs.proofs.Membership.{in-wide, in_parts, in-same, run-same}
use Rattle.sifting.specs.Sifting.{Sifted}
use Rattle.sifting.proofs.Keeping.{Keeping}
use Rattle.noting.proofs.Noting.{noted-same}
use Rattle.cut_set.specs.Store.{Standing, SortedApart, NewOnes}
use Rattle.cut_set.specs.declared.CutSet.{CutSet}

-- of the numbers at [at, end) those with Q are left, and stand at [at, r)
pub record Sieved (xs : List ℕ) (at end : ℕ) (Q : ℕ → Type 0) (ys : List ℕ) (r : ℕ) : Type 0 where
  pub from : at ≤ r
  pub to : r ≤ end
  pub rising : RisingIn ys at r
  pub same : (y : ℕ) → In ys at r y ↔ (In xs at end y × Q y)
  pub before : (k : ℕ) → k < at → get_or ys k 0 ≡ get_or xs k 0
  pub behind : (k : ℕ) → end ≤ k → get_or ys k 0 ≡ get_or xs k 0

pub sieve-first :
    {xs ys : List ℕ} {lo hi at end r : ℕ} → Sifted xs lo hi at end ys r
    → Sieved xs at end (λ y. In xs lo hi y → ⊥) ys r
sieve-first p = record {
  from = p.from;
  to = p.to;
  rising = p.rising;
  same = p.same;
  before = p.before;
  behind = p.behind;
}

module _ {xs ys : List ℕ} {at end r : ℕ} {Q : ℕ → Type 0} (p : Sieved xs at end Q ys r) {lo hi : ℕ} (h : hi ≤ at) where
  pub sieve-then :
      {zs : List ℕ} {r' : ℕ} → Sifted ys lo hi at r zs r' → Sieved xs at end (λ y. Q y × (In xs lo hi y → ⊥)) zs r'
  sieve-then {zs} {r'} q = record {
    from = q.from;
    to = omega (arith, p.to, q.to);
    rising = q.rising;
    same = λ y. (
      λ m. let n = (q.same y).0 m in
          let o = (p.same y).0 n.0 in
          (o.0, (o.1, λ i. n.1 (in-same (λ k a b. p.before k (omega arith)) i))),
      λ m. (q.same y).1
          ((p.same y).1 (m.0, m.1.0), λ i. m.1.1 (in-same (λ k a b. sym (p.before k (omega arith))) i)),
    );
    before = λ k u. q.before k u ∙ p.before k u;
    behind = λ k u. q.behind k (omega (arith, p.to)) ∙ p.behind k u;
  }

module _ {xs ys : List ℕ} {s : CutSet} {end r : ℕ} (g : SortedApart xs s end) where
  pub sieved-all :
      Sieved xs s.fresh end
      (λ y. (((In xs s.mid s.done y → ⊥) × (In xs s.long s.mid y → ⊥)) × (In xs s.base s.long y → ⊥))
      × (In xs s.done s.fresh y → ⊥))
      ys r
      → NewOnes xs s end ys r
  sieved-all p = record {
    from = p.from;
    to = p.to;
    rising = p.rising;
    same = λ y. (
      λ m. let n = (p.same y).0 m in (n.0, λ i. none y n.1 i),
      λ m. (p.same y).1 (
        m.0,
        (
          (
            (
              λ i. m.1 (in-wide (omega (arith, a, b)) (omega (arith, d)) i),
              λ i. m.1 (in-wide (omega (arith, a)) (omega (arith, c, d)) i),
            ),
            λ i. m.1 (in-wide (omega arith) (omega (arith, b, c, d)) i),
          ),
          λ i. m.1 (in-wide (omega (arith, a, b, c)) (omega arith) i),
        ),
      ),
    );
    before = p.before;
    behind = p.behind;
  }
    where
      a : s.base ≤ s.long
      a = g.standing.finished_long.order

      b : s.long ≤ s.mid
      b = g.standing.finished_middle.order

      c : s.mid ≤ s.done
      c = g.standing.finished_short.order

      d : s.done ≤ s.fresh
      d = g.standing.found_run.order

      none : (y : ℕ)
          → (((In xs s.mid s.done y → ⊥) × (In xs s.long s.mid y → ⊥)) × (In xs s.base s.long y → ⊥))
          × (In xs s.done s.fresh y → ⊥)
          → In xs s.base s.fresh y → ⊥
      none y q i = ⊎_elim q.0.1
          (λ j. ⊎_elim q.0.0.1 (λ k. ⊎_elim q.0.0.0 q.1 (in_parts s.done k)) (in_parts s.mid j))
          (in_parts s.long i)

module _ {xs ys : List ℕ} {s : CutSet} {end kept k : ℕ} (g : SortedApart xs s end)
    (i : Keeping xs (In xs s.base s.fresh) s.fresh end ys kept k) where
  front : {lo hi : ℕ} → hi ≤ s.fresh → Same xs ys lo hi
  front h j l u = i.before j (omega arith)

  pub kept-standing : Standing ys s
  kept-standing = record {
    finished_long = run (omega (arith, b.finished_middle.order, b.finished_short.order, b.found_run.order))
        b.finished_long;
    finished_middle = run (omega (arith, b.finished_short.order, b.found_run.order)) b.finished_middle;
    finished_short = run b.found_run.order b.finished_short;
    found_run = run (omega arith) b.found_run;
    notes = record {
      order = b.notes.order;
      few = b.notes.few;
      noted = λ h y j. noted-same {xs = xs} ys (record { some = h; few = b.notes.few; within = b.within })
          (λ l m u. i.ahead l (omega (arith, i.to, g.apart))) y
          (b.notes.noted h y (in-same (λ l m u. sym (front (omega arith) l m u)) j));
    };
    within = omega (arith, i.lengths, b.within);
  }
    where
      b : Standing xs s
      b = g.standing

      run : {lo hi : ℕ} → hi ≤ s.fresh → Run xs lo hi → Run ys lo hi
      run h r = run-same {xs = xs} (front h) i.lengths r

  pub kept-known : {x : ℕ} {known : Bool} → Answers (In ys s.base s.fresh x) known
      → Answers (In xs s.base s.fresh x) known
  kept-known a = record {
    when = λ e. in-same (λ j l u. sym (front (omega arith) j l u)) (a.when e);
    unless = λ e m. a.unless e (in-same (front (omega arith)) m);
  }

  pub kept_new : end ≤ k → NewOnes xs s end ys kept
  kept_new h = let e : k ≡ end = omega (arith, i.to) in record {
    from = i.from;
    to = omega (arith, i.room, i.to);
    rising = i.rising;
    same = rw e at i.same;
    before = i.before;
    behind = λ j u. i.ahead j (omega (arith, i.to));
  }
