-- Taking the numbers of one rising run out of another behind it.
--     Sifting             the invariant: [at, k) has been sifted into [at, kept), and the numbers of the first run
--                         before `low` are less than all from k on
--     sift-step, sift-end     one number more, and what it ends in
-- Assumes nothing.
use Prim.Native.Nat.{ℕ, ◌+◌, ◌≤◌, ◌<◌}
use native.Mathlib.Omega.{arith}
use mathlib.Core.Path.{◌≡◌, sym, ◌∙◌}
use mathlib.Core.List.{List}
use mathlib.Core.Logic.{⊎_elim}
use mathlib.Core.Bool.{Bool}
use lib.ListN.{get_or, set}
use Rattle.runs.specs.Runs.{In, Same, Bound, Answers}
use Rattle.runs.proofs.Membership.{lt-or-le, in-same}
use Rattle.runs.proofs.Searching.{answers-from, answers-later}
use Rattle.sifting.specs.Sifting.{Siftable, Sifted, Counted}
use Rattle.sifting.proofs.Keeping.{Keeping, keep-step}

-- ys is xs on the way
pub record Sifting (xs : List ℕ) (lo hi at end : ℕ) (ys : List ℕ) (low kept k : ℕ) : Type 0 where
  pub keeping : Keeping xs (In xs lo hi) at end ys kept k
  pub low_from : lo ≤ low
  pub low_to : low ≤ hi
  pub passed : (i j : ℕ) → lo ≤ i → i < low → k ≤ j → j < end → get_or xs i 0 < get_or xs j 0

module _ {xs : List ℕ} {lo hi at end : ℕ} (s : Siftable xs lo hi at end) where
  module _ {ys : List ℕ} {low kept k : ℕ} (i : Sifting xs lo hi at end ys low kept k) where
    pub sift-end : end ≤ k → Sifted xs lo hi at end ys kept
    sift-end h = let g = i.keeping in let e : k ≡ end = omega (arith, g.to) in record {
      from = g.from;
      to = omega (arith, g.room, g.to);
      rising = g.rising;
      same = rw e at g.same;
      before = g.before;
      behind = λ j u. g.ahead j (omega (arith, g.to));
    }

    first-same : Same xs ys lo hi
    first-same j l u = i.keeping.before j (omega (arith, s.order))

    module _ {x : ℕ} {known : Bool} {next count : ℕ} (more : k < end) (is : x ≡ get_or ys k 0)
        (b : Bound ys low hi x next) (ans : Answers (In ys next hi x) known) (c : Counted known count) where
      x-is : x ≡ get_or xs k 0
      x-is = is ∙ i.keeping.ahead k (omega arith)

      -- whether x is in the whole first run
      answers : Answers (In xs lo hi x) known
      answers =
          let whole : Answers (In ys lo hi x) known = answers-later i.low_from early (answers-from b ans) in
          record {
            when = λ e. in-same (λ j l u. sym (first-same j l u)) (whole.when e);
            unless = λ e q. whole.unless e (in-same first-same q);
          }
        where
          early : In ys lo low x → ⊥
          early q = let f : get_or ys q.place 0 ≡ get_or xs q.place 0 =
              first-same q.place q.from (omega (arith, q.below, i.low_to)) in
              let l : get_or xs q.place 0 < get_or xs k 0 =
              i.passed q.place k q.from q.below (omega arith) more in omega (arith, q.is, x-is)

      pub sift-step : Sifting xs lo hi at end (set ys kept x) next (kept + count) (k + 1)
      sift-step = record {
        keeping = keep-step s.second i.keeping more is answers c;
        low_from = omega (arith, i.low_from, b.from);
        low_to = b.to;
        passed = λ j m l' h o v. ⊎_elim
            (λ w. i.passed j m l' w (omega arith) v)
            (λ w. let f : get_or ys j 0 ≡ get_or xs j 0 = first-same j l' (omega (arith, b.to)) in
            let r : get_or xs k 0 < get_or xs m 0 =
            s.second.rising k m (omega (arith, i.keeping.from, i.keeping.room)) (omega arith) v in
            omega (arith, b.less j w h, x-is))
            (lt-or-le j low);
      }
