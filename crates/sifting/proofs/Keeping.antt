-- The numbers of a rising run without those that are known, one after the other.
--     Keeping             the invariant: of [at, k) those that are not known stand at [at, kept)
--     keep-step           one number more
-- Assumes nothing.
use Prim.Native.Nat.{ℕ, ◌+◌, ◌≤◌, ◌<◌}
use native.Mathlib.Omega.{arith}
use mathlib.Core.Path.{◌≡◌, refl, sym, ◌∙◌}
use mathlib.Core.List.{List}
use mathlib.Core.Logic.{◌↔◌, ◌⊎◌, inl, inr, ⊎_elim}
use mathlib.Core.Bool.{Bool, true, false}
use lib.ListN.{length, get_or, set, length-set}
use lib.Seq.{get_or-set_same, get_or-set_other}
use Rattle.runs.specs.Runs.{In, Run, RisingIn, Same, Answers}
use Rattle.runs.proofs.Membership.{lt-or-le, in-wide, in_parts, in-same}
use Rattle.sifting.specs.Sifting.{Counted}

-- ys is xs on the way; K are the numbers that are known
pub record Keeping (xs : List ℕ) (K : ℕ → Type 0) (at end : ℕ) (ys : List ℕ) (kept k : ℕ) : Type 0 where
  pub lengths : length ys ≡ length xs
  pub from : at ≤ kept
  pub room : kept ≤ k
  pub to : k ≤ end
  pub rising : RisingIn ys at kept
  pub same : (y : ℕ) → In ys at kept y ↔ (In xs at k y × (K y → ⊥))
  pub before : (j : ℕ) → j < at → get_or ys j 0 ≡ get_or xs j 0
  pub ahead : (j : ℕ) → k ≤ j → get_or ys j 0 ≡ get_or xs j 0

module _ {xs : List ℕ} {K : ℕ → Type 0} {at end : ℕ} (run : Run xs at end) where
  module _ {ys : List ℕ} {kept k : ℕ} (i : Keeping xs K at end ys kept k) where
    module _ {x : ℕ} {known : Bool} {count : ℕ} (more : k < end) (is : x ≡ get_or ys k 0) (ans : Answers (K x) known)
        (c : Counted known count) where
      x-is : x ≡ get_or xs k 0
      x-is = is ∙ i.ahead k (omega arith)

      -- x is stored, and so far only that
      stored : (j : ℕ) → j < kept → get_or (set ys kept x) j 0 ≡ get_or ys j 0
      stored j h = get_or-set_other ys kept j x 0 (λ e. omega arith)

      stored_same : Same ys (set ys kept x) at kept
      stored_same j l u = stored j u

      here : get_or (set ys kept x) kept 0 ≡ x
      here = get_or-set_same ys kept x 0 (omega (arith, i.room, i.lengths, run.within))

      below-x : (y : ℕ) → In ys at kept y → y < x
      below-x y q =
          let p : In xs at k y = ((i.same y).0 q).0 in
          let l : get_or xs p.place 0 < get_or xs k 0 = run.rising p.place k p.from p.below more in
          omega (arith, p.is, x-is)

      -- what the second run has up to k, and x
      one_more : (y : ℕ) → In xs at (k + 1) y → In xs at k y ⊎ (y ≡ x)
      one_more y p = ⊎_elim
          inl
          (λ q. let e : q.place ≡ k = omega (arith, q.from, q.below) in inr (sym q.is ∙ rw e (sym x-is)))
          (in_parts k p)

      x-there : In xs at (k + 1) x
      x-there = record { place = k; from = omega (arith, i.from, i.room); below = omega arith; is = sym x-is }

      next-keeping : {n : ℕ} → at ≤ n → n ≤ k + 1 → RisingIn (set ys kept x) at n →
          ((y : ℕ) → In (set ys kept x) at n y ↔ (In xs at (k + 1) y × (K y → ⊥))) →
          Keeping xs K at end (set ys kept x) n (k + 1)
      next-keeping l u up same = record {
        lengths = length-set ys kept x ∙ i.lengths;
        from = l;
        room = u;
        to = omega arith;
        rising = up;
        same = same;
        before = λ j h. stored j (omega (arith, i.from)) ∙ i.before j h;
        ahead = λ j h. get_or-set_other ys kept j x 0 (λ e. omega (arith, i.room)) ∙ i.ahead j (omega arith);
      }

      left_out : K x → Keeping xs K at end (set ys kept x) kept (k + 1)
      left_out m = next-keeping
          i.from
          (omega (arith, i.room))
          (λ j j' l o u. rw (stored j (omega arith), stored j' u) (i.rising j j' l o u))
          (λ y. (there y, back y))
        where
          there : (y : ℕ) → In (set ys kept x) at kept y → In xs at (k + 1) y × (K y → ⊥)
          there y q =
              let p : In xs at k y × (K y → ⊥) =
              (i.same y).0 (in-same (λ j l u. sym (stored j u)) q) in
              (in-wide (omega arith) (omega arith) p.0, p.1)

          back : (y : ℕ) → In xs at (k + 1) y × (K y → ⊥) → In (set ys kept x) at kept y
          back y p = ⊎_elim
              (λ q. in-same stored_same ((i.same y).1 (q, p.1)))
              (λ e. absurd (p.1 (rw e m)))
              (one_more y p.0)

      taken : (K x → ⊥) → Keeping xs K at end (set ys kept x) (kept + 1) (k + 1)
      taken m = next-keeping
          (omega (arith, i.from))
          (omega (arith, i.room))
          (λ j j' l o u. rises j j' l o u (lt-or-le j' kept))
          (λ y. (there y, back y))
        where
          rises : (j j' : ℕ) → at ≤ j → j < j' → j' < kept + 1 → (j' < kept) ⊎ (kept ≤ j') →
              get_or (set ys kept x) j 0 < get_or (set ys kept x) j' 0
          rises j j' l o u (inl h) = rw (stored j (omega arith), stored j' h) (i.rising j j' l o h)
          rises j j' l o u (inr h) =
              let e : j' ≡ kept = omega arith in
              rw (e, here, stored j (omega arith))
              (below-x (get_or ys j 0) (record { place = j; from = l; below = omega arith; is = refl }))

          there : (y : ℕ) → In (set ys kept x) at (kept + 1) y → In xs at (k + 1) y × (K y → ⊥)
          there y q = ⊎_elim
              (λ r. let p : In xs at k y × (K y → ⊥) =
              (i.same y).0 (in-same (λ j l u. sym (stored j u)) r) in
              (in-wide (omega arith) (omega arith) p.0, p.1))
              (λ r. let e : r.place ≡ kept = omega (arith, r.from, r.below) in
              let f : y ≡ x = sym r.is ∙ rw e here in rw f (x-there, m))
              (in_parts kept q)

          back : (y : ℕ) → In xs at (k + 1) y × (K y → ⊥) → In (set ys kept x) at (kept + 1) y
          back y p = ⊎_elim
              (λ q. in-wide (omega arith) (omega arith) (in-same stored_same ((i.same y).1 (q, p.1))))
              (λ e. record { place = kept; from = i.from; below = omega arith; is = here ∙ sym e })
              (one_more y p.0)

      pub keep-step : Keeping xs K at end (set ys kept x) (kept + count) (k + 1)
      keep-step = go known ans c
        where
          go : (r : Bool) → Answers (K x) r → Counted r count →
              Keeping xs K at end (set ys kept x) (kept + count) (k + 1)
          go true a n = let e : kept + count ≡ kept = omega (arith, n.left_out refl) in rw e (left_out (a.when refl))
          go false a n = let e : count ≡ 1 = n.kept refl in rw e (taken (a.unless refl))
