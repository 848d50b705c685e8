-- Carrying the newly found cuts that one match spans, place by place from the first that is at least its left end.
--     Walked              the invariant: the cuts at [lo, at) are carried
--     walk-over, walk-break       the run is at its end, or its next cut is not spanned
--     AtCut, at_cut               the next cut is spanned
--     walk_step, walk-known       it is carried; and the image of an end of the match is known
--     walk-full, walk-excess      no place for its image, and one hit too many
-- Assumes nothing.
use Prim.Native.Nat.{ℕ, suc, ◌+◌, ◌-◌, ◌≤◌, ◌<◌}
use native.Mathlib.Omega.{arith}
use mathlib.Core.Path.{◌≡◌, sym, ap, subst, ◌∙◌}
use mathlib.Core.Bool.{Bool, true, false, true≢false}
use mathlib.Core.List.{List}
use mathlib.Core.Logic.{◌↔◌, ◌⊎◌, inl, inr, ⊎_elim}
use lib.ListN.{length, get_or}
use lib.Seq.{slice, slice-cons}
use borrow.Author.Tests.{leb-false, lt-leb}
use Rattle.refinement.specs.Match.{between, carry_to}
use Rattle.refinement.proofs.Geometry.{between-bounds, between-below, between-from}
use Rattle.runs.specs.Runs.{In, Bound}
use Rattle.cut_set.specs.Store.{Member, Found, FoundRun, found_in, found_end, Stored, Cramped}
use Rattle.cut_set.specs.declared.CutSet.{CutSet}
use Rattle.runs.proofs.Membership.{lt-or-le, in-wide, in_parts}
use Rattle.cut_set.proofs.Laws.{done-used, stored-none, stored_same, stored-then, cramped-wide, cramped-then}
use Rattle.carrying_match.specs.OneMatch.{EndsIn, ImageBy, hits_on, Ready}
use Rattle.carrying_match.proofs.RunLists.{hits-past, hits-none}
use Rattle.cut_set.proofs.Gathering.{base_done, used-limit, used-within}
use Rattle.carrying_match.proofs.Storing.{same-apart}

pub record Walked (i g k l : ℕ) (b : Bool) (xs : List ℕ) (from to : CutSet) (hits most lo end : ℕ) (ys : List ℕ)
    (t : CutSet) (count at : ℕ) : Type 0 where
  pub ends : end ≡ found_end from
  pub start : lo ≤ at
  pub until : at ≤ from.used
  pub lengths : length ys ≡ length xs
  pub stored : Stored (ImageBy i g k l b (In xs lo at)) xs to ys t
  pub counted : hits + hits_on i g (slice lo from.used xs) ≡ count + hits_on i g (slice at from.used xs)
  pub few : count ≤ most

-- the ends of a match are carried to ends
end-image : (b : Bool) (i g k l h : ℕ) → k + (g - i) ≡ l → (h ≡ i) ⊎ (h ≡ g)
    → (carry_to b i k l h ≡ k) ⊎ (carry_to b i k l h ≡ l)
end-image false i g k l h f (inl e) = inl (omega arith)
end-image false i g k l h f (inr e) = inr (omega arith)
end-image true i g k l h f (inl e) = inr (omega arith)
end-image true i g k l h f (inr e) = inl (omega arith)

module _ {i g k l : ℕ} {b : Bool} {xs : List ℕ} where
  image-wide :
      {lo hi low high y : ℕ} → low ≤ lo → hi ≤ high → ImageBy i g k l b (In xs lo hi) y
      → ImageBy i g k l b (In xs low high) y
  image-wide p q m = record { x = m.x; carried = in-wide p q m.carried; spans = m.spans; is = m.is }

module _ {i g k l : ℕ} {b : Bool} {xs : List ℕ} {from to : CutSet} {hits most lo end : ℕ} {ys : List ℕ}
    {t : CutSet} {count at : ℕ} (r : Ready xs from to) (up : FoundRun xs from)
    (e : Bound xs from.done from.used i lo) (w : Walked i g k l b xs from to hits most lo end ys t count at) where
  within : from.used ≤ length xs
  within = used-within r.from_good

  place_same : at < from.used → get_or ys at 0 ≡ get_or xs at 0
  place_same h = same-apart xs ys r.apart w.stored.outside at
      (omega (arith, base_done r.from_good, e.from, w.start)) (omega (arith, used-limit r.from_good))

  skipped : hits_on i g (found_in xs from) ≡ hits_on i g (slice lo from.used xs)
  skipped = hits-past xs within (done-used r.from_good) i g lo e.from e.to
      (λ j l u. sym (between-below i g (get_or xs j 0) (e.less j l u)))

  -- the cuts from `at` on are not spanned
  stopped :
      ((j : ℕ) → at ≤ j → j < from.used → between i g (get_or xs j 0) ≡ false)
      → Stored (ImageBy i g k l b (Found xs from)) xs to ys t
      × (count ≡ hits + hits_on i g (found_in xs from)) × (count ≤ most)
  stopped f = (
    stored_same (λ y. (image-wide e.from w.until, narrow)) w.stored,
    omega (arith, w.counted, skipped, rest),
    w.few,
  )
    where
      rest : hits_on i g (slice at from.used xs) ≡ 0
      rest = hits-none xs within w.until i g f

      narrow : {y : ℕ} → ImageBy i g k l b (Found xs from) y → ImageBy i g k l b (In xs lo at) y
      narrow q = ⊎_elim
          (λ u. let bounds = between-bounds i g q.x q.spans in
          absurd (omega (arith, e.less u.place u.from u.below, u.is, bounds)))
          (λ u. ⊎_elim
          (λ v. record { x = q.x; carried = v; spans = q.spans; is = q.is })
          (λ v. let not-here = f v.place v.from v.below in
          absurd (true≢false (sym q.spans ∙ ap (between i g) (sym v.is) ∙ not-here)))
          (in_parts at u))
          (in_parts lo q.carried)

  pub walk-over :
      end ≤ at
      → Stored (ImageBy i g k l b (Found xs from)) xs to ys t
      × (count ≡ hits + hits_on i g (found_in xs from)) × (count ≤ most)
  walk-over past = stopped (λ j l u. absurd (omega (arith, w.ends)))

  pub walk-break :
      {cut : ℕ} → at < end → cut ≡ get_or ys at 0 → between i g cut ≡ false
      → Stored (ImageBy i g k l b (Found xs from)) xs to ys t
      × (count ≡ hits + hits_on i g (found_in xs from)) × (count ≤ most)
  walk-break more here s = stopped later
    where
      h : at < from.used
      h = omega (arith, w.ends)

      left : (j : ℕ) → at ≤ j → j < from.used → i ≤ get_or xs j 0
      left j l u = e.least j (omega (arith, w.start)) u

      past : g < get_or xs at 0
      past = leb-false (get_or xs at 0) g
          (between-from i g (get_or xs at 0) (left at (omega arith) h) ∙ ap (between i g) (sym (here ∙ place_same h)) ∙ s)

      above : (j : ℕ) → at ≤ j → j < from.used → (at < j) ⊎ (j ≤ at) → g < get_or xs j 0
      above j l u (inl o) = omega (arith, past, up at j (omega (arith, e.from, w.start)) o u)
      above j l u (inr o) = let f : j ≡ at = omega arith in rw f past

      later : (j : ℕ) → at ≤ j → j < from.used → between i g (get_or xs j 0) ≡ false
      later j l u = sym (between-from i g (get_or xs j 0) (left j l u))
          ∙ lt-leb (get_or xs j 0) g (above j l u (lt-or-le at j))

-- the cut at the place `at` is spanned, and not carried yet
pub record AtCut (i g k l : ℕ) (b : Bool) (xs : List ℕ) (from to : CutSet) (hits most lo end : ℕ) (ys : List ℕ)
    (t : CutSet) (count at cut : ℕ) : Type 0 where
  pub ready : Ready xs from to
  pub up : FoundRun xs from
  pub bound : Bound xs from.done from.used i lo
  pub walked : Walked i g k l b xs from to hits most lo end ys t count at
  pub more : at < end
  pub here : cut ≡ get_or ys at 0
  pub spans : between i g cut ≡ true

pub at_cut :
    {i g k l : ℕ} {b : Bool} {xs : List ℕ} {from to : CutSet} {hits most lo end : ℕ} {ys : List ℕ} {t : CutSet}
    {count at cut : ℕ} {spans : Bool} → Ready xs from to → FoundRun xs from → Bound xs from.done from.used i lo
    → Walked i g k l b xs from to hits most lo end ys t count at → at < end → cut ≡ get_or ys at 0
    → spans ≡ between i g cut → spans ≡ true → AtCut i g k l b xs from to hits most lo end ys t count at cut
at_cut r up e w more here told true-of = record {
  ready = r;
  up = up;
  bound = e;
  walked = w;
  more = more;
  here = here;
  spans = sym told ∙ true-of;
}

module _ {i g k l : ℕ} {b : Bool} {xs : List ℕ} {from to : CutSet} {hits most lo end : ℕ} {ys : List ℕ}
    {t : CutSet} {count at cut : ℕ} (a : AtCut i g k l b xs from to hits most lo end ys t count at cut) where
  w : Walked i g k l b xs from to hits most lo end ys t count at
  w = a.walked

  h : at < from.used
  h = omega (arith, a.more, w.ends)

  cut-same : cut ≡ get_or xs at 0
  cut-same = a.here ∙ place_same a.ready a.up a.bound w h

  next :
      (y : ℕ) → (ImageBy i g k l b (In xs lo at) y ⊎ (y ≡ carry_to b i k l cut))
      ↔ ImageBy i g k l b (In xs lo (at + 1)) y
  next y = (
    λ q. ⊎_elim (image-wide (omega arith) (omega arith))
        (λ p. record {
          x = cut;
          carried = record { place = at; from = w.start; below = omega arith; is = sym cut-same };
          spans = a.spans;
          is = p;
        })
        q,
    λ q. ⊎_elim
        (λ u. inl (record { x = q.x; carried = u; spans = q.spans; is = q.is }))
        (λ u. let f : u.place ≡ at = omega (arith, u.from, u.below) in
        let is_cut : q.x ≡ cut = sym u.is ∙ ap (λ (j : ℕ). get_or xs j 0) f ∙ sym cut-same in
        inr (q.is ∙ ap (carry_to b i k l) is_cut))
        (in_parts at q.carried),
  )

  hit : hits_on i g (slice at from.used xs) ≡ 1 + hits_on i g (slice (at + 1) from.used xs)
  hit = let f : at + 1 ≡ suc at = omega arith in
      let spans : between i g (get_or xs at 0) ≡ true = rw cut-same at a.spans in
      rw (f, slice-cons at from.used xs 0 h (used-within a.ready.from_good), spans)

  pub walk_step :
      {zs : List ℕ} {u : CutSet} {image : ℕ} → image ≡ carry_to b i k l cut → count < most
      → length zs ≡ length ys → Stored (λ y. y ≡ image) ys t zs u
      → Walked i g k l b xs from to hits most lo end zs u (count + 1) (at + 1)
  walk_step f fewer n p = record {
    ends = w.ends;
    start = omega (arith, w.start);
    until = omega (arith, h);
    lengths = n ∙ w.lengths;
    stored = stored_same next
        (stored-then w.stored (stored_same (λ y. (λ e. e ∙ f, λ e. e ∙ sym f)) p));
    counted = omega (arith, w.counted, hit);
    few = omega arith;
  }

  -- an end of the match is carried to an end, which is a member already
  pub walk-known :
      k + (g - i) ≡ l → EndsIn xs to k l → (cut ≡ i) ⊎ (cut ≡ g)
      → Stored (λ y. y ≡ carry_to b i k l cut) ys t ys t
  walk-known f ends c = stored-none w.stored.good
      (λ y e. ⊎_elim
      (λ q. subst (Member ys t) (sym (e ∙ q)) (w.stored.stays k ends.0))
      (λ q. subst (Member ys t) (sym (e ∙ q)) (w.stored.stays l ends.1))
      (end-image b i g k l cut f c))

  pub walk-full :
      {zs : List ℕ} {u : CutSet} {image : ℕ} → image ≡ carry_to b i k l cut → Cramped (λ y. y ≡ image) ys t zs u
      → Cramped (ImageBy i g k l b (Found xs from)) xs to zs u
  walk-full f c = cramped-wide
      (λ y q. image-wide a.bound.from (omega (arith, h)) ((next y).0 q))
      (cramped-then w.stored (cramped-wide (λ y e. e ∙ f) c))

  pub walk-excess : most ≤ count → most < hits + hits_on i g (found_in xs from)
  walk-excess q = omega (arith, w.counted, hit, skipped a.ready a.up a.bound w)
