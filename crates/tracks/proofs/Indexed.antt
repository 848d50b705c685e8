-- The matches by their index, and what the two kinds of lanes take a number to.
--     up_from-∈, ∈-up_from, rising-up_from, length-up_from     the numbers from n on
--     ∈-matches, matches-∈     a match is the one at an index
--     matches-length           there are as many as directions
--     matches-good             they are Matches: lettered, and numbered in order
--     ∈-marks, marks-∈         a mark is the one at an index
--     on-place                 a place on a side of the match at an index is a place of that match
--     lane-side, lane-fit      the side whose stretches a lane goes by; its columns fit
--     lane-right, lane-spans   the right ends and the stretches of its matches
--     over-carry, along-carry  where they take a number to
--     over-image, along-image  and that they take one that the match spans
-- Assumes nothing.
use Prim.Native.Nat.{ℕ, zero, suc, ◌+◌, ◌≤◌, ◌<◌}
use mathlib.Core.Path.{◌≡◌, refl, sym, ap, subst, ◌∙◌}
use mathlib.Core.Logic.{◌↔◌, ⊎_elim}
use mathlib.Core.Bool.{true, false}
use mathlib.Core.List.Memᴰ
use mathlib.Core.List.{List, ◌∷◌}
use mathlib.Core.List.Memᴰ.{head as here}
use mathlib.Core.List.Memᴰ.{tail as there}
use native.Mathlib.Omega.{arith}
use native.Mathlib.Decide.{ℕ_discrete}
use lib.ListN.{length, length-map, get_or, replicate, length-replicate}
use Rattle.refinement.specs.declared.Side.{Side}
use Rattle.refinement.specs.declared.Side.TheVariants.{A, B}
use Rattle.refinement.specs.Order.{◌∈◌, Rising}
use Rattle.refinement.specs.Match.{Match, Place, other, right, place, Spans, carry, between, carry_to}
use Rattle.refinement.specs.Refinement.{Matches}
use Rattle.refinement.proofs.Geometry.{ends-span, carry-ends, between-bounds}
use Rattle.refinement.proofs.Lists.{rising-map}
use Rattle.refining.specs.Columns.{from_at, from_right_at, to_at, to_right_at, way_at}
use Rattle.refining.specs.Columns.{letters_at, Fit, up_from}
use Rattle.carrying_cuts.specs.Worker.{Image}
use Rattle.tracks.specs.Tracks.{Tracked, match_in, match_count, matches_in, mark_at, marks_of, On}
use Rattle.tracks.specs.Tracks.{Kind, over, along, lane}

pub up_from-∈ : (n count : ℕ) {k : ℕ} → k ∈ up_from n count → (n ≤ k) × (k < n + count)
unfolding up_from
up_from-∈ n zero i = absurd (Memᴰ.not-nil i)
up_from-∈ n (suc count) i =
    ⊎_elim (λ e. omega arith) (λ j. let t = up_from-∈ (suc n) count j in omega arith) (Memᴰ.cases_cons i)

pub ∈-up_from : (n count : ℕ) {k : ℕ} → n ≤ k → k < n + count → k ∈ up_from n count
unfolding up_from
∈-up_from n zero l h = absurd (omega arith)
∈-up_from n (suc count) {k} l h = go (ℕ_discrete k n) (λ o. ∈-up_from (suc n) count o (omega arith))
  where
    go : Dec (k ≡ n) → (n < k → k ∈ up_from (suc n) count) → k ∈ (n ∷ up_from (suc n) count)
    go (yes e) rest = here e
    go (no f) rest = there (rest (omega arith))

pub rising-up_from : (n count : ℕ) → Rising ◌<◌ (up_from n count)
unfolding up_from
rising-up_from n zero = tt
rising-up_from n (suc count) = (λ k i. omega (arith, up_from-∈ (suc n) count i), rising-up_from (suc n) count)

pub length-up_from : (n count : ℕ) → length (up_from n count) ≡ count
unfolding up_from
length-up_from n zero = refl
length-up_from n (suc count) = ap suc (length-up_from (suc n) count)

pub ∈-marks : (ts ps : List ℕ) {q : ℕ} → q < length ts → mark_at ts ps q ∈ marks_of ts ps
unfolding marks_of
∈-marks ts ps h = Memᴰ.map (mark_at ts ps) (∈-up_from 0 (length ts) (omega arith) (omega arith))

pub marks-∈ : (ts ps : List ℕ) {p : Place} → p ∈ marks_of ts ps → (q : ℕ) × (q < length ts) × (mark_at ts ps q ≡ p)
unfolding marks_of
marks-∈ ts ps i =
    let v = Memᴰ.of_map (mark_at ts ps) (up_from 0 (length ts)) i in
    (v.0, omega (arith, up_from-∈ 0 (length ts) v.1), v.2)

-- the side whose stretches the matches of a lane are told by
abbrev pub lane-side : Kind → Side → Side
lane-side over u = u
lane-side along u = other u

never : (n k : ℕ) → get_or (replicate n false) k false ≡ false
never zero k = refl
never (suc n) zero = refl
never (suc n) (suc k) = never n k

unmoved : (i g x : ℕ) {y : ℕ} → between i g x ≡ true → y ≡ carry_to false i i g x → y ≡ x
unmoved i g x b e = omega (arith, between-bounds i g x b)

module _ (t : Tracked) where
  pub ∈-matches : {k : ℕ} → k < match_count t → match_in t k ∈ matches_in t
  unfolding matches_in
  ∈-matches h = Memᴰ.map (match_in t) (∈-up_from 0 (match_count t) (omega arith) (omega arith))

  pub matches-∈ : {m : Match} → m ∈ matches_in t → (k : ℕ) × (k < match_count t) × (match_in t k ≡ m)
  unfolding matches_in
  matches-∈ i =
      let v = Memᴰ.of_map (match_in t) (up_from 0 (match_count t)) i in
      (v.0, omega (arith, up_from-∈ 0 (match_count t) v.1), v.2)

  pub matches-length : length (matches_in t) ≡ match_count t
  unfolding matches_in
  matches-length = length-map (up_from 0 (match_count t)) (match_in t) ∙ length-up_from 0 (match_count t)

  pub matches-good : Fit t.columns → Matches (matches_in t)
  unfolding matches_in
  matches-good f = record {
    lettered = λ m i.
        let v = matches-∈ i in subst (λ (z : Match). 1 ≤ z.length) v.2 (f.lettered v.0 v.1);
    numbered =
        rising-map ◌<◌ (λ m m'. m.number < m'.number) (match_in t) (up_from 0 (match_count t))
        (λ j k _ _ l. omega arith) (rising-up_from 0 (match_count t));
  }

  pub on-place : (u : Side) {k : ℕ} {p : Place} → On t u k p → place (match_in t k) u p.position ≡ p
  on-place A {k} {p} o = λ i. record { track = o.track_is i; position = p.position }
  on-place B {k} {p} o = λ i. record { track = o.track_is i; position = p.position }

  module _ (fit : Fit t.columns) where
    pub lane-fit : (w : Kind) (u : Side) → Fit (lane w t u).columns
    lane-fit over A = fit
    lane-fit over B = record {
      from_length = fit.to_length;
      from_right_length = fit.to_right_length;
      to_length = fit.from_length;
      to_right_length = fit.from_right_length;
      lettered = λ k l. omega (arith, fit.lettered k l, fit.from_right k l);
      from_right = λ k l. omega (arith, fit.from_right k l, fit.to_right k l);
      to_right = λ k l. omega (arith, fit.from_right k l);
    }
    lane-fit along A =
        let n : length (replicate (match_count t) false) ≡ match_count t = length-replicate (match_count t) false in
        record {
          from_length = fit.to_length ∙ sym n;
          from_right_length = fit.to_right_length ∙ sym n;
          to_length = fit.to_length ∙ sym n;
          to_right_length = fit.to_right_length ∙ sym n;
          lettered = λ k l. fit.lettered k (omega (arith, n));
          from_right = λ k l. fit.to_right k (omega (arith, n));
          to_right = λ k l. fit.to_right k (omega (arith, n));
        }
    lane-fit along B =
        let n : length (replicate (match_count t) false) ≡ match_count t = length-replicate (match_count t) false in
        record {
          from_length = fit.from_length ∙ sym n;
          from_right_length = fit.from_right_length ∙ sym n;
          to_length = fit.from_length ∙ sym n;
          to_right_length = fit.from_right_length ∙ sym n;
          lettered = λ k l. omega (arith, n, fit.lettered k (omega (arith, n)), fit.from_right k (omega (arith, n)));
          from_right = λ k l. omega (arith, fit.from_right k (omega (arith, n)));
          to_right = λ k l. omega (arith, fit.from_right k (omega (arith, n)));
        }

    pub lane-right :
        (w : Kind) (u : Side) {k : ℕ} → k < match_count t
        → from_right_at (lane w t u).columns k ≡ right (match_in t k) (lane-side w u)
    lane-right over A {k} l = fit.from_right k l
    lane-right over B {k} l = fit.to_right k l
    lane-right along A {k} l = fit.to_right k l
    lane-right along B {k} l = fit.from_right k l

    pub lane-spans :
        (w : Kind) (u : Side) {k : ℕ} → k < match_count t → (x : ℕ)
        → (between (from_at (lane w t u).columns k) (from_right_at (lane w t u).columns k) x ≡ true)
        ↔ Spans (match_in t k) (lane-side w u) x
    lane-spans over A {k} l x = ends-span (match_in t k) A x (fit.from_right k l)
    lane-spans over B {k} l x = ends-span (match_in t k) B x (fit.to_right k l)
    lane-spans along A {k} l x = ends-span (match_in t k) B x (fit.to_right k l)
    lane-spans along B {k} l x = ends-span (match_in t k) A x (fit.from_right k l)

    pub over-carry :
        (u : Side) {k : ℕ} → k < match_count t → (x : ℕ)
        → carry_to (way_at (lane over t u).columns k) (from_at (lane over t u).columns k)
        (to_at (lane over t u).columns k) (to_right_at (lane over t u).columns k) x ≡ carry (match_in t k) u x
    over-carry A {k} l x =
        let c = t.columns in carry-ends (way_at c k) (from_at c k) (to_at c k) (letters_at c k) x (fit.to_right k l)
    over-carry B {k} l x =
        let c = t.columns in carry-ends (way_at c k) (to_at c k) (from_at c k) (letters_at c k) x (fit.from_right k l)

    pub along-carry : (u : Side) {k x y : ℕ} → Image (lane along t u).columns k x y → y ≡ x
    along-carry A {k} {x} i =
        let c = t.columns in unmoved (to_at c k) (to_right_at c k) x i.spans (rw (never (match_count t) k) at i.is)
    along-carry B {k} {x} i =
        let c = t.columns in unmoved (from_at c k) (from_right_at c k) x i.spans (rw (never (match_count t) k) at i.is)

    pub over-image :
        (u : Side) {k x : ℕ} → k < match_count t → Spans (match_in t k) u x
        → Image (lane over t u).columns k x (carry (match_in t k) u x)
    over-image u {k} {x} l h = record {
      spans = (lane-spans over u l x).1 h;
      is = sym (over-carry u l x);
    }

    pub along-image :
        (u : Side) {k x : ℕ} → k < match_count t → Spans (match_in t k) (other u) x → Image (lane along t u).columns k x x
    along-image A {k} {x} l h = record {
      spans = (lane-spans along A l x).1 h;
      is = rw (never (match_count t) k) (omega (arith, h.from_left));
    }
    along-image B {k} {x} l h = record {
      spans = (lane-spans along B l x).1 h;
      is = rw (never (match_count t) k) (omega (arith, h.from_left));
    }
