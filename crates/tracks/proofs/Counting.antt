-- How the hits of cuts and the number of cuts bound the rows of every resolved refinement from below.
--     hits-append, lane-none, lane-append   the hits of two lists of cuts; of none, and of two lists for each set
--     lane-most            distinct cuts: their hits are at most rows plus matches
--     lane_whole           all cuts of a side: their hits over the matches are the rows of the least table plus matches
--     lane-exceed          more hits of distinct cuts than capacity plus matches: too many for it
--     jammed-exceeds       more distinct cuts of a side than twice the capacity: too many for it
-- Assumes nothing.
use Prim.Native.Nat.{ℕ, zero, suc, ◌+◌, ◌*◌, ◌≤◌, ◌<◌}
use mathlib.Core.Path.{◌≡◌, refl, sym, ap, subst, ◌∙◌}
use mathlib.Core.Logic.{◌↔◌, ite}
use mathlib.Core.Bool.{Bool, true, false, true≢false, cond}
use mathlib.Core.List.{List, [], ◌∷◌, ◌++◌, map, filter}
use native.Mathlib.Omega.{arith}
use lib.ListN.{length}
use Rattle.refinement.specs.declared.Side.{Side}
use Rattle.refinement.specs.declared.Side.TheVariants.{A, B}
use Rattle.refinement.specs.Order.{◌∈◌, Distinct}
use Rattle.refinement.specs.Match.{Match, Place, track, left, right, place, Spans, between}
use Rattle.refinement.specs.Cut.{Cut}
use Rattle.refinement.specs.Refinement.{ResolvedRefinement}
use Rattle.refinement.specs.Least.{spans?}
use Rattle.refinement.proofs.Lists.{∈-filter, ∈-unfilter, rising-filter}
use Rattle.refinement.proofs.Geometry.{ends-span}
use Rattle.refinement.proofs.Resolved.{has-cut}
use Rattle.refinement.proofs.Count.{total, two-per-side, hits-bound, hits-all}
use Rattle.refinement.proofs.Theorem.{table_resolved, table-cuts}
use Rattle.refining.specs.Columns.{from_at, from_right_at, up_from}
use Rattle.refining.specs.Refining.{least_of}
use Rattle.refining.specs.Demands.{EveryExceeds}
use Rattle.carrying_match.specs.OneMatch.{hits_on}
use Rattle.shelf.specs.Shelf.{Jammed}
use Rattle.tracks.specs.Tracks.{Tracked, match_in, match_count, matches_in, given_in, On, SideCut}
use Rattle.tracks.specs.Tracks.{Kind, over, along, Lane, lane, lane_hits}
use Rattle.tracks.specs.Engine.{FitTracks}
use Rattle.tracks.proofs.Indexed.{∈-matches, matches-∈, matches-length, matches-good}
use Rattle.tracks.proofs.Indexed.{lane-side, lane-right}

pub hits-append : (i g : ℕ) (xs ys : List ℕ) → hits_on i g (xs ++ ys) ≡ hits_on i g xs + hits_on i g ys
hits-append i g [] ys = omega arith
hits-append i g (x ∷ xs) ys = omega (arith, hits-append i g xs ys)

pub lane-none : (l : Lane) (n : ℕ) → lane_hits l n (λ j. []) ≡ 0
lane-none l zero = refl
lane-none l (suc k) = omega (arith, lane-none l k)

pub lane-append :
    (l : Lane) (n : ℕ) (f g : ℕ → List ℕ) → lane_hits l n (λ j. f j ++ g j) ≡ lane_hits l n f + lane_hits l n g
lane-append l zero f g = refl
lane-append l (suc k) f g =
    omega (
      arith,
      lane-append l k f g,
      hits-append (from_at l.columns k) (from_right_at l.columns k) (f (l.from k)) (g (l.from k)),
    )

-- the hits of one match, as the theory counts them
hits-filter :
    (m : Match) (u : Side) {g : ℕ} → g ≡ right m u → (xs : List ℕ)
    → hits_on (left m u) g xs ≡ length (filter (spans? m u) xs)
hits-filter m u r [] = refl
hits-filter m u {g} r (x ∷ xs) =
    go (spans? m u x) (between (left m u) g x) refl (hits-filter m u r xs)
  where
    go :
        (q : Dec (Spans m u x)) (s : Bool) → between (left m u) g x ≡ s
        → hits_on (left m u) g xs ≡ length (filter (spans? m u) xs)
        → cond s 1 0 + hits_on (left m u) g xs
        ≡ length (ite {C = List ℕ} q (x ∷ filter (spans? m u) xs) (filter (spans? m u) xs))
    go (yes t) true e h = omega arith
    go (yes t) false e h = absurd (true≢false (sym ((ends-span m u x r).1 t) ∙ e))
    go (no n) true e h = absurd (n ((ends-span m u x r).0 e))
    go (no n) false e h = omega arith

-- the numbers of f that a match has on a side: those of its track there that it spans
abbrev within : (ℕ → List ℕ) → Side → Match → List ℕ
within f v m = filter (spans? m v) (f (track m v))

module _ {t : Tracked} {n : ℕ} (ft : FitTracks t n) where
  lane-at :
      (w : Kind) (u : Side) (f : ℕ → List ℕ) {k : ℕ} → k < match_count t
      → hits_on (from_at (lane w t u).columns k) (from_right_at (lane w t u).columns k) (f ((lane w t u).from k))
      ≡ length (within f (lane-side w u) (match_in t k))
  lane-at over A f {k} l = hits-filter (match_in t k) A (lane-right t ft.fit over A l) (f (t.tracks A k))
  lane-at over B f {k} l = hits-filter (match_in t k) B (lane-right t ft.fit over B l) (f (t.tracks B k))
  lane-at along A f {k} l = hits-filter (match_in t k) B (lane-right t ft.fit along A l) (f (t.tracks B k))
  lane-at along B f {k} l = hits-filter (match_in t k) A (lane-right t ft.fit along B l) (f (t.tracks A k))

  lane-from :
      (w : Kind) (u : Side) (f : ℕ → List ℕ) (m count : ℕ) → m + count ≤ match_count t
      → lane_hits (lane w t u) (m + count) f
      ≡ lane_hits (lane w t u) m f
      + total (λ z. length (within f (lane-side w u) z)) (map (match_in t) (up_from m count))
  unfolding up_from
  lane-from w u f m zero l = omega (arith, ap (λ j. lane_hits (lane w t u) j f) same)
    where
      same : m + 0 ≡ m
      same = omega arith
  lane-from w u f m (suc count) l =
      omega (
        arith,
        ap (λ j. lane_hits (lane w t u) j f) same,
        lane-from w u f (suc m) count (omega arith),
        lane-at w u f {k = m} (omega arith),
      )
    where
      same : m + suc count ≡ suc m + count
      same = omega arith

  lane-total :
      (w : Kind) (u : Side) (f : ℕ → List ℕ)
      → lane_hits (lane w t u) (match_count t) f ≡ total (λ m. length (within f (lane-side w u) m)) (matches_in t)
  unfolding matches_in
  lane-total w u f =
      omega (arith, ap (λ j. lane_hits (lane w t u) j f) same, lane-from w u f 0 (match_count t) (omega arith))
    where
      same : 0 + match_count t ≡ match_count t
      same = omega arith

  -- what the matches of the list name
  named_in : {m : Match} → m ∈ matches_in t → (u : Side) → track m u < n
  named_in i u =
      let v = matches-∈ t i in subst (λ (z : Match). track z u < n) v.2 (at u v.1)
    where
      at : (u : Side) {k : ℕ} → k < match_count t → track (match_in t k) u < n
      at A {k} l = ft.named A k l
      at B {k} l = ft.named B k l

  -- the place of a number of a set
  abbrev place_of : ℕ → ℕ → Place
  place_of j x = record { track = j; position = x }

  pub lane-most :
      {rs : List Match} → ResolvedRefinement (matches_in t) t.marks rs
      → (w : Kind) (u : Side) (f : ℕ → List ℕ) → ((j : ℕ) → j < n → Distinct (f j))
      → ((j : ℕ) → j < n → (x : ℕ) → x ∈ f j → Cut (matches_in t) t.marks (place_of j x))
      → lane_hits (lane w t u) (match_count t) f ≤ length rs + match_count t
  lane-most {rs} R w u f once cuts =
      let v = lane-side w u in
      let M = matches-good t ft.fit in
      omega (
        arith,
        lane-total w u f,
        matches-length t,
        hits-bound M R v (within f v) (λ m i. rising-filter (spans? m v) _ (f (track m v)) (once (track m v) (named_in i v)))
            (λ m i x j.
            let s = ∈-unfilter (spans? m v) (f (track m v)) j in
            (s.1, has-cut M R (cuts (track m v) (named_in i v) x s.0))),
      )

  pub lane-exceed :
      {cap : ℕ} (w : Kind) (u : Side) (f : ℕ → List ℕ) → ((j : ℕ) → j < n → Distinct (f j))
      → ((j : ℕ) → j < n → (x : ℕ) → x ∈ f j → Cut (matches_in t) t.marks (place_of j x))
      → cap + match_count t < lane_hits (lane w t u) (match_count t) f → EveryExceeds (given_in t) cap
  lane-exceed w u f once cuts more rs R = omega (arith, lane-most R w u f once cuts)

  pub lane_whole :
      (u : Side) (f : ℕ → List ℕ) → ((j : ℕ) → j < n → Distinct (f j))
      → ((j : ℕ) → j < n → (x : ℕ) → (x ∈ f j) ↔ SideCut t u (place_of j x))
      → lane_hits (lane over t u) (match_count t) f ≡ length (least_of (given_in t)) + match_count t
  lane_whole u f once cuts =
      let M = matches-good t ft.fit in
      omega (
        arith,
        lane-total over u f,
        matches-length t,
        hits-all M (table_resolved (matches_in t) t.marks M) u (within f u)
            (λ m i. rising-filter (spans? m u) _ (f (track m u)) (once (track m u) (named_in i u)))
            (λ m i x. (
              λ j.
                  let s = ∈-unfilter (spans? m u) (f (track m u)) j in (
                    s.1,
                    (table-cuts (matches_in t) t.marks M (place m u x)).1
                        ((cuts (track m u) (named_in i u) x).0 s.0).cut,
                  ),
              λ s.
                  ∈-filter (spans? m u)
                  ((cuts (track m u) (named_in i u) x).1
                  (sided i u x s.0 ((table-cuts (matches_in t) t.marks M (place m u x)).0 s.1)))
                  s.0,
            )),
      )
    where
      sided :
          {m : Match} → m ∈ matches_in t → (u : Side) (x : ℕ) → Spans m u x
          → Cut (matches_in t) t.marks (place m u x) → SideCut t u (place_of (track m u) x)
      sided i u x s c =
          let v = matches-∈ t i in record {
            cut = c;
            index = v.0;
            on = record {
              below = v.1;
              track_is = named-same u v.2;
              spans = subst (λ (z : Match). Spans z u x) (sym v.2) s;
            };
          }
        where
          named-same : {m : Match} {k : ℕ} (u : Side) → match_in t k ≡ m → t.tracks u k ≡ track m u
          named-same A e = ap (λ (z : Match). track z A) e
          named-same B e = ap (λ (z : Match). track z B) e

  pub jammed-exceeds :
      {cap places : ℕ} {Q : Place → Type 0} (u : Side) → places ≡ 2 * cap → Jammed Q places
      → ((p : Place) → Q p → SideCut t u p) → EveryExceeds (given_in t) cap
  jammed-exceeds {cap} u e o cuts rs R =
      let M = matches-good t ft.fit in
      omega (
        arith,
        o.more,
        two-per-side M R u o.list o.distinct (λ p i.
            let c = cuts p (o.all p i) in (
              match_in t c.index,
              ∈-matches t c.on.below,
              track-of u c.on,
              c.on.spans,
              has-cut M R c.cut,
            )),
      )
    where
      track-of : (u : Side) {k : ℕ} {p : Place} → On t u k p → track (match_in t k) u ≡ p.track
      track-of A o = o.track_is
      track-of B o = o.track_is
