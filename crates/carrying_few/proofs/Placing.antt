-- Carrying one cut over the matches at one place of the index after the other.
--     ImagesBefore        y is what a match before place k of the order, which spans the cut, carries it to
--     PlacesPassed        the invariant: the cut is carried over the matches before place k
--     places-start, places-step, places-end     where it begins, one match more, and the end; matches that do not span
--                         the cut are passed over at each
--     place-stop          no room for the image under the match at place k, or for the hit
-- Assumes nothing.
use Prim.Native.Nat.{ℕ, zero, suc, ◌+◌, ◌≤◌, ◌<◌}
use native.Mathlib.Omega.{arith}
use native.Mathlib.Decide.{ℕ_discrete}
use mathlib.Core.Path.{◌≡◌, refl, sym, ap, ◌∙◌}
use mathlib.Core.Bool.{false, true≢false}
use mathlib.Core.List.{List, [], ◌∷◌}
use mathlib.Core.Logic.{◌↔◌, ◌⊎◌, inl, inr, ⊎_elim}
use lib.ListN.{length, get_or}
use Rattle.refinement.specs.Match.{between}
use Rattle.runs.proofs.Membership.{lt-or-le}
use Rattle.cut_set.specs.Store.{Good, Stored, Cramped}
use Rattle.cut_set.specs.declared.CutSet.{CutSet}
use Rattle.cut_set.proofs.Laws.{stored-none, stored_same, stored-then, cramped-wide, cramped-then}
use Rattle.refining.specs.Columns.{Columns, count_of, from_at, from_right_at, Fit}
use Rattle.arrangement.specs.Index.{sum_to, sum_at, Indexed}
use Rattle.near_blocks.specs.Places.{PassedPlaces}
use Rattle.near_blocks.proofs.Passing.{passed-away}
use Rattle.carrying_match.specs.OneMatch.{Carrying}
use Rattle.std.specs.Prelude.{Err}
use Rattle.carrying_match.specs.declared.Stop.{Stop}
use Rattle.carrying_cuts.specs.Worker.{Image, Images, hits_over}
use Rattle.carrying_few.specs.Hit.{hit_on}

pub record ImagesBefore (columns : Columns) (order : List ℕ) (k cut y : ℕ) : Type 0 where
  pub place : ℕ
  pub below : place < k
  pub image : Image columns (get_or order place 0) cut y

pub record PlacesPassed (columns : Columns) (order xs : List ℕ) (to : CutSet) (cut hits most : ℕ) (ys : List ℕ)
    (set : CutSet) (count k : ℕ) : Type 0 where
  pub until : k ≤ length columns.from_lefts
  pub lengths : length ys ≡ length xs
  pub stored : Stored (ImagesBefore columns order k cut) xs to ys set
  pub counted : count ≡ hits + sum_at (hit_on columns cut) order k
  pub few : count ≤ most

-- more places add no less
sum_more : (w : ℕ → ℕ) (xs : List ℕ) (k n : ℕ) → k ≤ n → sum_at w xs k ≤ sum_at w xs n
sum_more w xs k zero h = let e : k ≡ 0 = omega arith in rw e (omega arith)
sum_more w xs k (suc n) h = go (ℕ_discrete k (suc n)) (λ l. sum_more w xs k n l)
  where
    go : Dec (k ≡ suc n) → (k ≤ n → sum_at w xs k ≤ sum_at w xs n) → sum_at w xs k ≤ sum_at w xs (suc n)
    go (yes e) before = rw e (omega arith)
    go (no e) before = omega (arith, before (omega arith))

-- places that add nothing
sum_same :
    (w : ℕ → ℕ) (xs : List ℕ) (k n : ℕ) → k ≤ n → ((j : ℕ) → k ≤ j → j < n → w (get_or xs j 0) ≡ 0)
    → sum_at w xs n ≡ sum_at w xs k
sum_same w xs k zero h none = let e : k ≡ 0 = omega arith in rw e
sum_same w xs k (suc n) h none =
    go (ℕ_discrete k (suc n)) (λ l. sum_same w xs k n l (λ j a b. none j a (omega arith)))
  where
    go : Dec (k ≡ suc n) → (k ≤ n → sum_at w xs n ≡ sum_at w xs k) → sum_at w xs (suc n) ≡ sum_at w xs k
    go (yes e) before = rw e
    go (no e) before = omega (arith, before (omega arith), none n (omega arith) (omega arith))

-- the hits by places are those by matches
hits-sum : (columns : Columns) (cut k : ℕ) → sum_to (hit_on columns cut) k ≡ hits_over columns k (cut ∷ [])
hits-sum columns cut zero = refl
hits-sum columns cut (suc k) = let before = hits-sum columns cut k in omega (arith, before)

-- one place more
module _ (columns : Columns) (order : List ℕ) (cut k : ℕ) where
  one :
      (y : ℕ) → (ImagesBefore columns order k cut y ⊎ Image columns (get_or order k 0) cut y)
      ↔ ImagesBefore columns order (k + 1) cut y
  one y = (
    λ q. ⊎_elim
        (λ m. record { place = m.place; below = omega (arith, m.below); image = m.image })
        (λ i. record { place = k; below = omega arith; image = i })
        q,
    λ m. elim (ℕ_discrete m.place k) [
      | yes e ↦ inr (rw e at m.image)
      | no other ↦ inl (record { place = m.place; below = omega (arith, m.below); image = m.image })
    ],
  )

  one-sum :
      hit_on columns cut (get_or order k 0) + sum_at (hit_on columns cut) order k ≡ sum_at (hit_on columns cut) order (k + 1)
  one-sum = let e : k + 1 ≡ suc k = omega arith in rw e (omega arith)

-- all places
module _ {columns : Columns} {order : List ℕ} (fit : Fit columns)
    (i : Indexed order columns.from_lefts columns.from_rights) (cut : ℕ) where
  all :
      (y : ℕ) → ImagesBefore columns order (length columns.from_lefts) cut y
      ↔ Images columns (count_of columns) (λ z. z ≡ cut) y
  all y = (
    λ m. record {
      index = get_or order m.place 0;
      below = omega (arith, i.order.below m.place m.below, fit.from_length);
      x = cut;
      carried = refl;
      image = m.image;
    },
    λ q. let p = i.order.all q.index (omega (arith, q.below, fit.from_length)) in
        record { place = p.place; below = p.below; image = rw (p.is, ← q.carried) q.image },
  )

  all-sum :
      sum_at (hit_on columns cut) order (length columns.from_lefts) ≡ hits_over columns (count_of columns) (cut ∷ [])
  all-sum = i.order.sums (hit_on columns cut) ∙ rw fit.from_length (hits-sum columns cut (count_of columns))

module _ {columns : Columns} {order : List ℕ} (i : Indexed order columns.from_lefts columns.from_rights)
    {xs : List ℕ} {to : CutSet} {cut hits most : ℕ} (g : Good xs to) where
  -- places that are passed over
  places-over :
      {ys : List ℕ} {set : CutSet} {count k r : ℕ} → PlacesPassed columns order xs to cut hits most ys set count k
      → PassedPlaces order (length columns.from_lefts) cut k r
      → PlacesPassed columns order xs to cut hits most ys set count r
  places-over {k = k} {r} p q = record {
    until = q.to;
    lengths = p.lengths;
    stored = stored_same (λ y. (λ m. wider m, λ m. narrower m)) p.stored;
    counted = p.counted ∙ ap (λ (z : ℕ). hits + z) (sym same);
    few = p.few;
  }
    where
      away :
          (j : ℕ) → k ≤ j → j < r
          → between (from_at columns (get_or order j 0)) (from_right_at columns (get_or order j 0)) cut ≡ false
      away = passed-away i.listed q

      wider : {y : ℕ} → ImagesBefore columns order k cut y → ImagesBefore columns order r cut y
      wider m = record { place = m.place; below = omega (arith, m.below, q.from); image = m.image }

      narrower : {y : ℕ} → ImagesBefore columns order r cut y → ImagesBefore columns order k cut y
      narrower m =
          ⊎_elim (λ h. record { place = m.place; below = h; image = m.image })
          (λ h. absurd (true≢false (sym m.image.spans ∙ away m.place h m.below)))
          (lt-or-le m.place k)

      same : sum_at (hit_on columns cut) order r ≡ sum_at (hit_on columns cut) order k
      same = sum_same (hit_on columns cut) order k r q.from (λ j a b. rw (away j a b))

  pub places-start :
      {r : ℕ} → hits ≤ most → PassedPlaces order (length columns.from_lefts) cut 0 r
      → PlacesPassed columns order xs to cut hits most xs to hits r
  places-start h q = places-over none q
    where
      none : PlacesPassed columns order xs to cut hits most xs to hits 0
      none = record {
        until = omega arith;
        lengths = refl;
        stored = stored-none g (λ y m. absurd (omega (arith, m.below)));
        counted = omega arith;
        few = h;
      }

  module _ {ys : List ℕ} {set : CutSet} {count k : ℕ}
      (p : PlacesPassed columns order xs to cut hits most ys set count k) where
    pub places-step :
        {zs : List ℕ} {t : CutSet} {c r : ℕ} → length zs ≡ length ys → k < length columns.from_lefts
        → Stored (Image columns (get_or order k 0) cut) ys set zs t
        × (c ≡ count + hit_on columns cut (get_or order k 0)) × (c ≤ most) → PassedPlaces order (length columns.from_lefts) cut (k + 1) r
        → PlacesPassed columns order xs to cut hits most zs t c r
    places-step {zs} {t} {c} n h q past = places-over more past
      where
        more : PlacesPassed columns order xs to cut hits most zs t c (k + 1)
        more = record {
          until = omega arith;
          lengths = n ∙ p.lengths;
          stored = stored_same (one columns order cut k) (stored-then p.stored q.0);
          counted = omega (arith, p.counted, q.1, one-sum columns order cut k);
          few = q.2;
        }

    module _ (fit : Fit columns) where
      place-full :
          {zs : List ℕ} {t : CutSet} → k < length columns.from_lefts
          → Cramped (Image columns (get_or order k 0) cut) ys set zs t
          → Cramped (Images columns (count_of columns) (λ z. z ≡ cut)) xs to zs t
      place-full h c = cramped-wide
          (λ y q. let b = (one columns order cut k y).0 q in
          (all fit i cut y).0 (record { place = b.place; below = omega (arith, b.below); image = b.image }))
          (cramped-then p.stored c)

      place-excess :
          k < length columns.from_lefts → most < count + hit_on columns cut (get_or order k 0)
          → most < hits + hits_over columns (count_of columns) (cut ∷ [])
      place-excess h m =
          let n = length columns.from_lefts in
          let rest = sum_more (hit_on columns cut) order (k + 1) n (omega arith) in
          omega (arith, p.counted, rest, one-sum columns order cut k, all-sum fit i cut)

      pub place-stop :
          k < length columns.from_lefts → (zs : List ℕ) (stop : Stop)
          → Carrying (Image columns (get_or order k 0) cut) (hit_on columns cut (get_or order k 0)) ys set count most zs
          (Err stop)
          → Carrying (Images columns (count_of columns) (λ z. z ≡ cut)) (hits_over columns (count_of columns) (cut ∷ []))
          xs to hits most zs (Err stop)
      place-stop h zs (Stop.Full t) c = place-full h c
      place-stop h zs Stop.TooMany m = place-excess h m

      pub places-end :
          length columns.from_lefts ≤ k
          → Stored (Images columns (count_of columns) (λ z. z ≡ cut)) xs to ys set
          × (count ≡ hits + hits_over columns (count_of columns) (cut ∷ [])) × (count ≤ most)
      places-end h =
          let e : k ≡ length columns.from_lefts = omega (arith, p.until) in
          let counted = rw e at p.counted in
          (stored_same (all fit i cut) (rw e at p.stored), omega (arith, counted, all-sum fit i cut), p.few)
