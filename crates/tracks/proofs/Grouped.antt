-- Groups of matches: their tracks, and the part of the columns that belongs to one.
--     start-count          a group starts at the count of matches or before it
--     group-track          the matches of a group have its track
--     track-named          a group names tracks that have a set
--     match-named, grouped-fit     the matches name tracks that have a set
--     part-fit             a part of columns that fit fits
--     part-ends            what holds of the ends of its matches
--     part-image, image-part      what a match of the part carries a number to, by its index in all
--     part-hits            the hits of a part, added to those of the matches before it
-- Assumes nothing.
use Prim.Native.Nat.{ℕ, zero, suc, ◌+◌, ◌-◌, ◌≤◌, ◌<◌}
use mathlib.Core.Path.{◌≡◌, refl, sym, ap, subst, ◌∙◌}
use mathlib.Core.Bool.{Bool, true, false, cond}
use mathlib.Core.List.{List}
use native.Mathlib.Omega.{arith}
use native.Mathlib.Decide.{ℕ_discrete}
use lib.ListN.{length, get_or, drop, length-drop}
use lib.Seq.{get_or-take, get_or-drop, length-take-le}
use lib.Dec.{ltb}
use borrow.Author.Tests.{ltb-true, ltb-false}
use Rattle.refinement.specs.declared.Side.{Side}
use Rattle.refinement.specs.declared.Side.TheVariants.{A, B}
use Rattle.refinement.specs.Match.{Place}
use Rattle.refining.specs.Columns.{Columns, count_of, from_at, from_right_at, to_at, to_right_at, way_at, Fit}
use Rattle.carrying_match.specs.OneMatch.{hits_on}
use Rattle.carrying_cuts.specs.Worker.{Image, hits_over}
use Rattle.tracks.specs.Tracks.{lane_hits}
use Rattle.tracks.specs.Engine.{FitTracks}
use Rattle.tracks.specs.Groups.{start_at, track_at, tracks_of, Groups, grouped, side_at, part, part_of}

not-below : (k s : ℕ) → s ≤ k → ltb k s ≡ false
not-below k s h = go (ltb k s) refl
  where
    go : (b : Bool) → ltb k s ≡ b → ltb k s ≡ false
    go true e = absurd (omega (arith, ltb-true k s e))
    go false e = e

is_below : (k s : ℕ) → k < s → ltb k s ≡ true
is_below k s h = go (ltb k s) refl
  where
    go : (b : Bool) → ltb k s ≡ b → ltb k s ≡ true
    go true e = e
    go false e = absurd (omega (arith, ltb-false k s e))

module _ {gs : List ℕ} {n count sets : ℕ} (g : Groups gs n count sets) where
  start-le : (a d : ℕ) → a + d ≤ n → start_at gs a ≤ start_at gs (a + d)
  start-le a zero l = rw (same) (omega arith)
    where
      same : a + 0 ≡ a
      same = omega arith
  start-le a (suc d) l =
      let step = g.rising (a + d) (omega arith) in
      let rest = start-le a d (omega arith) in
      subst (λ (z : ℕ). start_at gs a ≤ start_at gs z) (suc-of a d) (omega arith)
    where
      suc-of : (a d : ℕ) → suc (a + d) ≡ a + suc d
      suc-of a d = omega arith

  pub start-count : (a : ℕ) → a ≤ n → start_at gs a ≤ count
  start-count a l =
      subst (λ (z : ℕ). start_at gs a ≤ z) (ap (start_at gs) whole ∙ g.last) (start-le a (n - a) (omega arith))
    where
      whole : a + (n - a) ≡ n
      whole = omega arith

  pub group-track :
      (at a k : ℕ) → a < n → start_at gs a ≤ k → k < start_at gs (suc a) → tracks_of gs n at k ≡ track_at gs at a
  group-track at a k l from to = go n (omega arith) l
    where
      go : (m : ℕ) → m ≤ n → a < m → tracks_of gs m at k ≡ track_at gs at a
      go zero h b = absurd (omega arith)
      go (suc m) h b = pick (ℕ_discrete a m) (λ c. go m (omega arith) c)
        where
          pick : Dec (a ≡ m) → (a < m → tracks_of gs m at k ≡ track_at gs at a) → tracks_of gs (suc m) at k ≡ track_at gs at a
          pick (yes e) rest =
              let here = subst (λ (z : ℕ). start_at gs z ≤ k) e from in
              rw (not-below k (start_at gs m) here) (ap (track_at gs at) (sym e))
          pick (no e) rest =
              let later = start-le (suc a) (m - suc a) (omega arith) in
              let whole : suc a + (m - suc a) ≡ m = omega arith in
              let behind : k < start_at gs m =
              omega (arith, later, ap (start_at gs) whole) in
              rw (is_below k (start_at gs m) behind) (rest (omega arith))

  named-to :
      (at : ℕ) → ((a : ℕ) → a < n → track_at gs at a < sets) → (m k : ℕ) → m ≤ n → k < start_at gs m → tracks_of gs m at k < sets
  named-to at each zero k h l = absurd (omega (arith, g.first))
  named-to at each (suc m) k h l = go (ltb k (start_at gs m)) refl (named-to at each m k (omega arith))
    where
      go :
          (b : Bool) → ltb k (start_at gs m) ≡ b → (k < start_at gs m → tracks_of gs m at k < sets)
          → cond b (tracks_of gs m at k) (track_at gs at m) < sets
      go true e rest = rest (ltb-true k (start_at gs m) e)
      go false e rest = each m (omega arith)

  -- a number of a group that tells a track: at is 1 for A and 2 for B
  pub track-named : {at : ℕ} → 1 ≤ at → at ≤ 2 → (a : ℕ) → a < n → track_at gs at a < sets
  track-named {at} from to a l = go (ℕ_discrete at 1)
    where
      go : Dec (at ≡ 1) → track_at gs at a < sets
      go (yes e) = rw e (g.on_a a l)
      go (no e) = let two : at ≡ 2 = omega arith in rw two (g.on_b a l)

  pub match-named : {at : ℕ} → 1 ≤ at → at ≤ 2 → (k : ℕ) → k < count → tracks_of gs n at k < sets
  match-named {at} from to k l = named-to at (track-named from to) n k (omega arith) (omega (arith, g.last))

  pub grouped-fit : {c : Columns} → Fit c → count_of c ≡ count → (marks : List Place) → FitTracks (grouped c gs n marks) sets
  grouped-fit {c} fit e marks = record { fit = fit; named = named }
    where
      named : (u : Side) (k : ℕ) → k < count_of c → tracks_of gs n (side_at u) k < sets
      named A k l = match-named (omega arith) (omega arith) k (omega (arith, e))
      named B k l = match-named (omega arith) (omega arith) k (omega (arith, e))

module _ {T : Type 0} (a e : ℕ) (xs : List T) (within : e ≤ length xs) where
  pub part_length : length (part a e xs) ≡ e - a
  part_length = length-take-le (e - a) (drop a xs) (omega (arith, length-drop a xs))

  pub part_at : (d : T) (i : ℕ) → i < e - a → get_or (part a e xs) i d ≡ get_or xs (a + i) d
  part_at d i l = get_or-take (e - a) (drop a xs) i d l ∙ get_or-drop a xs i d

module _ {c : Columns} (fit : Fit c) (a e : ℕ) (within : e ≤ count_of c) where
  from-within : e ≤ length c.from_lefts
  from-within = omega (arith, fit.from_length)

  right_within : e ≤ length c.from_rights
  right_within = omega (arith, fit.from_right_length)

  to-within : e ≤ length c.to_lefts
  to-within = omega (arith, fit.to_length)

  to-right-within : e ≤ length c.to_rights
  to-right-within = omega (arith, fit.to_right_length)

  pub part_count : count_of (part_of a e c) ≡ e - a
  part_count = part_length a e c.ways within

  module _ {i : ℕ} (l : i < e - a) where
    part-from : from_at (part_of a e c) i ≡ from_at c (a + i)
    part-from = part_at a e c.from_lefts from-within 0 i l

    part-from-right : from_right_at (part_of a e c) i ≡ from_right_at c (a + i)
    part-from-right = part_at a e c.from_rights right_within 0 i l

    part-to : to_at (part_of a e c) i ≡ to_at c (a + i)
    part-to = part_at a e c.to_lefts to-within 0 i l

    part-to-right : to_right_at (part_of a e c) i ≡ to_right_at c (a + i)
    part-to-right = part_at a e c.to_rights to-right-within 0 i l

    part-way : way_at (part_of a e c) i ≡ way_at c (a + i)
    part-way = part_at a e c.ways within false i l

    pub part-image : {x y : ℕ} → Image (part_of a e c) i x y → Image c (a + i) x y
    part-image p = record {
      spans = rw (sym part-from) (rw (sym part-from-right) p.spans);
      is = rw (sym part-from) (rw (sym part-to) (rw (sym part-to-right) (rw (sym part-way) p.is)));
    }

    pub image-part : {x y : ℕ} → Image c (a + i) x y → Image (part_of a e c) i x y
    image-part p = record {
      spans = rw part-from (rw part-from-right p.spans);
      is = rw part-from (rw part-to (rw part-to-right (rw part-way p.is)));
    }

  pub part-ends :
      (P : ℕ → ℕ → Type 0) → ((k : ℕ) → a ≤ k → k < e → P (to_at c k) (to_right_at c k))
      → (i : ℕ) → i < count_of (part_of a e c) → P (to_at (part_of a e c) i) (to_right_at (part_of a e c) i)
  part-ends P all i l =
      let h : i < e - a = omega (arith, part_count) in
      subst (λ (z : ℕ). P z (to_right_at (part_of a e c) i)) (sym (part-to h))
      (subst (λ (z : ℕ). P (to_at c (a + i)) z) (sym (part-to-right h)) (all (a + i) (omega arith) (omega arith)))

  pub part-fit : Fit (part_of a e c)
  part-fit = record {
    from_length = part_length a e c.from_lefts from-within ∙ sym part_count;
    from_right_length = part_length a e c.from_rights right_within ∙ sym part_count;
    to_length = part_length a e c.to_lefts to-within ∙ sym part_count;
    to_right_length = part_length a e c.to_rights to-right-within ∙ sym part_count;
    lettered = λ i l.
        let h : i < e - a = omega (arith, part_count) in
        omega (arith, part-to h, part-to-right h, fit.lettered (a + i) (omega arith));
    from_right = λ i l.
        let h : i < e - a = omega (arith, part_count) in
        omega (arith, part-from h, part-from-right h, part-to h, part-to-right h, fit.from_right (a + i) (omega arith));
    to_right = λ i l.
        let h : i < e - a = omega (arith, part_count) in
        omega (arith, part-to h, part-to-right h, fit.to_right (a + i) (omega arith));
  }

  -- the hits of the first d matches of the part
  hits-to :
      (from to : ℕ → ℕ) (f : ℕ → List ℕ) (ns : List ℕ) → ((k : ℕ) → a ≤ k → k < e → f (from k) ≡ ns)
      → (d : ℕ) → d ≤ e - a
      → lane_hits (record { columns = c; from = from; to = to }) a f + hits_over (part_of a e c) d ns
      ≡ lane_hits (record { columns = c; from = from; to = to }) (a + d) f
  hits-to from to f ns same zero l =
      omega (arith, ap (λ k. lane_hits (record { columns = c; from = from; to = to }) k f) none)
    where
      none : a + 0 ≡ a
      none = omega arith
  hits-to from to f ns same (suc d) l =
      let one : a + suc d ≡ suc (a + d) = omega arith in
      let h : d < e - a = omega arith in
      let left = part-from h in
      let right = part-from-right h in
      let list = same (a + d) (omega arith) (omega arith) in
      omega (
        arith,
        hits-to from to f ns same d (omega arith),
        ap (λ k. lane_hits (record { columns = c; from = from; to = to }) k f) one,
        ap (λ z. hits_on z (from_right_at (part_of a e c) d) ns) left,
        ap (λ z. hits_on (from_at c (a + d)) z ns) right,
        ap (hits_on (from_at c (a + d)) (from_right_at c (a + d))) list,
      )

  pub part-hits :
      (from to : ℕ → ℕ) (f : ℕ → List ℕ) (ns : List ℕ) → ((k : ℕ) → a ≤ k → k < e → f (from k) ≡ ns) → a ≤ e
      → lane_hits (record { columns = c; from = from; to = to }) a f + hits_over (part_of a e c) (count_of (part_of a e c)) ns
      ≡ lane_hits (record { columns = c; from = from; to = to }) e f
  part-hits from to f ns same o =
      rw part_count (subst (λ (z : ℕ). lane_hits (record { columns = c; from = from; to = to }) a f
      + hits_over (part_of a e c) (e - a) ns ≡ lane_hits (record { columns = c; from = from; to = to }) z f) whole
      (hits-to from to f ns same (e - a) (omega arith)))
    where
      whole : a + (e - a) ≡ e
      whole = omega arith
