-- One step, whichever side's: what holds between two steps holds again, for the other side.
--     image-cut            what a lane takes a cut to is a cut on the other side
--     found-exceeds        more hits than allowed: every resolved refinement exceeds the capacity
--     jammed-too-many      no place for what is taken: the same
--     taken-open           after a step, Open with the other side next ..
--     taken-less           .. and more finished cuts, if that side has newly found ones
-- Assumes nothing.
use Prim.Native.Nat.{ℕ, zero, suc, ◌+◌, ◌-◌, ◌*◌, ◌≤◌, ◌<◌}
use mathlib.Core.Path.{◌≡◌, refl, sym, subst, ◌∙◌}
use mathlib.Core.Logic.Iff
use mathlib.Core.Logic.{◌↔◌, ◌⊎◌, ⊎_elim, ◌≢◌}
use mathlib.Core.List.Memᴰ
use mathlib.Core.List.{List, ◌++◌}
use native.Mathlib.Omega.{arith}
use native.Mathlib.Decide.{dec_lt, ℕ_discrete}
use lib.ListN.{get_or}
use Rattle.refinement.specs.declared.Side.{Side}
use Rattle.refinement.specs.declared.Side.TheVariants.{A, B}
use Rattle.refinement.specs.Order.{◌∈◌, Distinct}
use Rattle.refinement.specs.Match.{Place, other, Spans, carry}
use Rattle.refinement.specs.Cut.{Cut, carried}
use Rattle.refinement.proofs.Geometry.{carry-spans}
use Rattle.refinement.proofs.Lists.{rising-append, rising-weaken}
use Rattle.runs.specs.Runs.{In, RisingIn}
use Rattle.runs.proofs.Membership.{in_parts}
use Rattle.cut_set.specs.Store.{Good, Member, Finished, Found, NothingFound, NothingAdded, found_in}
use Rattle.cut_set.specs.declared.CutSet.{CutSet}
use Rattle.cut_set.proofs.Gathering.{done-fresh, base_done, used-within}
use Rattle.cut_set.proofs.Laws.{done-used, none-added}
use Rattle.refining.specs.Demands.{EveryExceeds}
use Rattle.carrying_match.proofs.RunLists.{slice_in, in-slice, slice-rising}
use Rattle.shelf.specs.Shelf.{set_at, Shelved, filled, Jammed}
use Rattle.shelf.proofs.Shelving.{filled-most}
use Rattle.shelf.proofs.Members.{finished-member, found-member, apart_parts, grown-member}
use Rattle.tracks.specs.Tracks.{Tracked, match_in, match_count, matches_in, given_in, SideCut}
use Rattle.tracks.specs.Tracks.{Kind, over, along, lane, LaneImage, lane_hits}
use Rattle.tracks.specs.Engine.{FitTracks, half_from, half_to, Counted, Open, finished_in, unused, Taken}
use Rattle.tracks.proofs.Indexed.{∈-matches, lane-spans, over-carry, along-carry}
use Rattle.tracks.proofs.Counting.{lane-append, lane-exceed, jammed-exceeds}

-- how many places of the first n sets hold finished members, and how many gathered ones
finished-le : (b : List ℕ) (n : ℕ)
    → ((j : ℕ) → j < n → (set_at b j).done - (set_at b j).base ≤ (set_at b j).fresh - (set_at b j).base)
    → finished_in b n ≤ filled b n
finished-le b zero f = omega arith
finished-le b (suc n) f = omega (arith, finished-le b n (λ j l. f j (omega arith)), f n (omega arith))

finished-all : (b : List ℕ) (n : ℕ) → ((j : ℕ) → j < n → (set_at b j).done ≡ (set_at b j).fresh)
    → finished_in b n ≡ filled b n
finished-all b zero f = refl
finished-all b (suc n) f = omega (arith, finished-all b n (λ j l. f j (omega arith)), f n (omega arith))

finished-same : (b b' : List ℕ) (n : ℕ)
    → ((j : ℕ) → j < n → (set_at b' j).done - (set_at b' j).base ≡ (set_at b j).done - (set_at b j).base)
    → finished_in b' n ≡ finished_in b n
finished-same b b' zero f = refl
finished-same b b' (suc n) f = omega (arith, finished-same b b' n (λ j l. f j (omega arith)), f n (omega arith))

-- all gathered members of the first n sets are finished
abbrev AllDone : List ℕ → ℕ → Type 0
AllDone b n = (j : ℕ) → j < n → (set_at b j).fresh - (set_at b j).base ≤ (set_at b j).done - (set_at b j).base

-- fewer are finished than gathered, if not all of them are
finished-lt : (b : List ℕ) (n : ℕ)
    → ((j : ℕ) → j < n → (set_at b j).done - (set_at b j).base ≤ (set_at b j).fresh - (set_at b j).base)
    → ¬ AllDone b n → finished_in b n < filled b n
finished-lt b zero f some = absurd (some (λ j l. absurd (omega arith)))
finished-lt b (suc n) f some =
    go (dec_lt ((set_at b n).done - (set_at b n).base) ((set_at b n).fresh - (set_at b n).base))
    (finished-lt b n (λ j l. f j (omega arith)))
  where
    last : AllDone b n → (set_at b n).fresh - (set_at b n).base ≤ (set_at b n).done - (set_at b n).base → (j : ℕ) → j < suc n
        → Dec (j ≡ n) → (set_at b j).fresh - (set_at b j).base ≤ (set_at b j).done - (set_at b j).base
    last all h j l (yes e) = rw e h
    last all h j l (no e) = all j (omega (arith, e))

    go : Dec ((set_at b n).done - (set_at b n).base < (set_at b n).fresh - (set_at b n).base)
        → (¬ AllDone b n → finished_in b n < filled b n) → finished_in b (suc n) < filled b (suc n)
    go (yes h) rest = omega (arith, finished-le b n (λ j l. f j (omega arith)))
    go (no h) rest =
        omega (arith, rest (λ all. some (λ j l. last all (omega (arith, h)) j l (ℕ_discrete j n))), f n (omega arith))

-- the first of the newly found members
first_found : (xs : List ℕ) (s : CutSet) → s.done < s.used → Found xs s (get_or xs s.done 0)
first_found xs s h = record { place = s.done; from = omega arith; below = h; is = refl }

-- what holds of a side and of the other holds of both
both : (P : Side → Type 0) (s : Side) → P s → P (other s) → (u : Side) → P u
both P A p q A = p
both P A p q B = q
both P B p q A = q
both P B p q B = p

back : (P : Side → Type 0) (s : Side) → P s → P (other (other s))
back P A p = p
back P B p = p

module _ {t : Tracked} {n : ℕ} (ft : FitTracks t n) where
  abbrev place_of : ℕ → ℕ → Place
  place_of j x = record { track = j; position = x }

  -- a position of the match at an index, as a place of the side's track
  over-cut :
      (u : Side) {k x : ℕ} → k < match_count t → Spans (match_in t k) u x → Cut (matches_in t) t.marks (place_of (t.tracks u k) x)
      → SideCut t (other u) (place_of (t.tracks (other u) k) (carry (match_in t k) u x))
  over-cut A {k} {x} l h c = record {
    cut = carried (∈-matches t l) h c;
    index = k;
    on = record { below = l; track_is = refl; spans = carry-spans (match_in t k) A x h };
  }
  over-cut B {k} {x} l h c = record {
    cut = carried (∈-matches t l) h c;
    index = k;
    on = record { below = l; track_is = refl; spans = carry-spans (match_in t k) B x h };
  }

  pub image-cut :
      {D : ℕ → ℕ → Type 0} (w : Kind) (u : Side) {j y : ℕ}
      → ((i x : ℕ) → i < n → D i x → SideCut t u (place_of i x))
      → LaneImage (lane w t u) (match_count t) D j y → SideCut t (other u) (place_of j y)
  image-cut over u {j} {y} cuts p =
      let k = p.index in
      let spans = (lane-spans t ft.fit over u p.below p.x).0 p.image.spans in
      let from = cuts (t.tracks u k) p.x (ft.named u k p.below) p.taken in
      let to = over-cut u p.below spans from.cut in
      subst (λ (i : ℕ). SideCut t (other u) (place_of i y)) p.to_is
      (subst (λ (z : ℕ). SideCut t (other u) (place_of (t.tracks (other u) k) z))
      (sym (p.image.is ∙ over-carry t ft.fit u p.below p.x)) to)
  image-cut along u {j} {y} cuts p =
      let k = p.index in
      let v = other u in
      let spans = (lane-spans t ft.fit along u p.below p.x).0 p.image.spans in
      let from = cuts (t.tracks v k) p.x (ft.named v k p.below) p.taken in
      let to : SideCut t v (place_of (t.tracks v k) p.x) = record {
        cut = from.cut;
        index = k;
        on = record { below = p.below; track_is = refl; spans = spans };
      } in
      subst (λ (i : ℕ). SideCut t v (place_of i y)) p.to_is
      (subst (λ (z : ℕ). SideCut t v (place_of (t.tracks v k) z)) (sym (along-carry t ft.fit u p.image)) to)

module _ {t : Tracked} {n cap : ℕ} {xs : List ℕ} {books : Side → List ℕ} {hits : Kind → Side → ℕ} {s : Side}
    (ft : FitTracks t n)
    (o : Open t n cap xs books hits s)
  where
    -- the sets of a side, and what is newly found on the side that is next
    abbrev set_of : Side → ℕ → CutSet
    set_of u j = set_at (books u) j

    good : (u : Side) (j : ℕ) → j < n → Good xs (set_of u j)
    good u j l = (o.shelf u).good j l

    abbrev Image : Kind → ℕ → ℕ → Type 0
    Image w j y = LaneImage (lane w t s) (match_count t) (λ i x. Found xs (set_of s i) x) j y

    pub step-image : (w : Kind) {j y : ℕ} → Image w j y → SideCut t (other s) (record { track = j; position = y })
    step-image w p = image-cut ft w s
        (λ i x l f. o.sound s _ (record { set = l; member = found-member (good s i l) f })) p

    -- the cuts taken so far from a set of the side and those of the step
    all-cuts : ℕ → List ℕ
    all-cuts j = (o.counted s).carried j ++ found_in xs (set_of s j)

    order : (j : ℕ) → j < n → (set_of s j).done ≤ (set_of s j).used
    order j l = done-used (good s j l)

    -- what is newly found on the side is a run
    run : (j : ℕ) → j < n → RisingIn xs (set_of s j).done (set_of s j).used
    run j l = rw (sym (o.gathered s j l)) (good s j l).found_run.rising

    all_once : (j : ℕ) → j < n → Distinct (all-cuts j)
    unfolding all-cuts
    all_once j l =
        let k = o.counted s in
        let g = good s j l in
        let ns = found_in xs (set_of s j) in
        rising-append ◌≢◌ (k.carried j) ns (k.once j l)
        (rising-weaken ◌<◌ ◌≢◌ ns (λ x y _ _ h e. omega arith) (slice-rising xs (used-within g) (order j l) ◌<◌ (run j l)))
        (λ x y i m e.
        apart_parts g (o.gathered s j l) ((k.finished j l x).0 i)
        (rw (← e) at (slice_in xs (used-within g) (order j l) m)))

    all-members : (j : ℕ) → j < n → (x : ℕ) → (x ∈ all-cuts j) ↔ Member xs (set_of s j) x
    unfolding all-cuts
    all-members j l x =
        let k = o.counted s in
        let g = good s j l in (
          λ i.
              ⊎_elim (λ m. finished-member g ((k.finished j l x).0 m))
              (λ m. found-member g (slice_in xs (used-within g) (order j l) m)) (Memᴰ.append_cases (k.carried j) i),
          λ p.
              ⊎_elim (λ q. Memᴰ.append_left (found_in xs (set_of s j)) ((k.finished j l x).1 q))
              (λ q. Memᴰ.append_right (k.carried j) (in-slice xs (used-within g) (order j l) q))
              (in_parts (set_of s j).done p),
        )

    all_sound : (j : ℕ) → j < n → (x : ℕ) → x ∈ all-cuts j → Cut (matches_in t) t.marks (record { track = j; position = x })
    all_sound j l x i = (o.sound s _ (record { set = l; member = (all-members j l x).0 i })).cut

    all-hits :
        (w : Kind)
        → hits w s + lane_hits (lane w t s) (match_count t) (λ j. found_in xs (set_of s j))
        ≡ lane_hits (lane w t s) (match_count t) all-cuts
    unfolding all-cuts
    all-hits w =
        omega (
          arith,
          (o.counted s).hits_are w,
          lane-append (lane w t s) (match_count t) (o.counted s).carried (λ j. found_in xs (set_of s j)),
        )

    pub found-exceeds :
        (w : Kind)
        → cap + match_count t < hits w s + lane_hits (lane w t s) (match_count t) (λ j. found_in xs (set_of s j))
        → EveryExceeds (given_in t) cap
    found-exceeds w more = lane-exceed ft w s all-cuts all_once all_sound (omega (arith, all-hits w))

    room : (u : Side) → half_to u cap - half_from u cap ≡ 2 * cap
    room A = omega arith
    room B = omega arith

    pub jammed-too-many :
        Jammed
        (λ p. Shelved xs (books (other s)) n p ⊎ ((w : Kind) × Image w p.track p.position))
        (half_to (other s) cap - half_from (other s) cap)
        → EveryExceeds (given_in t) cap
    jammed-too-many j =
        jammed-exceeds ft (other s) (room (other s)) j
        (λ p. ⊎_elim (o.sound (other s) p) (λ q. step-image q.0 q.1))

    module _ {ys : List ℕ} {books' : Side → List ℕ} {hits' : Kind → Side → ℕ}
        (k : Taken t n cap xs books hits s ys books' hits')
      where
        kept : (u : Side) (j : ℕ) → j < n → (y : ℕ) → Member xs (set_of u j) y → Member ys (set_at (books' u) j) y
        kept =
            both (λ u. (j : ℕ) → j < n → (y : ℕ) → Member xs (set_of u j) y → Member ys (set_at (books' u) j) y) s
            (λ j l y p. (k.members j l y).1 p) (λ j l y p. (k.grown j l).stays y p)

        -- what is finished now on the side of the step was a member
        was : (j : ℕ) → j < n → (x : ℕ) → Finished ys (set_at (books' s) j) x → Member xs (set_of s j) x
        was j l x p = (k.members j l x).0 (finished-member ((k.shelf s).good j l) p)

        sound : (u : Side) (p : Place) → Shelved ys (books' u) n p → SideCut t u p
        sound =
            both (λ u. (p : Place) → Shelved ys (books' u) n p → SideCut t u p) s
            (λ p q. o.sound s p (record { set = q.set; member = (k.members p.track q.set p.position).0 q.member }))
            (λ p q.
            ⊎_elim (λ m. o.sound (other s) p (record { set = q.set; member = m })) (λ i. step-image i.0 i.1)
            (grown-member (good (other s) p.track q.set) (k.grown p.track q.set) q.member))

        named : (w : Kind) (u : Side) {i : ℕ} → i < match_count t → (lane w t u).from i < n
        named over u {i} l = ft.named u i l
        named along u {i} l = ft.named (other u) i l

        into : (w : Kind) (u : Side) {i : ℕ} → i < match_count t → (lane w t u).to i < n
        into over u {i} l = ft.named (other u) i l
        into along u {i} l = ft.named (other u) i l

        retaken :
            {D E : ℕ → ℕ → Type 0} (w : Kind) (u : Side) {j y : ℕ} (p : LaneImage (lane w t u) (match_count t) D j y)
            → E ((lane w t u).from p.index) p.x → LaneImage (lane w t u) (match_count t) E j y
        retaken w u p e = record {
          index = p.index;
          below = p.below;
          to_is = p.to_is;
          x = p.x;
          taken = e;
          image = p.image;
        }

        set-of : {D : ℕ → ℕ → Type 0} (w : Kind) (u : Side) {j y : ℕ} → LaneImage (lane w t u) (match_count t) D j y → j < n
        set-of w u p = subst (λ (i : ℕ). i < n) p.to_is (into w u p.below)

        taken :
            (w : Kind) (u : Side) (j y : ℕ)
            → LaneImage (lane w t u) (match_count t) (λ i x. Finished ys (set_at (books' u) i) x) j y
            → Member ys (set_at (books' (other u)) j) y
        taken w =
            both
            (λ u.
            (j y : ℕ) → LaneImage (lane w t u) (match_count t) (λ i x. Finished ys (set_at (books' u) i) x) j y
            → Member ys (set_at (books' (other u)) j) y)
            s
            (λ j y p.
            let l = named w s p.below in
            ⊎_elim (λ q. kept (other s) j (set-of w s p) y (o.taken w s j y (retaken w s p q)))
            (λ q. (k.grown j (set-of w s p)).held y (w, retaken w s p q))
            (in_parts (set_of s ((lane w t s).from p.index)).done (was _ l p.x p.taken)))
            (λ j y p.
            kept (other (other s)) j (set-of w (other s) p) y
            (o.taken w (other s) j y
            (retaken w (other s) p
            (((k.grown ((lane w t (other s)).from p.index) (named w (other s) p.below)).finished p.x).0 p.taken))))

        counted-turn : Counted t n ys (books' s) s (λ w. hits' w s)
        counted-turn = record {
          carried = all-cuts;
          once = all_once;
          finished = λ j l x. (
            λ i.
                subst (λ (e : ℕ). In ys (set_at (books' s) j).base e x) (sym (k.all j l))
                ((k.members j l x).1 ((all-members j l x).0 i)),
            λ p. (all-members j l x).1 (was j l x p),
          );
          hits_are = λ w. k.counted w ∙ all-hits w;
        }

        counted_other : Counted t n ys (books' (other s)) (other s) (λ w. hits' w (other s))
        counted_other =
            let c = o.counted (other s) in record {
              carried = c.carried;
              once = c.once;
              finished = λ j l x. Iff.trans (c.finished j l x) (
                λ p. ((k.grown j l).finished x).1 p,
                λ p. ((k.grown j l).finished x).0 p,
              );
              hits_are = λ w. k.counted_other w ∙ c.hits_are w;
            }

        pub taken-open : Open t n cap ys books' hits' (other s)
        taken-open = record {
          shelf = k.shelf;
          sound = sound;
          ended = λ i l.
              let e = o.ended i l in
              let j = ft.named A i l in
              (kept A (t.tracks A i) j _ e.0, kept A (t.tracks A i) j _ e.1);
          marked = λ u i p m q.
              kept u p.track (subst (λ (j : ℕ). j < n) q.track_is (ft.named u i q.below)) _ (o.marked u i p m q);
          taken = taken;
          settled = λ _ j l. back (λ u. NothingFound (set_at (books' u) j)) s (k.all j l);
          gathered =
              both (λ u. (j : ℕ) → j < n → NothingAdded (set_at (books' u) j)) s
              (λ j l. none-added ((k.shelf s).good j l) (k.all j l)) k.ready;
          counted = both (λ u. Counted t n ys (books' u) u (λ w. hits' w u)) s counted-turn counted_other;
          few = λ w. both (λ u. hits' w u ≤ cap + match_count t) s (k.few w)
              (omega (arith, k.counted_other w, o.few w (other s)));
        }

        -- what is newly found on the other side comes from what was
        came :
            (j : ℕ) → j < n → ¬ NothingFound (set_at (books' (other s)) j)
            → ¬ ((i : ℕ) → i < n → NothingFound (set_of s i))
        came j l some none =
            let g = (k.shelf (other s)).good j l in
            let new = first_found ys (set_at (books' (other s)) j) (omega (arith, some, done-used g)) in
            ⊎_elim (λ p. omega (arith, p.from, p.below, o.settled none j l))
            (λ p. let q = p.1.taken in omega (arith, q.from, q.below, none _ (named p.0 s p.1.below)))
            ((k.grown j l).only _ new)

        pub taken-less :
            (j : ℕ) → j < n → ¬ NothingFound (set_at (books' (other s)) j) → unused books' n cap < unused books n cap
        taken-less j l some =
            less s
            (finished-lt (books s) n (λ i h. omega (arith, done-fresh (good s i h))) (λ all. came j l some (none all)))
            (finished-all (books' s) n (λ i h.
            omega (arith, k.all i h, ((k.shelf s).good i h).added, done-fresh ((k.shelf s).good i h))))
            k.filled_same
            (finished-same (books (other s)) (books' (other s)) n (λ i h. (k.grown i h).done_same))
          where
            none : AllDone (books s) n → (i : ℕ) → i < n → NothingFound (set_of s i)
            none all i h =
                omega (arith, all i h, o.gathered s i h, done-used (good s i h), base_done (good s i h))

            most : (u : Side) → finished_in (books u) n ≤ half_to u cap - half_from u cap
            most u =
                let part = finished-le (books u) n (λ i h. omega (arith, done-fresh (good u i h))) in
                omega (arith, filled-most (o.shelf u), part)

            less :
                (s : Side) → finished_in (books s) n < filled (books s) n → finished_in (books' s) n ≡ filled (books' s) n
                → filled (books' s) n ≡ filled (books s) n
                → finished_in (books' (other s)) n ≡ finished_in (books (other s)) n
                → unused books' n cap < unused books n cap
            less A h all same rest = omega (arith, filled-most (k.shelf A), most B)
            less B h all same rest = omega (arith, filled-most (k.shelf B), most A)
