-- Where no set has newly found cuts, the sets hold all cuts.
--     settled-all          the least table has room, and the sets of a side hold just the cuts that lie on that side
-- Assumes nothing.
use Prim.Native.Nat.{ℕ, ◌≤◌, ◌<◌}
use mathlib.Core.Path.{◌≡◌, refl, sym, subst, ◌∙◌}
use mathlib.Core.Logic.{◌↔◌, ◌⊎◌, inl, inr, ⊎_elim}
use mathlib.Core.List.{List}
use native.Mathlib.Omega.{arith}
use lib.ListN.{length}
use Rattle.refinement.specs.declared.Side.{Side}
use Rattle.refinement.specs.declared.Side.TheVariants.{A, B}
use Rattle.refinement.specs.Order.{◌∈◌}
use Rattle.refinement.specs.Match.{Match, Place, other, left, right, place, Spans, carry}
use Rattle.refinement.specs.Cut.{Cut, left_end, right_end, end, mark, carried}
use Rattle.refinement.proofs.Geometry.{end-spanned, carry-meets, meets-end, carry_back, carry-spans}
use Rattle.runs.specs.Runs.{In}
use Rattle.cut_set.specs.Store.{Member, Finished, NothingFound}
use Rattle.refining.specs.Refining.{least_of}
use Rattle.shelf.specs.Shelf.{set_at, Shelved}
use Rattle.tracks.specs.Tracks.{Tracked, match_in, match_count, matches_in, given_in, On, SideCut}
use Rattle.tracks.specs.Tracks.{Kind, over, along}
use Rattle.tracks.specs.Engine.{FitTracks, Open}
use Rattle.tracks.proofs.Indexed.{matches-∈, over-image, along-image}
use Rattle.tracks.proofs.Counting.{lane_whole}

module _ {t : Tracked} {n cap : ℕ} {xs : List ℕ} {books : Side → List ℕ} {hits : Kind → Side → ℕ} {s : Side}
    (ft : FitTracks t n)
    (o : Open t n cap xs books hits s)
    (none : (u : Side) (j : ℕ) → j < n → NothingFound (set_at (books u) j))
  where
    -- the place p is kept on the side u
    abbrev Kept : Side → Place → Type 0
    Kept u p = Shelved xs (books u) n p

    finished : (u : Side) {j x : ℕ} → j < n → Member xs (set_at (books u) j) x → Finished xs (set_at (books u) j) x
    finished u {j} {x} l p = subst (λ (e : ℕ). In xs (set_at (books u) j).base e x) (sym (none u j l)) p

    on-named : (u : Side) {k : ℕ} {p : Place} → On t u k p → p.track < n
    on-named u {k} q = subst (λ (j : ℕ). j < n) q.track_is (ft.named u k q.below)

    -- the position h of a match is on it
    on_of : (u : Side) {k : ℕ} (h : ℕ) → k < match_count t → Spans (match_in t k) u h → On t u k (place (match_in t k) u h)
    on_of A h l q = record { below = l; track_is = refl; spans = q }
    on_of B h l q = record { below = l; track_is = refl; spans = q }

    on-as : {m : Match} {k h : ℕ} → match_in t k ≡ m → (u : Side) → Spans (match_in t k) u h → k < match_count t
        → On t u k (place m u h)
    on-as {k = k} {h = h} e u q l = subst (λ (z : Match). On t u k (place z u h)) e (on_of u h l q)

    finished-is : (j : ℕ) → j < n → (x : ℕ) → Finished xs (set_at (books A) j) x ↔ Member xs (set_at (books A) j) x
    finished-is j l x = (
      λ p. subst (λ (e : ℕ). In xs (set_at (books A) j).base e x) (none A j l) p,
      finished A l,
    )

    -- a place that is kept on the one side and lies on the other is kept there too
    across : (u : Side) {k : ℕ} {p : Place} → Kept u p → On t (other u) k p → Kept (other u) p
    across u {k} {p} q on = record {
      set = q.set;
      member = o.taken along u p.track p.position (record {
        index = k;
        below = on.below;
        to_is = on.track_is;
        x = p.position;
        taken = subst (λ (j : ℕ). Finished xs (set_at (books u) j) p.position) (sym on.track_is)
            (finished u q.set q.member);
        image = along-image t ft.fit u on.below on.spans;
      });
    }

    everywhere : (u v : Side) {k : ℕ} {p : Place} → Kept u p → On t v k p → Kept v p
    everywhere A A q on = q
    everywhere A B q on = across A q on
    everywhere B A q on = across B q on
    everywhere B B q on = q

    kept_at : (u : Side) (k : ℕ) {x : ℕ} → k < match_count t → Member xs (set_at (books u) (t.tracks u k)) x
        → Kept u (place (match_in t k) u x)
    kept_at A k l p = record { set = ft.named A k l; member = p }
    kept_at B k l p = record { set = ft.named B k l; member = p }

    -- a kept place is carried on
    onward : (u : Side) {k x : ℕ} → k < match_count t → Spans (match_in t k) u x → Kept u (place (match_in t k) u x)
        → Kept (other u) (place (match_in t k) (other u) (carry (match_in t k) u x))
    onward A {k} {x} l h q = kept_at B k l (o.taken over A _ _ (record {
      index = k;
      below = l;
      to_is = refl;
      x = x;
      taken = finished A q.set q.member;
      image = over-image t ft.fit A l h;
    }))
    onward B {k} {x} l h q = kept_at A k l (o.taken over B _ _ (record {
      index = k;
      below = l;
      to_is = refl;
      x = x;
      taken = finished B q.set q.member;
      image = over-image t ft.fit B l h;
    }))

    end-of-a :
        {k : ℕ} → k < match_count t → (h : ℕ) → (h ≡ left (match_in t k) A) ⊎ (h ≡ right (match_in t k) A)
        → Kept A (place (match_in t k) A h)
    end-of-a {k} l h w =
        let ends = o.ended k l in
        let Here : ℕ → Type 0 = λ x. Member xs (set_at (books A) (t.tracks A k)) x in
        kept_at A k l
        (⊎_elim (λ e. subst Here (sym e) ends.0) (λ e. subst Here (ft.fit.from_right k l ∙ sym e) ends.1) w)

    end_kept :
        (u : Side) {k : ℕ} → k < match_count t → (h : ℕ) → (h ≡ left (match_in t k) u) ⊎ (h ≡ right (match_in t k) u)
        → Kept u (place (match_in t k) u h)
    end_kept A l h w = end-of-a l h w
    end_kept B {k} l h w =
        let m = match_in t k in
        let spans = end-spanned m B h w in
        let there = meets-end m B h (carry m B h) (carry-meets m B h spans) w in
        subst (λ (y : ℕ). Kept B (place m B y)) (carry_back m B h spans)
        (onward A l (carry-spans m B h spans) (end-of-a l (carry m B h) there))

    complete : {p : Place} → Cut (matches_in t) t.marks p → (u : Side) {k : ℕ} → On t u k p → Kept u p
    complete (end {m = m} i (left_end v)) u on =
        let w = matches-∈ t i in
        let kept = subst (λ (z : Match). Kept v (place z v (left z v))) w.2 (end_kept v w.1 _ (inl refl)) in
        everywhere v u kept on
    complete (end {m = m} i (right_end v)) u on =
        let w = matches-∈ t i in
        let kept = subst (λ (z : Match). Kept v (place z v (right z v))) w.2 (end_kept v w.1 _ (inr refl)) in
        everywhere v u kept on
    complete (mark {m = m} {s = v} {h = h} i marked spans) u on =
        let w = matches-∈ t i in
        let at = on_of v h w.1 (subst (λ (z : Match). Spans z v h) (sym w.2) spans) in
        let there = subst (λ (z : Match). place z v h ∈ t.marks) (sym w.2) marked in
        let kept = subst (λ (z : Match). Kept v (place z v h)) w.2
        (record { set = on-named v at; member = o.marked v _ _ there at }) in
        everywhere v u kept on
    complete (carried {m = m} {s = v} {h = h} i spans c) u on =
        let w = matches-∈ t i in
        let here = subst (λ (z : Match). Spans z v h) (sym w.2) spans in
        let before = subst (λ (z : Match). Kept v (place z v h)) (sym w.2) (complete c v (on-as w.2 v here w.1)) in
        let kept = subst (λ (z : Match). Kept (other v) (place z (other v) (carry z v h))) w.2 (onward v w.1 here before)
        in
        everywhere (other v) u kept on

    pub settled-all :
        (length (least_of (given_in t)) ≤ cap) × ((u : Side) (p : Place) → Kept u p ↔ SideCut t u p)
    settled-all = (fits, λ u p. (o.sound u p, λ c. complete c.cut u c.on))
      where
        fits : length (least_of (given_in t)) ≤ cap
        fits =
            let k = o.counted A in
            let whole = lane_whole ft A k.carried k.once (λ j l x. (
              λ i. o.sound A _ (record { set = l; member = (finished-is j l x).0 ((k.finished j l x).0 i) }),
              λ c. (k.finished j l x).1 ((finished-is j l x).1 (complete c.cut A c.on).member),
            )) in
            omega (arith, whole, k.hits_are over, o.few over A)
