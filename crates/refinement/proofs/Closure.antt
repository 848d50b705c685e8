-- The computed cuts are the inductive ones. Each round of carrying keeps what is there, adds only cuts, and adds one at
-- least unless the places are closed already; a list of distinct cuts is no longer than the list of all spanned places,
-- so the rounds are enough.
--     ∈-spanned        every spanned place is in spanned_places
--     added            what add_new adds is there
--     ∈-ends           an end of a match is in ends
--     cut-on-match     every cut lies on a match
--     least-closed     least_cuts is closed
--     least-sound      every place of least_cuts is a Cut
--     closed-complete  a closed list has every Cut
--     spanned-closed   the list of all spanned places is closed
-- Assumes nothing.
use Prim.Native.Nat.{ℕ, zero, suc, ◌+◌, ◌≤◌}
use mathlib.Core.Path.{◌≡◌, refl, sym, ap, subst, ◌∙◌}
use mathlib.Core.Logic.{◌⊎◌, inl, inr, ⊎_elim}
use mathlib.Core.List.Memᴰ
use mathlib.Core.List.{List, [], ◌∷◌, ◌++◌, map, flat_map, filter}
use mathlib.Core.List.Memᴰ.{head as here}
use mathlib.Core.List.Memᴰ.{tail as there}
use native.Mathlib.Omega.{arith}
use native.Mathlib.Decide.{ℕ_discrete}
use lib.ListN.{length, length-append}
use Rattle.refinement.specs.declared.Side.{Side}
use Rattle.refinement.specs.declared.Side.TheVariants.{A, B}
use Rattle.refinement.specs.Order.{◌∈◌, Distinct}
use Rattle.refinement.specs.Match.{Match, other, track, left, Place, place, Spans, carry}
use Rattle.refinement.specs.Cut.{End, left_end, right_end, Cut, end, mark, carried}
use Rattle.refinement.specs.Least.{in?, sides, ends_of, ends, spans_place?, spanning, carried_by, images}
use Rattle.refinement.specs.Least.{spanned_marks, add_new, grow, span_count, least_cuts, spanned_from, spanned_places}
use Rattle.refinement.proofs.Lists.{on-ite, ∈-filter, ∈-unfilter, ∈-flat_map, ∈-unflat_map, pigeonhole}
use Rattle.refinement.proofs.Geometry.{left-spanned, right-spanned, carry-spans}
use Rattle.refinement.proofs.Table.{Closed}

-- Adding what is not there yet.
kept : (qs ps : List Place) {p : Place} → p ∈ ps → p ∈ add_new qs ps
unfolding add_new
kept [] ps i = i
kept (q ∷ qs) ps {p} i =
    let j = kept qs ps i in on-ite (λ l. p ∈ l) (in? q (add_new qs ps)) (λ _. j) (λ _. there j)

pub added : (ps : List Place) {p : Place} {qs : List Place} → p ∈ qs → p ∈ add_new qs ps
unfolding add_new
added ps {p} (here {x = q} {xs = qs} e) =
    on-ite (λ l. p ∈ l) (in? q (add_new qs ps)) (λ j. Memᴰ.cast e j) (λ _. here e)
added ps {p} (there {x = q} {xs = qs} i) =
    let j = added ps i in on-ite (λ l. p ∈ l) (in? q (add_new qs ps)) (λ _. j) (λ _. there j)

added-only : (qs ps : List Place) {p : Place} → p ∈ add_new qs ps → (p ∈ qs) ⊎ (p ∈ ps)
unfolding add_new
added-only [] ps i = inr i
added-only (q ∷ qs) ps {p} i =
    let later : p ∈ add_new qs ps → (p ∈ (q ∷ qs)) ⊎ (p ∈ ps) =
    λ j. ⊎_elim (λ k. inl (there k)) inr (added-only qs ps j)
    in
    on-ite (λ l. p ∈ l → (p ∈ (q ∷ qs)) ⊎ (p ∈ ps)) (in? q (add_new qs ps)) (λ _. later)
    (λ _ j. ⊎_elim (λ e. inl (here e)) later (Memᴰ.cases_cons j)) i

distinct-added : (qs ps : List Place) → Distinct ps → Distinct (add_new qs ps)
unfolding add_new
distinct-added [] ps d = d
distinct-added (q ∷ qs) ps d =
    let b = distinct-added qs ps d in
    on-ite Distinct (in? q (add_new qs ps)) (λ _. b) (λ n. (λ p i e. n (Memᴰ.cast e i), b))

-- what is added shows in the length
added_none :
    (qs ps : List Place) → (length ps ≤ length (add_new qs ps)) × (length (add_new qs ps) ≡ length ps → add_new qs ps ≡ ps)
unfolding add_new
added_none [] ps = (omega arith, λ _. refl)
added_none (q ∷ qs) ps =
    let b = added_none qs ps in
    on-ite (λ (l : List Place). (length ps ≤ length l) × (length l ≡ length ps → l ≡ ps)) (in? q (add_new qs ps))
    (λ _. b) (λ _. (omega (arith, b.0), λ e. absurd (omega (arith, b.0))))

-- The matches that span a place, and their ends.
∈-sides : (s : Side) → s ∈ sides
∈-sides A = here refl
∈-sides B = there (here refl)

abbrev OnSide : Match → Place → Side → Type 0
OnSide m p s = (p.track ≡ track m s) × Spans m s p.position

∈-spanning : {ms : List Match} {m : Match} (p : Place) (s : Side) → m ∈ ms → OnSide m p s → (m, s) ∈ spanning ms p
unfolding spanning
∈-spanning {ms} {m} p s i o =
    ∈-flat_map (λ m. map (λ s. (m, s)) (filter (spans_place? m p) sides)) i
    (Memᴰ.map (λ s. (m, s)) (∈-filter (spans_place? m p) (∈-sides s) o))

spanning-∈ : (ms : List Match) (p : Place) (v : Match × Side) → v ∈ spanning ms p → (v.0 ∈ ms) × OnSide v.0 p v.1
unfolding spanning
spanning-∈ ms p v i =
    let f = ∈-unflat_map (λ m. map (λ s. (m, s)) (filter (spans_place? m p) sides)) ms i in
    let g = Memᴰ.of_map (λ s. (f.0, s)) (filter (spans_place? f.0 p) sides) f.2 in
    rw (← g.2) (f.1, (∈-unfilter (spans_place? f.0 p) sides g.1).1)

on-place : {m : Match} {p : Place} {s : Side} → OnSide m p s → p ≡ place m s p.position
on-place {m} {p} {s} o = λ i. record { track = o.0 i; position = p.position }

∈-ends_of : {m : Match} {p : Place} → End m p → (s : Side) × (p ∈ ends_of m s)
∈-ends_of (left_end s) = (s, here refl)
∈-ends_of (right_end s) = (s, there (here refl))

pub ∈-ends : {ms : List Match} {m : Match} {p : Place} → m ∈ ms → End m p → p ∈ ends ms
unfolding ends
∈-ends {m} i t =
    let e = ∈-ends_of t in
    ∈-flat_map (λ m. flat_map (ends_of m) sides) i (∈-flat_map (ends_of m) (∈-sides e.0) e.1)

ends-∈ : (ms : List Match) {p : Place} → p ∈ ends ms → (m : Match) × (m ∈ ms) × End m p
unfolding ends
ends-∈ ms {p} i =
    let f = ∈-unflat_map (λ m. flat_map (ends_of m) sides) ms i in
    let g = ∈-unflat_map (ends_of f.0) sides f.2 in
    let is-left : p ≡ _ → End f.0 p = λ e. subst (End f.0) (sym e) (left_end g.0) in
    let is_right : p ≡ _ → End f.0 p = λ e. subst (End f.0) (sym e) (right_end g.0) in
    (f.0, f.1, ⊎_elim is-left (λ j. is_right (Memᴰ.eq_of_singleton j)) (Memᴰ.cases_cons g.2))

-- Every cut lies on a match, so there are no more distinct ones than spanned places.
∈-from : (m : Match) (s : Side) (n h : ℕ) → left m s ≤ h → h ≤ left m s + n → place m s h ∈ spanned_from m s n
unfolding spanned_from
∈-from m s zero h l r = let e : h ≡ left m s = omega arith in rw e (here refl)
∈-from m s (suc n) h l r = go (ℕ_discrete h (left m s + suc n)) (λ k. ∈-from m s n h l k)
  where
    go :
        Dec (h ≡ left m s + suc n) → (h ≤ left m s + n → place m s h ∈ spanned_from m s n)
        → place m s h ∈ spanned_from m s (suc n)
    go (yes e) below = rw e (here refl)
    go (no e) below = there (below (omega arith))

length_from : (m : Match) (s : Side) (n : ℕ) → length (spanned_from m s n) ≡ suc n
unfolding spanned_from
length_from m s zero = refl
length_from m s (suc n) = ap suc (length_from m s n)

pub ∈-spanned :
    {ms : List Match} {m : Match} → m ∈ ms → (s : Side) (h : ℕ) → Spans m s h → place m s h ∈ spanned_places ms
unfolding spanned_places
∈-spanned {ms} {m} i s h t =
    ∈-flat_map (λ m. flat_map (λ s. spanned_from m s m.length) sides) i
    (∈-flat_map (λ s. spanned_from m s m.length) (∈-sides s) (∈-from m s m.length h t.from_left t.to_right))

length-spanned : (ms : List Match) → length (spanned_places ms) ≡ span_count ms
unfolding spanned_places span_count flat_map
length-spanned [] = refl
length-spanned (m ∷ ms) =
    let a = spanned_from m A m.length in
    let b = spanned_from m B m.length in
    let all = length-append (a ++ (b ++ [])) (spanned_places ms) in
    let both = length-append a (b ++ []) in
    let own = length-append b [] in
    omega (arith, length_from m A m.length, length_from m B m.length, length-spanned ms)

pub cut-on-match :
    {ms : List Match} {marks : List Place} {p : Place} → Cut ms marks p
    → (m : Match) × (m ∈ ms) × (s : Side) × (p.track ≡ track m s) × Spans m s p.position
cut-on-match (end {m = m} i (left_end s)) = (m, i, s, refl, left-spanned m s)
cut-on-match (end {m = m} i (right_end s)) = (m, i, s, refl, right-spanned m s)
cut-on-match (mark {m = m} {s = s} i k t) = (m, i, s, refl, t)
cut-on-match (carried {m = m} {s = s} {h = h} i t c) = (m, i, other s, refl, carry-spans m s h t)

cut-spanned : {ms : List Match} {marks : List Place} {p : Place} → Cut ms marks p → p ∈ spanned_places ms
cut-spanned {p} c =
    let v = cut-on-match c in
    Memᴰ.cast (λ i. record { track = v.3 i; position = p.position }) (∈-spanned v.1 v.2 p.position v.4)

∈-images :
    {ms : List Match} {ps : List Place} {m : Match} → m ∈ ms → (s : Side) (h : ℕ) → Spans m s h → place m s h ∈ ps
    → place m (other s) (carry m s h) ∈ images ms ps
unfolding images
∈-images {ms} {ps} {m} i s h t j =
    ∈-flat_map (λ p. map (carried_by p) (spanning ms p)) j
    (Memᴰ.map (carried_by (place m s h)) (∈-spanning (place m s h) s i (refl, t)))

-- What holds before each round.
record Growing (ms : List Match) (marks ps : List Place) : Type 0 where
  once : Distinct ps
  begun : (m : Match) → m ∈ ms → (p : Place) → End m p → p ∈ ps
  marked : (m : Match) → m ∈ ms → (s : Side) (h : ℕ) → place m s h ∈ marks → Spans m s h → place m s h ∈ ps
  cuts : (p : Place) → p ∈ ps → Cut ms marks p

module _ {ms : List Match} {marks : List Place} where
  image-cut : {ps : List Place} → Growing ms marks ps → (q : Place) → q ∈ images ms ps → Cut ms marks q
  unfolding images
  image-cut {ps} G q i =
      let f = ∈-unflat_map (λ p. map (carried_by p) (spanning ms p)) ps i in
      let p = f.0 in
      let g = Memᴰ.of_map (carried_by p) (spanning ms p) f.2 in
      let v = spanning-∈ ms p g.0 g.1 in
      subst (Cut ms marks) g.2 (carried v.0 v.1.1 (subst (Cut ms marks) (on-place v.1) (G.cuts p f.1)))

  bounded : {ps : List Place} → Growing ms marks ps → length ps ≤ span_count ms
  bounded {ps} G =
      omega (arith, pigeonhole ps (spanned_places ms) G.once (λ p i. cut-spanned (G.cuts p i)), length-spanned ms)

  grown : {ps : List Place} → Growing ms marks ps → Growing ms marks (add_new (images ms ps) ps)
  grown {ps} G = record {
    once = distinct-added (images ms ps) ps G.once;
    begun = λ m i p e. kept (images ms ps) ps (G.begun m i p e);
    marked = λ m i s h k t. kept (images ms ps) ps (G.marked m i s h k t);
    cuts = λ p i. ⊎_elim (image-cut G p) (G.cuts p) (added-only (images ms ps) ps i);
  }

  closed : {ps : List Place} → Growing ms marks ps → length (add_new (images ms ps) ps) ≡ length ps → Closed ms marks ps
  closed {ps} G e = record {
    once = G.once;
    ends = G.begun;
    marked = G.marked;
    carries = λ m i s h t j.
        subst (λ (z : List Place). place m (other s) (carry m s h) ∈ z) ((added_none (images ms ps) ps).1 e)
        (added ps (∈-images i s h t j));
  }

  -- With as many rounds as there are spanned places beyond those found, the last one adds nothing.
  grow-closed :
      (n : ℕ) (ps : List Place) → Growing ms marks ps → span_count ms ≤ n + length ps
      → Closed ms marks (grow n ms ps) × ((p : Place) → p ∈ grow n ms ps → Cut ms marks p)
  unfolding grow
  grow-closed zero ps G l =
      (closed G (omega (arith, bounded (grown G), (added_none (images ms ps) ps).0)), G.cuts)
  grow-closed (suc n) ps G l =
      let next = add_new (images ms ps) ps in
      on-ite (λ (qs : List Place). Closed ms marks qs × ((p : Place) → p ∈ qs → Cut ms marks p))
      (ℕ_discrete (length next) (length ps)) (λ e. (closed G e, G.cuts))
      (λ n'. grow-closed n next (grown G) (omega (arith, (added_none (images ms ps) ps).0)))

  mark-cut : (p : Place) → p ∈ spanned_marks ms marks → Cut ms marks p
  unfolding spanned_marks
  mark-cut p i =
      let f = ∈-unflat_map (λ p. map (λ v. p) (spanning ms p)) marks i in
      let g = Memᴰ.of_map (λ v. f.0) (spanning ms f.0) f.2 in
      let v = spanning-∈ ms f.0 g.0 g.1 in
      let at : p ≡ place g.0.0 g.0.1 f.0.position = sym g.2 ∙ on-place v.1 in
      rw at (mark v.0 (Memᴰ.cast (sym (on-place v.1)) f.1) v.1.1)

  seeded : Growing ms marks (add_new (ends ms ++ spanned_marks ms marks) [])
  unfolding spanned_marks
  seeded = record {
    once = distinct-added (ends ms ++ spanned_marks ms marks) [] tt;
    begun = λ m i p e. added [] (Memᴰ.append_left (spanned_marks ms marks) (∈-ends i e));
    marked = λ m i s h k t.
        added [] (Memᴰ.append_right (ends ms)
        (∈-flat_map (λ p. map (λ v. p) (spanning ms p)) k
        (Memᴰ.map (λ v. place m s h) (∈-spanning (place m s h) s i (refl, t)))));
    cuts = λ p i.
        ⊎_elim
        (λ j. ⊎_elim (λ k. let b = ends-∈ ms k in end b.1 b.2) (mark-cut p) (Memᴰ.append_cases (ends ms) j))
        (λ j. absurd (Memᴰ.not-nil j)) (added-only (ends ms ++ spanned_marks ms marks) [] i);
  }

  grown-least : Closed ms marks (least_cuts ms marks) × ((p : Place) → p ∈ least_cuts ms marks → Cut ms marks p)
  unfolding least_cuts
  grown-least = grow-closed _ _ seeded (omega arith)

  pub closed-complete : {ps : List Place} → Closed ms marks ps → {p : Place} → Cut ms marks p → p ∈ ps
  closed-complete C (end {m = m} {p = p} i e) = C.ends m i p e
  closed-complete C (mark {m = m} {s = s} {h = h} i k t) = C.marked m i s h k t
  closed-complete C (carried {m = m} {s = s} {h = h} i t c) = C.carries m i s h t (closed-complete C c)

pub least-closed : (ms : List Match) (marks : List Place) → Closed ms marks (least_cuts ms marks)
least-closed ms marks = grown-least.0

pub least-sound : {ms : List Match} {marks : List Place} {p : Place} → p ∈ least_cuts ms marks → Cut ms marks p
least-sound {p} i = grown-least.1 p i

-- Every spanned place together is closed, too.
pub spanned-closed : (ms : List Match) (marks : List Place) → Closed ms marks (add_new (spanned_places ms) [])
spanned-closed ms marks = record {
  once = distinct-added (spanned_places ms) [] tt;
  ends = λ m i p e. added [] (cut-spanned {marks = marks} (end i e));
  marked = λ m i s h k t. added [] (∈-spanned i s h t);
  carries = λ m i s h t j. added [] (∈-spanned i (other s) (carry m s h) (carry-spans m s h t));
}
