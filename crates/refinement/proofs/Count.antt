-- How many cuts a refinement can have. Distinct cuts are at most four for each row, and at most two for each row on one
-- side of the matches; a match's cuts on a side are its rows plus one.
--     four-per-row        5  distinct cuts of any rows: at most four for each
--     two-per-side        5  on one side of the matches, whatever tracks they join: at most two for each row
--     match-cuts          5  distinct cuts on a side of a match: at most its rows plus one ..
--     match-cuts-all      5  .. and just as many if they are all of them
--     total, hits-bound, hits-all    the same summed up over the matches: at most rows plus matches, and just as many
-- Assumes nothing.
use Prim.Native.Nat.{ℕ, suc, ◌+◌, ◌*◌, ◌≤◌, ◌<◌}
use mathlib.Core.Path.{◌≡◌, refl, sym, ap, subst, ◌∙◌}
use mathlib.Core.Logic.{◌↔◌, ◌⊎◌, inl, inr, ◌≢◌}
use mathlib.Core.List.Memᴰ
use mathlib.Core.List.{List, [], ◌∷◌, map, flat_map}
use mathlib.Core.List.Memᴰ.{head as here}
use mathlib.Core.List.Memᴰ.{tail as there}
use native.Mathlib.Omega.{arith}
use native.Mathlib.Decide.{ℕ_discrete}
use lib.ListN.{length, length-map}
use Rattle.refinement.specs.declared.Side.{Side}
use Rattle.refinement.specs.Order.{◌∈◌, Rising, Distinct}
use Rattle.refinement.specs.Match.{Match, track, left, right, Place, place, Spans}
use Rattle.refinement.specs.Cut.{right_end, end}
use Rattle.refinement.specs.Refinement.{Matches, Piece, rows_for, CutOf, ResolvedRefinement}
use Rattle.refinement.specs.Least.{ends_of, ends}
use Rattle.refinement.proofs.Lists.{on-ite, pigeonhole, rising-map, rising-filter}
use Rattle.refinement.proofs.Lists.{∈-filter, ∈-unfilter, ∈-flat_map}
use Rattle.refinement.proofs.Tiling.{Overlap, own-piece, rows_apart}
use Rattle.refinement.proofs.Resolved.{cut_of, row_ends, has-cut, row-starts}
use Rattle.refinement.proofs.Closure.{∈-ends}

length-ends : (rs : List Match) → length (ends rs) ≡ 4 * length rs
unfolding ends flat_map
length-ends [] = refl
length-ends (r ∷ rs) = omega (arith, length-ends rs)

pub four-per-row :
    (rs : List Match) (ps : List Place) → Distinct ps → ((p : Place) → p ∈ ps → CutOf rs p)
    → length ps ≤ 4 * length rs
four-per-row rs ps once cuts =
    omega (arith, pigeonhole ps (ends rs) once (λ p i. let c = cuts p i in ∈-ends c.1 c.2), length-ends rs)

-- Distinct places that are ends of rows on one side are at most two for each row.
module _ (s : Side) where
  side_ends : List Match → List Place
  side_ends rs = flat_map (λ r. ends_of r s) rs

  length-side : (rs : List Match) → length (side_ends rs) ≡ 2 * length rs
  unfolding side_ends flat_map
  length-side [] = refl
  length-side (r ∷ rs) = omega (arith, length-side rs)

  two_ends :
      (rs : List Match) (ps : List Place) → Distinct ps
      → ((p : Place) → p ∈ ps → (r : Match) × (r ∈ rs) × (p ∈ ends_of r s)) → length ps ≤ 2 * length rs
  unfolding side_ends
  two_ends rs ps once held =
      omega (
        arith,
        length-side rs,
        pigeonhole ps (side_ends rs) once (λ p i. let v = held p i in ∈-flat_map (λ r. ends_of r s) v.1 v.2),
      )

-- a left or right end on a side is one of the two ends there
∈-ends_of :
    (r : Match) (s : Side) (p : Place) → track r s ≡ p.track
    → (p.position ≡ left r s) ⊎ (p.position ≡ right r s) → p ∈ ends_of r s
∈-ends_of r s p e (inl f) = here (λ i. record { track = sym e i; position = f i })
∈-ends_of r s p e (inr f) = there (here (λ i. record { track = sym e i; position = f i }))

-- the row that a cut lies on ends at it on that very side
pub two-per-side :
    {ms rs : List Match} {marks : List Place} → Matches ms → ResolvedRefinement ms marks rs → (s : Side)
    → (ps : List Place) → Distinct ps
    → ((p : Place) → p ∈ ps
    → (m : Match) × (m ∈ ms) × (track m s ≡ p.track) × Spans m s p.position × CutOf rs p)
    → length ps ≤ 2 * length rs
two-per-side {ms} {rs} M R s ps once on = two_ends s rs ps once (λ p i. held p (on p i))
  where
    held :
        (p : Place) → (m : Match) × (m ∈ ms) × (track m s ≡ p.track) × Spans m s p.position × CutOf rs p
        → (r : Match) × (r ∈ rs) × (p ∈ ends_of r s)
    held p (m, j, e, t, c) =
        let cut = subst (λ (u : ℕ). CutOf rs (record { track = u; position = p.position })) (sym e) c in
        let v = row_ends M R j s p.position t cut in
        (v.0, v.1, ∈-ends_of v.0 s p (v.2.same_track s ∙ e) v.3)

module _ {ms rs : List Match} {marks : List Place} (M : Matches ms) (R : ResolvedRefinement ms marks rs) {m : Match}
    (i : m ∈ ms) (s : Side) where
  -- where the rows of the match start on the side, and the right end
  marks_of : List ℕ
  marks_of = right m s ∷ map (λ r. left r s) (rows_for m.number rs)

  length-marks_of : length marks_of ≡ suc (length (rows_for m.number rs))
  unfolding marks_of
  length-marks_of = ap suc (length-map (rows_for m.number rs) (λ r. left r s))

  row_of : {r : Match} → r ∈ rows_for m.number rs → (r ∈ rs) × Piece m r
  unfolding rows_for
  row_of j =
      let f = ∈-unfilter (λ r. ℕ_discrete r.number m.number) rs j in
      (f.0, own-piece M R.refines i f.0 f.1)

  pub match-cuts :
      (xs : List ℕ) → Distinct xs → ((x : ℕ) → x ∈ xs → Spans m s x × CutOf rs (place m s x))
      → length xs ≤ suc (length (rows_for m.number rs))
  unfolding marks_of rows_for
  match-cuts xs once on =
      omega (arith, length-marks_of, pigeonhole xs marks_of once (λ x j. held x (on x j) (ℕ_discrete x (right m s))))
    where
      held : (x : ℕ) → Spans m s x × CutOf rs (place m s x) → Dec (x ≡ right m s) → x ∈ marks_of
      held x t (yes e) = here e
      held x t (no n) =
          let v = row-starts M R i s x (omega (arith, t.0)) t.1 in
          let row = ∈-filter (λ r. ℕ_discrete r.number m.number) v.1 v.2.same_number in
          there (Memᴰ.cast (sym v.3) (Memᴰ.map (λ r. left r s) row))

  starts_apart : Distinct (map (λ r. left r s) (rows_for m.number rs))
  unfolding rows_for
  starts_apart =
      rising-map (λ r r'. ¬ Overlap r r' s) ◌≢◌ (λ r. left r s) (rows_for m.number rs)
      (λ r r' j j' n e.
      let p = (row_of j).1 in
      let p' = (row_of j').1 in
      let one = p.lettered in
      let two = p'.lettered in
      n (p.same_number ∙ sym p'.same_number, (left r s, omega arith, omega arith)))
      (rising-filter (λ r. ℕ_discrete r.number m.number) (λ r r'. ¬ Overlap r r' s) rs
      (rows_apart M R.refines s))

  pub match-cuts-all :
      (xs : List ℕ) → Distinct xs → ((x : ℕ) → (x ∈ xs) ↔ (Spans m s x × CutOf rs (place m s x)))
      → length xs ≡ suc (length (rows_for m.number rs))
  unfolding marks_of
  match-cuts-all xs once on =
      let few = match-cuts xs once (λ x j. (on x).0 j) in
      let many = pigeonhole marks_of xs (before, starts_apart) (λ x j. cut x (Memᴰ.cases_cons j)) in
      omega (arith, length-marks_of)
    where
      before : (x : ℕ) → x ∈ map (λ r. left r s) (rows_for m.number rs) → right m s ≢ x
      before x j e =
          let f = Memᴰ.of_map (λ r. left r s) (rows_for m.number rs) j in
          let p = (row_of f.1).1 in
          omega (arith, f.2, p.ends_within s, p.lettered)

      cut : (x : ℕ) → (x ≡ right m s) ⊎ (x ∈ map (λ r. left r s) (rows_for m.number rs)) → x ∈ xs
      cut x (inl e) = rw e ((on (right m s)).1 (omega arith, has-cut M R (end i (right_end s))))
      cut x (inr j) =
          let f = Memᴰ.of_map (λ r. left r s) (rows_for m.number rs) j in
          let v = row_of f.1 in
          (on x).1
          (omega (arith, f.2, v.1.starts_within s, v.1.ends_within s), cut_of v.0 v.1 s x (inl (sym f.2)))

-- Summed up over the matches.
abbrev pub total : (Match → ℕ) → List Match → ℕ
total f [] = 0
total f (m ∷ ms) = f m + total f ms

total_mono :
    (f g : Match → ℕ) (ms : List Match) → ((m : Match) → m ∈ ms → f m ≤ g m) → total f ms ≤ total g ms
total_mono f g [] h = omega arith
total_mono f g (m ∷ ms) h = omega (arith, h m (here refl), total_mono f g ms (λ m' i. h m' (there i)))

rows_head :
    (n : ℕ) (r : Match) (rs : List Match) → r.number ≡ n → length (rows_for n (r ∷ rs)) ≡ suc (length (rows_for n rs))
unfolding rows_for
rows_head n r rs e =
    on-ite (λ (l : List Match). length l ≡ suc (length (rows_for n rs))) (ℕ_discrete r.number n) (λ _. refl)
    (λ k. absurd (k e))

rows-skip : (n : ℕ) (r : Match) (rs : List Match) → r.number ≢ n → length (rows_for n (r ∷ rs)) ≡ length (rows_for n rs)
unfolding rows_for
rows-skip n r rs e =
    on-ite (λ (l : List Match). length l ≡ length (rows_for n rs)) (ℕ_discrete r.number n) (λ k. absurd (e k))
    (λ _. refl)

-- one for each row of a match, and one more
abbrev slots : List Match → Match → ℕ
slots rs m = 1 + length (rows_for m.number rs)

slots-none : (ms : List Match) → total (slots []) ms ≡ length ms
unfolding rows_for
slots-none [] = refl
slots-none (m ∷ ms) = omega (arith, slots-none ms)

slots-skip :
    (r : Match) (rs ms : List Match) → ((m : Match) → m ∈ ms → r.number ≢ m.number)
    → total (slots (r ∷ rs)) ms ≡ total (slots rs) ms
slots-skip r rs [] h = refl
slots-skip r rs (m ∷ ms) h =
    omega (arith, rows-skip m.number r rs (h m (here refl)), slots-skip r rs ms (λ m' i. h m' (there i)))

slots-row :
    (r : Match) (rs ms : List Match) {m : Match} → Rising (λ m m'. m.number < m'.number) ms → m ∈ ms
    → r.number ≡ m.number → total (slots (r ∷ rs)) ms ≡ suc (total (slots rs) ms)
slots-row r rs [] {m} h i f = absurd (Memᴰ.not-nil i)
slots-row r rs (x ∷ ms) {m} h (here e) f =
    let same : m.number ≡ x.number = ap (λ z. z.number) e in
    let rest = slots-skip r rs ms (λ m' i k. omega (arith, h.0 m' i)) in
    omega (arith, rows_head x.number r rs (f ∙ same))
slots-row r rs (x ∷ ms) {m} h (there i) f =
    let own = rows-skip x.number r rs (λ k. omega (arith, h.0 m i)) in
    omega (arith, slots-row r rs ms h.1 i f)

slots-all :
    (ms rs : List Match) → Rising (λ m m'. m.number < m'.number) ms
    → ((r : Match) → r ∈ rs → (m : Match) × (m ∈ ms) × Piece m r) → total (slots rs) ms ≡ length rs + length ms
slots-all ms [] h own = omega (arith, slots-none ms)
slots-all ms (r ∷ rs) h own =
    let o = own r (here refl) in
    let rest = slots-all ms rs h (λ r' i. own r' (there i)) in
    omega (arith, slots-row r rs ms h o.1 o.2.same_number)

module _ {ms rs : List Match} {marks : List Place} (M : Matches ms) (R : ResolvedRefinement ms marks rs) (s : Side)
    (f : Match → List ℕ) (once : (m : Match) → m ∈ ms → Distinct (f m)) where
  -- f m: distinct cuts on the match m
  pub hits-bound :
      ((m : Match) → m ∈ ms → (x : ℕ) → x ∈ f m → Spans m s x × CutOf rs (place m s x))
      → total (λ m. length (f m)) ms ≤ length rs + length ms
  hits-bound on =
      let each : (m : Match) → m ∈ ms → length (f m) ≤ slots rs m =
      λ m i. omega (arith, match-cuts M R i s (f m) (once m i) (on m i))
      in
      let all = slots-all ms rs M.numbered R.refines.pieces in
      omega (arith, total_mono (λ m. length (f m)) (slots rs) ms each)

  -- f m: all cuts on the match m
  pub hits-all :
      ((m : Match) → m ∈ ms → (x : ℕ) → (x ∈ f m) ↔ (Spans m s x × CutOf rs (place m s x)))
      → total (λ m. length (f m)) ms ≡ length rs + length ms
  hits-all on =
      let each : (m : Match) → m ∈ ms → slots rs m ≤ length (f m) =
      λ m i. omega (arith, match-cuts-all M R i s (f m) (once m i) (on m i))
      in
      let all = slots-all ms rs M.numbered R.refines.pieces in
      omega (arith, hits-bound (λ m i x. (on m i x).0), total_mono (slots rs) (λ m. length (f m)) ms each)
