-- The table that a list of places makes of the matches. Where the places have the ends and the spanned marks and are
-- closed under carrying, it is a resolved refinement in the table's order, and its cuts are these places.
--     Closed ms marks ps     the places ps, each once, have all that and are closed
--     ∈-cuts, cuts-∈, rising-cuts    a match's cuts are the places on it, and rise
--     Made, made_row         each row is a piece of a match, between two places that are next to each other
--     closed-table           the table is a resolved refinement
--     table-rises            its rows are in the table's order
--     table-cut, table-has   its cuts are the places on the matches
-- Assumes nothing.
use Prim.Native.Nat.{ℕ, ◌+◌, ◌-◌, ◌≤◌, ◌<◌}
use mathlib.Core.Path.{◌≡◌, refl, sym, ap, subst, ◌∙◌}
use mathlib.Core.Logic.{◌⊎◌, inl, inr, ⊎_elim, ◌≢◌}
use mathlib.Core.List.Memᴰ
use mathlib.Core.List.{List, [], ◌∷◌, map, flat_map, filter}
use mathlib.Core.List.Memᴰ.{head as here}
use mathlib.Core.List.Memᴰ.{tail as there}
use native.Mathlib.Omega.{arith}
use native.Mathlib.Decide.{dec_lt}
use Rattle.refinement.specs.declared.Side.{Side}
use Rattle.refinement.specs.declared.Side.TheVariants.{A, B}
use Rattle.refinement.specs.Order.{◌∈◌, Rising, Distinct}
use Rattle.refinement.specs.Match.{Match, other, left, right, Place, place, Spans, carry}
use Rattle.refinement.specs.Cut.{End, left_end, right_end}
use Rattle.refinement.specs.Refinement.{Matches, Piece, Holds, Refines, CutOf, Inside, ResolvedRefinement, Before}
use Rattle.refinement.specs.Least.{spans_place?, cuts_within, piece_of, pieces_between, pieces_of, table_from}
use Rattle.refinement.proofs.Lists.{∈-filter, ∈-unfilter, ∈-flat_map, ∈-unflat_map, rising-append}
use Rattle.refinement.proofs.Lists.{rising-filter, rising-weaken, rising-map, ∈-sort, ∈-unsort, rising-sort}
use Rattle.refinement.proofs.Geometry.{left-spanned, right-spanned, end-spanned, end-or-inside, carry-meets}
use Rattle.refinement.proofs.Geometry.{carry-spans, carry_back, meets-back, meets-carry, meets-end, meets-inside}
use Rattle.refinement.proofs.Geometry.{piece-of, piece-unmeets, piece-spans, piece-end, piece-carry}
use Rattle.refinement.proofs.Tiling.{Overlap, number-unique, exactly-one, cover}
use Rattle.refinement.proofs.Resolved.{end-where, cut_of}

apart-less : (x y : ℕ) → x ≢ y → (x < y) ⊎ (y < x)
apart-less x y n = elim (dec_lt x y) [ yes l ↦ inl l | no m ↦ inr (omega arith) ]

module _ (ps : List Place) (m : Match) (s : Side) where
  pub ∈-cuts : (h : ℕ) → place m s h ∈ ps → Spans m s h → h ∈ cuts_within ps m s
  unfolding cuts_within
  ∈-cuts h i t = ∈-sort ◌<◌ dec_lt (Memᴰ.map (λ p. p.position) (∈-filter (λ p. spans_place? m p s) i (refl, t)))

  pub cuts-∈ : (h : ℕ) → h ∈ cuts_within ps m s → (place m s h ∈ ps) × Spans m s h
  unfolding cuts_within
  cuts-∈ h i =
      let f = Memᴰ.of_map (λ p. p.position) (filter (λ p. spans_place? m p s) ps) (∈-unsort ◌<◌ dec_lt _ i) in
      let g = ∈-unfilter (λ p. spans_place? m p s) ps f.1 in
      let at = Memᴰ.cast (λ j. record { track = sym g.1.0 j; position = sym f.2 j }) g.0 in
      (at, subst (Spans m s) f.2 g.1.1)

  pub rising-cuts : Distinct ps → Rising ◌<◌ (cuts_within ps m s)
  unfolding cuts_within
  rising-cuts once =
      let on = filter (λ p. spans_place? m p s) ps in
      rising-sort ◌<◌ dec_lt (λ x y z p q. omega arith) (map (λ p. p.position) on)
      (rising-map ◌≢◌ (λ x y. (x < y) ⊎ (y < x)) (λ p. p.position) on
      (λ p q i j n. apart-less p.position q.position (λ e.
      let u = (∈-unfilter (λ p. spans_place? m p s) ps i).1.0 in
      let v = (∈-unfilter (λ p. spans_place? m p s) ps j).1.0 in
      n (λ k. record { track = (u ∙ sym v) k; position = e k })))
      (rising-filter (λ p. spans_place? m p s) ◌≢◌ ps once))

-- two neighbours in a list of positions
record Between (xs : List ℕ) (x y : ℕ) : Type 0 where
  first : x ∈ xs
  second : y ∈ xs
  less : x < y
  gap : (z : ℕ) → z ∈ xs → (z ≤ x) ⊎ (y ≤ z)

row-between :
    (m : Match) (xs : List ℕ) → Rising ◌<◌ xs → {r : Match} → r ∈ pieces_between m xs
    → (x : ℕ) × (y : ℕ) × (r ≡ piece_of m x y) × Between xs x y
unfolding pieces_between
row-between m [] h i = absurd (Memᴰ.not-nil i)
row-between m (x ∷ []) h i = absurd (Memᴰ.not-nil i)
row-between m (x ∷ y ∷ xs) h i =
    ⊎_elim
    (λ e. (x, y, e, first))
    (λ j. let b = row-between m (y ∷ xs) h.1 j in (b.0, b.1, b.2, later b.3)) (Memᴰ.cases_cons i)
  where
    first : Between (x ∷ y ∷ xs) x y
    first = record {
      first = here refl;
      second = there (here refl);
      less = h.0 y (here refl);
      gap = λ z t.
          ⊎_elim (λ f. inl (omega arith))
          (λ u. ⊎_elim (λ f. inr (omega arith)) (λ v. inr (omega (arith, h.1.0 z v))) (Memᴰ.cases_cons u))
          (Memᴰ.cases_cons t);
    }

    later : {u v : ℕ} → Between (y ∷ xs) u v → Between (x ∷ y ∷ xs) u v
    later {u} b = record {
      first = there b.first;
      second = there b.second;
      less = b.less;
      gap = λ z t. ⊎_elim (λ f. inl (omega (arith, h.0 u b.first))) (b.gap z) (Memᴰ.cases_cons t);
    }

-- Between the first cut of a match and another, some row holds each letter.
row-over :
    (m : Match) (x : ℕ) (xs : List ℕ) → Rising ◌<◌ (x ∷ xs) → (z : ℕ) → x ≤ z → (w : ℕ) → w ∈ xs → z < w
    → (r : Match) × (r ∈ pieces_between m (x ∷ xs)) × Holds r A z
unfolding pieces_between piece_of
row-over m x [] h z l w i n = absurd (Memᴰ.not-nil i)
row-over m x (y ∷ xs) h z l w i n =
    let less : x < y = h.0 y (here refl) in
    let past : ¬ (z < y) → w ∈ xs = λ g. ⊎_elim (λ e. absurd (omega arith)) (λ j. j) (Memᴰ.cases_cons i) in
    elim (dec_lt z y) [
      | yes g ↦ (piece_of m x y, here refl, omega arith)
      | no g ↦ let b = row-over m y xs h.1 z (omega arith) w (past g) n in (b.0, there b.1, b.2)
    ]

rows-rise : (m : Match) (xs : List ℕ) → Rising ◌<◌ xs → Rising Before (pieces_between m xs)
unfolding pieces_between piece_of
rows-rise m [] h = tt
rows-rise m (x ∷ []) h = tt
rows-rise m (x ∷ y ∷ xs) h =
    let later : (r : Match) → r ∈ pieces_between m (y ∷ xs) → Before (piece_of m x y) r =
    λ r i. let b = row-between m (y ∷ xs) h.1 i in rw b.2 (inr (refl, h.0 b.0 b.3.first))
    in
    (later, rows-rise m (y ∷ xs) h.1)

row-origin :
    (ps : List Place) (ms : List Match) {r : Match} → r ∈ table_from ps ms → (m : Match) × (m ∈ ms) × (r ∈ pieces_of ps m)
unfolding table_from
row-origin ps ms i = ∈-unflat_map (pieces_of ps) ms i

module _ (ps : List Place) (once : Distinct ps) where
  row_number : (m : Match) {r : Match} → r ∈ pieces_of ps m → r.number ≡ m.number
  unfolding pieces_of piece_of
  row_number m i = ap (λ q. q.number) (row-between m (cuts_within ps m A) (rising-cuts ps m A once) i).2

  pub table-rises : (ms : List Match) → Rising (λ m m'. m.number < m'.number) ms → Rising Before (table_from ps ms)
  unfolding table_from flat_map pieces_of
  table-rises [] h = tt
  table-rises (m ∷ ms) h =
      rising-append Before (pieces_of ps m) (table_from ps ms) (rows-rise m (cuts_within ps m A) (rising-cuts ps m A once))
      (table-rises ms h.1) (λ r r' i j.
      let o = row-origin ps ms j in
      inl (omega (arith, row_number m i, row_number o.0 o.2, h.0 o.0 o.1)))

  -- Every letter of a match whose ends are among the places lies on a row.
  letter-row :
      (m : Match) → ((p : Place) → End m p → p ∈ ps) → (x : ℕ) → Holds m A x
      → (r : Match) × (r ∈ pieces_of ps m) × Holds r A x
  unfolding pieces_of
  letter-row m ends x t =
      go (cuts_within ps m A) (rising-cuts ps m A once) (λ z i. (cuts-∈ ps m A z i).1.from_left)
      (∈-cuts ps m A (left m A) (ends (place m A (left m A)) (left_end A)) (left-spanned m A))
      (∈-cuts ps m A (right m A) (ends (place m A (right m A)) (right_end A)) (right-spanned m A))
    where
      go :
          (xs : List ℕ) → Rising ◌<◌ xs → ((z : ℕ) → z ∈ xs → left m A ≤ z) → left m A ∈ xs → right m A ∈ xs
          → (r : Match) × (r ∈ pieces_between m xs) × Holds r A x
      go [] h low i j = absurd (Memᴰ.not-nil i)
      go (y ∷ ys) h low i j =
          let start : y ≤ x =
          ⊎_elim (λ e. omega arith) (λ k. omega (arith, h.0 (left m A) k)) (Memᴰ.cases_cons i)
          in
          let stop = ⊎_elim (λ e. absurd (omega arith)) (λ k. k) (Memᴰ.cases_cons j) in
          row-over m y ys h x start (right m A) stop (omega arith)

-- the places ps, each once, have the ends and the spanned marks, and are closed under carrying
pub record Closed (ms : List Match) (marks ps : List Place) : Type 0 where
  pub once : Distinct ps
  pub ends : (m : Match) → m ∈ ms → (p : Place) → End m p → p ∈ ps
  pub marked : (m : Match) → m ∈ ms → (s : Side) (h : ℕ) → place m s h ∈ marks → Spans m s h → place m s h ∈ ps
  pub carries :
      (m : Match) → m ∈ ms → (s : Side) (h : ℕ) → Spans m s h → place m s h ∈ ps
      → place m (other s) (carry m s h) ∈ ps

-- a row with its match, between two of the places that are next to each other on A
pub record Made (ms : List Match) (ps : List Place) (r : Match) : Type 0 where
  pub owner : Match
  pub listed : owner ∈ ms
  pub piece : Piece owner r
  pub gap : (h : ℕ) → place owner A h ∈ ps → ¬ Inside r A h
  pub cut : (h : ℕ) → (h ≡ left r A) ⊎ (h ≡ right r A) → place owner A h ∈ ps

made-piece :
    {ms : List Match} {ps : List Place} {m : Match} → m ∈ ms → (x y : ℕ) → Between (cuts_within ps m A) x y
    → Made ms ps (piece_of m x y)
unfolding piece_of
made-piece {ms} {ps} {m} i x y b =
    let fx = cuts-∈ ps m A x b.first in
    let fy = cuts-∈ ps m A y b.second in
    let on = fx.1 in
    let on' = fy.1 in
    let less = b.less in
    record {
      owner = m;
      listed = i;
      piece = piece-of m x y (omega arith) less (omega arith);
      gap = λ z j t.
          let past : x < z = t.past_left in
          let below : z < x + (y - x) = t.before_right in
          ⊎_elim (λ e. omega arith) (λ e. omega arith) (b.gap z (∈-cuts ps m A z j (omega arith)));
      cut = λ z e.
          ⊎_elim (λ f. rw f fx.0) (λ (f : z ≡ x + (y - x)). let g : z ≡ y = omega arith in rw g fy.0) e;
    }

module _ {ms : List Match} {marks ps : List Place} (M : Matches ms) (C : Closed ms marks ps) where
  pub made_row : (r : Match) → r ∈ table_from ps ms → Made ms ps r
  unfolding pieces_of
  made_row r i =
      let o = row-origin ps ms i in
      let b = row-between o.0 (cuts_within ps o.0 A) (rising-cuts ps o.0 A C.once) o.2 in
      rw b.2 (made-piece o.1 b.0 b.1 b.3)

  -- A later row starts at a place, and so not inside an earlier one.
  table-apart : Rising (λ r r'. ¬ Overlap r r' A) (table_from ps ms)
  table-apart =
      rising-weaken Before (λ r r'. ¬ Overlap r r' A) (table_from ps ms) apart
      (table-rises ps C.once ms M.numbered)
    where
      apart : (r r' : Match) → r ∈ table_from ps ms → r' ∈ table_from ps ms → Before r r' → ¬ Overlap r r' A
      apart r r' i j (inl l) o = omega (arith, o.0)
      apart r r' i j (inr l) (e, (x, t, t')) =
          let d = made_row r i in
          let d' = made_row r' j in
          let same : d'.owner ≡ d.owner =
          number-unique ms M.numbered d'.listed d.listed
          (sym d'.piece.same_number ∙ sym e ∙ d.piece.same_number)
          in
          let at = subst (λ (z : Match). place z A (left r' A) ∈ ps) same (d'.cut (left r' A) (inl refl)) in
          d.gap (left r' A) at (omega arith)

  table-refines : Refines ms (table_from ps ms)
  unfolding table_from
  table-refines = record {
    pieces = λ r i. let d = made_row r i in (d.owner, d.listed, d.piece);
    once = λ m i x t.
        let b = letter-row ps C.once m (C.ends m i) x t in
        let row = ∈-flat_map (pieces_of ps) i b.1 in
        exactly-one m.number A x (table_from ps ms) row (row_number ps C.once m b.1) b.2 table-apart;
  }

  -- Ends of a row are among the places, on B because an end on A is carried there.
  row_cut :
      {r : Match} (d : Made ms ps r) (s : Side) (h : ℕ) → (h ≡ left r s) ⊎ (h ≡ right r s) → place d.owner s h ∈ ps
  row_cut d A h e = d.cut h e
  row_cut {r} d B h e =
      let m = d.owner in
      let t = end-spanned r B h e in
      let a = carry r B h in
      let near = carry-meets r B h t in
      let t' : Spans m A a = piece-spans d.piece A a (carry-spans r B h t) in
      let f : carry m A a ≡ h = meets-carry m A a h t' (piece-unmeets d.piece a h (meets-back r B h a near)) in
      subst (λ (z : ℕ). place m B z ∈ ps) f
      (C.carries m d.listed A a t' (d.cut a (meets-end r B h a near e)))

  pub table-cut : (p : Place) → CutOf (table_from ps ms) p → p ∈ ps
  table-cut p c =
      let d = made_row c.0 c.1 in
      let w = end-where c.2 in
      subst (λ (t : ℕ). record { track = t; position = p.position } ∈ ps) (sym (d.piece.same_track w.0) ∙ w.1)
      (row_cut d w.0 p.position w.2)

  uncut-row : {r : Match} (d : Made ms ps r) (s : Side) (h : ℕ) → place d.owner s h ∈ ps → ¬ Inside r s h
  uncut-row d A h i t = d.gap h i t
  uncut-row {r} d B h i t =
      let on : Spans r B h = omega arith in
      let j = C.carries d.owner d.listed B h (piece-spans d.piece B h on) i in
      d.gap (carry r B h) (rw (piece-carry d.piece B h on) j)
      (meets-inside r B h (carry r B h) (carry-meets r B h on) t)

  -- a place on a match is an end of one of its rows
  row_at :
      {m : Match} → m ∈ ms → (a : ℕ) → Spans m A a → place m A a ∈ ps
      → (r : Match) × (r ∈ table_from ps ms) × Piece m r × ((a ≡ left r A) ⊎ (a ≡ right r A))
  row_at {m} i a t j =
      let v = cover M table-refines i A a t in
      let d = made_row v.0 v.1 in
      let same : d.owner ≡ m =
      number-unique ms M.numbered d.listed i (sym d.piece.same_number ∙ v.2.same_number)
      in
      let here-too = subst (λ (z : Match). place z A a ∈ ps) (sym same) j in
      (v.0, v.1, v.2, end-or-inside v.0 A a v.3 (d.gap a here-too))

  pub table-has :
      {m : Match} → m ∈ ms → (s : Side) (h : ℕ) → Spans m s h → place m s h ∈ ps → CutOf (table_from ps ms) (place m s h)
  table-has i A h t j = let v = row_at i h t j in cut_of v.1 v.2 A h v.3
  table-has {m} i B h t j =
      let a = carry m B h in
      let t' = carry-spans m B h t in
      let v = row_at i a t' (C.carries m i B h t j) in
      cut_of v.1 v.2 B h (rw (carry_back m B h t) at (piece-end v.2 A a t' v.3))

  pub closed-table : ResolvedRefinement ms marks (table_from ps ms)
  closed-table = record {
    refines = table-refines;
    resolved = record {
      uncut = λ r i s h c.
          let d = made_row r i in
          uncut-row d s h
          (subst (λ (t : ℕ). record { track = t; position = h } ∈ ps) (d.piece.same_track s)
          (table-cut (place r s h) c));
      marked = λ m i s h k t. table-has i s h t (C.marked m i s h k t);
    };
  }
