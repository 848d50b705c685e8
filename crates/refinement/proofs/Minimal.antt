-- Among all resolved refinements the table of the least places is the least. Every row of it starts where a row of the
-- other starts, and rows with one match number and one left end are one row; so there are no fewer of the other. Where
-- there are as many, each row of the table is a row of the other, or else the other would have one start too many.
--     piece-unique     a piece is told by its two ends on A
--     order-sorted     a refinement sorted into the table's order rises
--     least            table_from ps ms is Least, for any closed list ps of cuts
--     equal-table      a resolved refinement of as many rows, sorted, is the table itself
--     table-sorted     sorting leaves the table as it is
-- Assumes nothing.
use Prim.Native.Nat.{ℕ, ◌≤◌, ◌<◌}
use mathlib.Core.Path.{◌≡◌, refl, sym, ap, subst, ◌∙◌, Σ_path}
use mathlib.Core.Bool.{Bool, true, false}
use mathlib.Core.Logic.{◌⊎◌, inl, inr, ⊎_elim, ◌≢◌}
use mathlib.Core.List.Memᴰ
use mathlib.Core.List.{List, ◌∷◌, map}
use native.Mathlib.Omega.{arith}
use native.Mathlib.Decide.{ℕ_discrete}
use lib.ListN.{length, length-map}
use Rattle.refinement.specs.declared.Side.TheVariants.{A, B}
use Rattle.refinement.specs.Order.{◌∈◌, Rising, Distinct}
use Rattle.refinement.specs.Match.{Match, left, right, Place, place, carry}
use Rattle.refinement.specs.Cut.{Cut}
use Rattle.refinement.specs.Refinement.{Matches, Piece, Inside, facing_left, Refines, ResolvedRefinement}
use Rattle.refinement.specs.Refinement.{Before, before?, in_table_order, Least}
use Rattle.refinement.specs.Least.{table_from}
use Rattle.refinement.proofs.Lists.{rising-weaken, rising-map, rising-equal, pigeonhole}
use Rattle.refinement.proofs.Lists.{∈-sort, length-sort, rising-sort}
use Rattle.refinement.proofs.Tiling.{Overlap, number-unique, rows_apart}
use Rattle.refinement.proofs.Resolved.{cut_of, has-cut, row-starts, uncut-piece}
use Rattle.refinement.proofs.Table.{Closed, Made, made_row, closed-table, table-rises, table-cut}

before-asym : (r r' : Match) → Before r r' → Before r' r → ⊥
before-asym r r' (inl p) (inl q) = omega arith
before-asym r r' (inl p) (inr q) = omega arith
before-asym r r' (inr p) (inl q) = omega arith
before-asym r r' (inr p) (inr q) = omega arith

before-trans : (r r' r'' : Match) → Before r r' → Before r' r'' → Before r r''
before-trans r r' r'' (inl p) (inl q) = inl (omega arith)
before-trans r r' r'' (inl p) (inr q) = inl (omega arith)
before-trans r r' r'' (inr p) (inl q) = inl (omega arith)
before-trans r r' r'' (inr p) (inr q) = inr (omega arith)

-- what tells a row from the others
abbrev Start : Type 0
Start = ℕ × ℕ

start : Match → Start
start r = (r.number, r.left_a)

abbrev Apart : Match → Match → Type 0
Apart r r' = ¬ ((r.number ≡ r'.number) × (r.left_a ≡ r'.left_a))

before-or-after : (r r' : Match) → Apart r r' → Before r r' ⊎ Before r' r
before-or-after r r' n = go (before? r r') (before? r' r)
  where
    go : Dec (Before r r') → Dec (Before r' r) → Before r r' ⊎ Before r' r
    go (yes p) d = inl p
    go (no p) (yes q) = inr q
    go (no p) (no q) =
        let up : ¬ (r.number < r'.number) = λ l. p (inl l) in
        let down : ¬ (r'.number < r.number) = λ l. q (inl l) in
        let e : r.number ≡ r'.number = omega arith in
        let low : ¬ (r.left_a < r'.left_a) = λ l. p (inr (e, l)) in
        let high : ¬ (r'.left_a < r.left_a) = λ l. q (inr (sym e, l)) in
        absurd (n (e, omega arith))

facing-unique :
    (b : Bool) (r r' : Match) → r.length ≡ r'.length → facing_left b r ≡ facing_left b r' → r.left_b ≡ r'.left_b
facing-unique false r r' e f = f
facing-unique true r r' e f = omega arith

pub piece-unique : {m r r' : Match} → Piece m r → Piece m r' → left r A ≡ left r' A → right r A ≡ right r' A → r ≡ r'
piece-unique {m} {r} {r'} p p' e f =
    let l : r.length ≡ r'.length = omega arith in
    let b : r.reversed ≡ r'.reversed = p.same_direction ∙ sym p'.same_direction in
    let g : facing_left r'.reversed r ≡ facing_left r'.reversed r' =
    subst (λ (z : Bool). facing_left z r ≡ facing_left r'.reversed r') b
    (sym p.left_carries ∙ ap (carry m A) e ∙ p'.left_carries)
    in
    λ i. record {
      number = (p.same_number ∙ sym p'.same_number) i;
      track_a = (p.same_track A ∙ sym (p'.same_track A)) i;
      left_a = e i;
      track_b = (p.same_track B ∙ sym (p'.same_track B)) i;
      left_b = facing-unique r'.reversed r r' l g i;
      length = l i;
      reversed = b i;
    }

module _ {ms rs : List Match} (M : Matches ms) (T : Refines ms rs) where
  starts-differ : Rising Apart rs
  starts-differ =
      rising-weaken (λ r r'. ¬ Overlap r r' A) Apart rs
      (λ r r' i j n e.
      let one = (T.pieces r i).2.lettered in
      let two = (T.pieces r' j).2.lettered in
      n (e.0, (r.left_a, omega arith, omega arith)))
      (rows_apart M T A)

  pub order-sorted : Rising Before (in_table_order rs)
  unfolding in_table_order
  order-sorted =
      rising-sort Before before? before-trans rs
      (rising-weaken Apart (λ r r'. Before r r' ⊎ Before r' r) rs (λ r r' _ _ n. before-or-after r r' n) starts-differ)

  distinct-starts : Distinct (map start rs)
  unfolding start
  distinct-starts =
      rising-map Apart ◌≢◌ start rs (λ r r' _ _ n e. n (ap (λ z. z.0) e, ap (λ z. z.1) e)) starts-differ

module _ {ms : List Match} {marks ps : List Place} (M : Matches ms) (C : Closed ms marks ps)
    (sub : (p : Place) → p ∈ ps → Cut ms marks p) where
  module _ {rs : List Match} (R : ResolvedRefinement ms marks rs) where
    started : {r : Match} (d : Made ms ps r) → (r' : Match) × (r' ∈ rs) × Piece d.owner r' × (left r' A ≡ left r A)
    started {r} d =
        let p = d.piece in
        row-starts M R d.listed A (left r A) (omega (arith, p.starts_within A, p.ends_within A, p.lettered))
        (has-cut M R (sub (place d.owner A (left r A)) (d.cut (left r A) (inl refl))))

    starts-in : (k : Start) → k ∈ map start (table_from ps ms) → k ∈ map start rs
    unfolding start
    starts-in k i =
        let f = Memᴰ.of_map start (table_from ps ms) i in
        let d = made_row M C f.0 f.1 in
        let s = started d in
        Memᴰ.cast (sym f.2 ∙ Σ_path (d.piece.same_number ∙ sym s.2.same_number) (sym s.3))
        (Memᴰ.map start s.1)

    few : length (table_from ps ms) ≤ length rs
    few =
        let once = distinct-starts M (closed-table M C).refines in
        let fit = pigeonhole (map start (table_from ps ms)) (map start rs) once starts-in in
        omega (arith, length-map (table_from ps ms) start, length-map rs start)

    -- a start of the other's rows that lies strictly inside a row of the table is one too many
    one_more :
        {r r'' : Match} (d : Made ms ps r) → r'' ∈ rs → Piece d.owner r'' → Inside r A (left r'' A)
        → length (table_from ps ms) < length rs
    unfolding start
    one_more {r} {r''} d j p t =
        let once = distinct-starts M (closed-table M C).refines in
        let fit = pigeonhole (start r'' ∷ map start (table_from ps ms)) (map start rs) (missing, once) held in
        omega (arith, length-map (table_from ps ms) start, length-map rs start)
      where
        held : (k : Start) → k ∈ (start r'' ∷ map start (table_from ps ms)) → k ∈ map start rs
        held k i = ⊎_elim (λ e. Memᴰ.cast e (Memᴰ.map start j)) (starts-in k) (Memᴰ.cases_cons i)

        missing : (k : Start) → k ∈ map start (table_from ps ms) → start r'' ≢ k
        missing k i e =
            let f = Memᴰ.of_map start (table_from ps ms) i in
            let q = made_row M C f.0 f.1 in
            let g : start f.0 ≡ start r'' = f.2 ∙ sym e in
            let same : q.owner ≡ d.owner =
            number-unique ms M.numbered q.listed d.listed
            (sym q.piece.same_number ∙ ap (λ z. z.0) g ∙ p.same_number)
            in
            d.gap (left r'' A)
            (subst (λ (z : Match). place z A (left r'' A) ∈ ps) same
            (q.cut (left r'' A) (inl (sym (ap (λ z. z.1) g)))))
            t

    -- a row of the other that starts where a row of the table does ends no later
    ends-before :
        {r r' : Match} (d : Made ms ps r) → r' ∈ rs → Piece d.owner r' → left r' A ≡ left r A
        → right r' A ≤ right r A
    ends-before {r} {r'} d j p f =
        let one = d.piece.lettered in
        let past : ¬ (right r A < right r' A) =
        λ l.
        uncut-piece M R j p A (right r A)
        (has-cut M R (sub (place d.owner A (right r A)) (d.cut (right r A) (inr refl)))) (omega arith)
        in
        omega arith

    row_in : length rs ≡ length (table_from ps ms) → (r : Match) → r ∈ table_from ps ms → r ∈ rs
    row_in e r i =
        let d = made_row M C r i in
        let s = started d in
        go d s.0 s.1 s.2 s.3 (ℕ_discrete (right s.0 A) (right r A))
      where
        go :
            (d : Made ms ps r) (r' : Match) → r' ∈ rs → Piece d.owner r' → left r' A ≡ left r A
            → Dec (right r' A ≡ right r A) → r ∈ rs
        go d r' j p f (yes g) = Memᴰ.cast (piece-unique d.piece p (sym f) (sym g)) j
        go d r' j p f (no n) =
            let low : right r' A ≤ right r A = ends-before d j p f in
            let one = p.lettered in
            let s =
            row-starts M R d.listed A (right r' A)
            (omega (arith, p.starts_within A, d.piece.ends_within A)) (cut_of j p A (right r' A) (inr refl))
            in
            absurd (omega (arith, one_more d s.1 s.2 (omega (arith, s.3))))

    pub equal-table : length rs ≡ length (table_from ps ms) → in_table_order rs ≡ table_from ps ms
    unfolding in_table_order
    equal-table e =
        sym (rising-equal Before before-asym (table_from ps ms) (in_table_order rs)
        (table-rises ps C.once ms M.numbered) (order-sorted M R.refines)
        (λ r i. ∈-sort Before before? (row_in e r i)) (sym (length-sort Before before? rs ∙ e)))

    as_many : in_table_order rs ≡ in_table_order (table_from ps ms) → length rs ≡ length (table_from ps ms)
    unfolding in_table_order
    as_many e = sym (length-sort Before before? rs) ∙ ap length e ∙ length-sort Before before? (table_from ps ms)

  pub table-sorted : in_table_order (table_from ps ms) ≡ table_from ps ms
  table-sorted = equal-table (closed-table M C) refl

  pub least : Least ms marks (table_from ps ms)
  least = record {
    fewest = λ rs R. few R;
    cuts = λ rs R p c. has-cut M R (sub p (table-cut M C p c));
    equal = λ rs R. (λ e. equal-table R e ∙ sym table-sorted, as_many R);
  }
