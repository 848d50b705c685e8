-- The theorem: what the definitions of specs/ promise, one law for each point. Every law holds for any number of
-- tracks, any list of marks and every resolved refinement, whoever made it and however large, its rows in any order.
--     cuts-computed        1  the computed cuts are exactly the inductive ones
--     table_resolved       2  the least table is a resolved refinement ..
--     table-in-order       2  .. in the table's order
--     table-least          3  it is Least: no more cuts, no more rows, and equal to any other of as many rows
--     table-cuts              its cuts are the inductive cuts
--     table-equal          3  another resolved refinement, sorted, is this table exactly if it has as many rows
--     too_many             3  every resolved refinement exceeds a capacity exactly if this table does
--     cuts-of-match        4  any rising list of a match's cuts on A is the list that the table is made of ..
--     table-from-lists     4  .. so that such lists, one for each match, make this very table ..
--     table-from-cuts      4  .. and so does any set of places that has the cuts on A
--     single-resolved      6  single letters are a resolved refinement, so that there always is one ..
--     single-length        6  .. with rows of one letter
--     bare, cuts-relisted  7  the order and the numbers of the matches change no cut
-- The bounds of point 5 are in Count; what tells the least table from single letters is shown in NearMisses.
-- Assumes nothing.
use Prim.Native.Nat.{ℕ, ◌+◌, ◌<◌}
use mathlib.Core.Path.{◌≡◌, refl, sym, ap, ap₂, subst, ◌∙◌}
use mathlib.Core.Logic.{◌↔◌}
use mathlib.Core.List.{List, [], ◌∷◌, ◌++◌, flat_map}
use mathlib.Core.List.Memᴰ.{head as here}
use mathlib.Core.List.Memᴰ.{tail as there}
use native.Mathlib.Omega.{arith}
use lib.ListN.{length}
use Rattle.refinement.specs.declared.Side.{Side}
use Rattle.refinement.specs.declared.Side.TheVariants.{A}
use Rattle.refinement.specs.Order.{◌∈◌, Rising, Distinct}
use Rattle.refinement.specs.Match.{Match, other, left, right, Place, place, Spans, carry}
use Rattle.refinement.specs.Cut.{left_end, right_end, Cut, end, mark, carried}
use Rattle.refinement.specs.Refinement.{Matches, CutOf, ResolvedRefinement, Before, in_table_order, Least}
use Rattle.refinement.specs.Least.{least_cuts, cuts_within, pieces_between, pieces_of, table_from, least_table}
use Rattle.refinement.specs.Least.{add_new, spanned_places, single_letters}
use Rattle.refinement.proofs.Lists.{rising-same}
use Rattle.refinement.proofs.Resolved.{has-cut}
use Rattle.refinement.proofs.Table.{∈-cuts, cuts-∈, rising-cuts, made_row, closed-table, table-rises}
use Rattle.refinement.proofs.Table.{table-cut}
use Rattle.refinement.proofs.Minimal.{least, table-sorted}
use Rattle.refinement.proofs.Closure.{closed-complete, least-closed, least-sound, spanned-closed}
use Rattle.refinement.proofs.Closure.{added, ∈-spanned}

pub cuts-computed : (ms : List Match) (marks : List Place) (p : Place) → (p ∈ least_cuts ms marks) ↔ Cut ms marks p
cuts-computed ms marks p = (least-sound, closed-complete (least-closed ms marks))

rows-equal :
    (xs ys : Match → List ℕ) (ms : List Match) → ((m : Match) → m ∈ ms → xs m ≡ ys m)
    → flat_map (λ m. pieces_between m (xs m)) ms ≡ flat_map (λ m. pieces_between m (ys m)) ms
unfolding flat_map
rows-equal xs ys [] h = refl
rows-equal xs ys (m ∷ ms) h =
    ap₂ ◌++◌ (ap (pieces_between m) (h m (here refl))) (rows-equal xs ys ms (λ m' i. h m' (there i)))

module _ (ms : List Match) (marks : List Place) (M : Matches ms) where
  pub table_resolved : ResolvedRefinement ms marks (least_table ms marks)
  unfolding least_table
  table_resolved = closed-table M (least-closed ms marks)

  pub table-in-order : Rising Before (least_table ms marks)
  unfolding least_table
  table-in-order = table-rises (least_cuts ms marks) (least-closed ms marks).once ms M.numbered

  pub table-cuts : (p : Place) → CutOf (least_table ms marks) p ↔ Cut ms marks p
  unfolding least_table
  table-cuts p = (λ c. least-sound (table-cut M (least-closed ms marks) p c), has-cut M table_resolved)

  pub table-least : Least ms marks (least_table ms marks)
  unfolding least_table
  table-least = least M (least-closed ms marks) (λ p i. least-sound i)

  pub table-equal :
      (rs : List Match) → ResolvedRefinement ms marks rs
      → (length rs ≡ length (least_table ms marks)) ↔ (in_table_order rs ≡ least_table ms marks)
  unfolding least_table
  table-equal rs R =
      let C = least-closed ms marks in
      let sorted = table-sorted M C (λ p i. least-sound i) in
      let same = table-least.equal rs R in
      (λ e. same.0 e ∙ sorted, λ e. same.1 (e ∙ sym sorted))

  -- What refusal 12 says of every refinement is said of this one.
  pub too_many :
      (capacity : ℕ)
      → ((rs : List Match) → ResolvedRefinement ms marks rs → capacity < length rs)
      ↔ (capacity < length (least_table ms marks))
  too_many capacity = (λ h. h (least_table ms marks) table_resolved, λ l rs R. omega (arith, table-least.fewest rs R))

  -- Only cuts on the A sides matter.
  pub cuts-of-match :
      (m : Match) (xs : List ℕ) → Rising ◌<◌ xs
      → ((h : ℕ) → (h ∈ xs) ↔ (Spans m A h × Cut ms marks (place m A h))) → xs ≡ cuts_within (least_cuts ms marks) m A
  cuts-of-match m xs rise same =
      let ps = least_cuts ms marks in
      let C = least-closed ms marks in
      rising-same ◌<◌ (λ x y p q. omega arith) xs (cuts_within ps m A) rise (rising-cuts ps m A C.once)
      (λ h i. let t = (same h).0 i in ∈-cuts ps m A h (closed-complete C t.1) t.0)
      (λ h i. let t = cuts-∈ ps m A h i in (same h).1 (t.1, least-sound t.0))

  pub table-from-lists :
      (xs : Match → List ℕ) → ((m : Match) → m ∈ ms → Rising ◌<◌ (xs m))
      → ((m : Match) → m ∈ ms → (h : ℕ) → (h ∈ xs m) ↔ (Spans m A h × Cut ms marks (place m A h)))
      → flat_map (λ m. pieces_between m (xs m)) ms ≡ least_table ms marks
  unfolding least_table table_from pieces_of
  table-from-lists xs rise same =
      rows-equal xs (λ m. cuts_within (least_cuts ms marks) m A) ms (λ m i. cuts-of-match m (xs m) (rise m i) (same m i))

  pub table-from-cuts :
      (ps : List Place) → Distinct ps
      → ((m : Match) → m ∈ ms → (h : ℕ) → Spans m A h → (place m A h ∈ ps) ↔ Cut ms marks (place m A h))
      → table_from ps ms ≡ least_table ms marks
  unfolding table_from pieces_of
  table-from-cuts ps once same =
      table-from-lists (λ m. cuts_within ps m A) (λ m i. rising-cuts ps m A once) on
    where
      on :
          (m : Match) → m ∈ ms → (h : ℕ)
          → (h ∈ cuts_within ps m A) ↔ (Spans m A h × Cut ms marks (place m A h))
      on m i h =
          let forth : h ∈ cuts_within ps m A → Spans m A h × Cut ms marks (place m A h) =
          λ j. let t = cuts-∈ ps m A h j in (t.1, (same m i h t.1).0 t.0)
          in
          (forth, λ t. ∈-cuts ps m A h ((same m i h t.0).1 t.1) t.0)

  pub single-resolved : ResolvedRefinement ms marks (single_letters ms)
  unfolding single_letters
  single-resolved = closed-table M (spanned-closed ms marks)

  pub single-length : (r : Match) → r ∈ single_letters ms → r.length ≡ 1
  unfolding single_letters
  single-length r i =
      let d = made_row M (spanned-closed ms marks) r i in
      let p = d.piece in
      let cut : 1 < r.length → place d.owner A (left r A + 1) ∈ add_new (spanned_places ms) [] =
      λ l.
      added [] (∈-spanned d.listed A (left r A + 1) (omega (arith, p.starts_within A, p.ends_within A)))
      in
      let short : ¬ (1 < r.length) = λ l. d.gap (left r A + 1) (cut l) (omega arith) in
      omega (arith, p.lettered)

-- a match without its number
abbrev pub bare : Match → Match
bare m = record {
  number = 0;
  track_a = m.track_a;
  left_a = m.left_a;
  track_b = m.track_b;
  left_b = m.left_b;
  length = m.length;
  reversed = m.reversed;
}

bare-spans : {m : Match} {s : Side} {h : ℕ} → Spans m s h → Spans (bare m) s h
bare-spans t = record { from_left = t.from_left; to_right = t.to_right }

spans-bare : {m : Match} {s : Side} {h : ℕ} → Spans (bare m) s h → Spans m s h
spans-bare t = record { from_left = t.from_left; to_right = t.to_right }

-- ms' has, under any numbers and in any order, the matches of ms
module _ {ms ms' : List Match} {marks marks' : List Place}
    (listed : (m : Match) → m ∈ ms → (m' : Match) × (m' ∈ ms') × (bare m ≡ bare m'))
    (marked : (p : Place) → p ∈ marks → p ∈ marks') where
  pub cuts-relisted : {p : Place} → Cut ms marks p → Cut ms' marks' p
  cuts-relisted (end {m = m} i (left_end s)) =
      let l = listed m i in
      subst (λ (z : Match). Cut ms' marks' (place z s (left z s))) (sym l.2) (end l.1 (left_end s))
  cuts-relisted (end {m = m} i (right_end s)) =
      let l = listed m i in
      subst (λ (z : Match). Cut ms' marks' (place z s (right z s))) (sym l.2) (end l.1 (right_end s))
  cuts-relisted (mark {m = m} {s = s} {h = h} i k t) =
      let l = listed m i in
      subst (λ (z : Match). place z s h ∈ marks' → Spans z s h → Cut ms' marks' (place z s h)) (sym l.2)
      (λ k' t'. mark l.1 k' (spans-bare t')) (marked (place m s h) k) (bare-spans t)
  cuts-relisted (carried {m = m} {s = s} {h = h} i t c) =
      let l = listed m i in
      subst
      (λ (z : Match). Spans z s h → Cut ms' marks' (place z s h) → Cut ms' marks' (place z (other s) (carry z s h)))
      (sym l.2) (λ t' c'. carried l.1 (spans-bare t') c') (bare-spans t) (cuts-relisted c)
