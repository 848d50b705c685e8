-- Where a rising run holds just the cuts of A, the rows that are written are the least table.
--     rows-least     the law
-- Assumes nothing.
use Prim.Native.Nat.{ℕ, zero, suc, ◌+◌, ◌<◌}
use mathlib.Core.Path.{◌≡◌, refl, sym, ap, ◌∙◌}
use mathlib.Core.Bool.{Bool, true, false, cond, false≢true}
use mathlib.Core.Logic.{◌↔◌, ite, if_pos, if_neg}
use mathlib.Core.List.{List, [], ◌∷◌, ◌++◌, map, flat_map, filter, append-nil, append_assoc}
use native.Mathlib.Omega.{arith}
use Rattle.refinement.specs.declared.Side.TheVariants.{A}
use Rattle.refinement.specs.Order.{◌∈◌, Rising}
use Rattle.refinement.specs.Match.{Match, left, right, Place, between}
use Rattle.refinement.specs.Least.{spans?, least_cuts, cuts_within, pieces_between, pieces_of, table_from, least_table}
use Rattle.refinement.proofs.Lists.{∈-filter, ∈-unfilter, rising-filter}
use Rattle.refinement.proofs.Geometry.{ends-span}
use Rattle.refinement.proofs.Theorem.{cuts-of-match}
use Rattle.refining.specs.Columns.{Columns, count_of, from_at, from_right_at, Fit, up_from, match_at, matches_of}
use Rattle.refining.proofs.RightEnds.{right_at}
use Rattle.refining.specs.Refining.{held_in, least_of}
use Rattle.refining.specs.Rows.{within, pieces_cut}
use Rattle.closing_two.specs.FirstEdition.{CutOn}
use Rattle.closing_two.proofs.TwoTracks.{matches-good}

-- The numbers that a match spans, by the test and by the decision.
within-filter :
    (m : Match) {g : ℕ} → g ≡ right m A → (xs : List ℕ) → within (left m A) g xs ≡ filter (spans? m A) xs
within-filter m r [] = refl
within-filter m {g} r (x ∷ xs) = step (between (left m A) g x) refl (within-filter m r xs)
  where
    step :
        (b : Bool) → between (left m A) g x ≡ b → {ys zs : List ℕ} → ys ≡ zs
        → cond b (x ∷ ys) ys ≡ ite (spans? m A x) (x ∷ zs) zs
    step true e {zs} same = ap (λ ws. x ∷ ws) same ∙ sym (if_pos (spans? m A x) ((ends-span m A x r).0 e) (x ∷ zs) zs)
    step false e {zs} same =
        same ∙ sym (if_neg (spans? m A x) (λ t. false≢true (sym e ∙ (ends-span m A x r).1 t)) (x ∷ zs) zs)

module _ {columns : Columns} (fit : Fit columns) (marks : List Place) where
  abbrev all-cuts : List Place
  all-cuts = least_cuts (matches_of columns) marks

  module _ {run : List ℕ} (rise : Rising ◌<◌ run)
      (all : (x : ℕ) → (x ∈ run) ↔ CutOn (held_in columns marks) A x) where
    match-cuts :
        {k : ℕ} → k < count_of columns
        → within (from_at columns k) (from_right_at columns k) run ≡ cuts_within all-cuts (match_at columns k) A
    match-cuts {k} l =
        let m = match_at columns k in
        within-filter m (right_at fit A l) run
        ∙ cuts-of-match (matches_of columns) marks (matches-good columns fit) m
        (filter (spans? m A) run) (rising-filter (spans? m A) ◌<◌ run rise) (λ h. (
          λ i. let t = ∈-unfilter (spans? m A) run i in (t.1, (all h).0 t.0),
          λ t. ∈-filter (spans? m A) ((all h).1 t.1) t.0,
        ))

    -- the rows of the first k matches, and the least table's of the others
    rows-from :
        (n k : ℕ) → k + n ≡ count_of columns
        → pieces_cut columns run (count_of columns)
        ≡ pieces_cut columns run k
        ++ flat_map (pieces_of all-cuts) (map (match_at columns) (up_from k n))
    unfolding pieces_cut flat_map up_from pieces_of
    rows-from zero k e =
        let same : count_of columns ≡ k = omega arith in
        ap (pieces_cut columns run) same ∙ sym (append-nil (pieces_cut columns run k))
    rows-from (suc n) k e =
        let m = match_at columns k in
        let rows = pieces_cut columns run k in
        let cuts = cuts_within all-cuts m A in
        let rest = flat_map (pieces_of all-cuts) (map (match_at columns) (up_from (suc k) n)) in
        rows-from n (suc k) (omega arith)
        ∙ ap (λ xs. rows ++ pieces_between m xs ++ rest) (match-cuts {k = k} (omega arith))
        ∙ append_assoc rows (pieces_between m cuts) rest

    pub rows-least : pieces_cut columns run (count_of columns) ≡ least_of (held_in columns marks)
    unfolding least_table table_from pieces_cut matches_of
    rows-least = rows-from (count_of columns) 0 (omega arith)
