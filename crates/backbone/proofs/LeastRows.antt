-- The rows of the least table.
--     least-unique     a least resolved refinement in the table's order is the least table
--     least-length     as many rows as pieces
--     least-row        each is the row of a piece
--     least-lettered   each has a letter
--     least-read       they are read back from a table over whose start they are written
-- Assumes nothing.
use Prim.Native.Nat.{ℕ, ◌*◌, ◌<◌}
use mathlib.Core.Path.{◌≡◌, refl, sym, ap, ◌∙◌}
use mathlib.Core.Bool.{false}
use mathlib.Core.List.Memᴰ.{head as here}
use mathlib.Core.List.{List, [], ◌∷◌}
use native.Mathlib.Omega.{arith}
use lib.ListN.{length, get_or, take, drop, length-map, get_or-map}
use lib.Seq.{take_at}
use Rattle.rows.specs.Rows.{row_width, rows_of, row_at}
use Rattle.rows.proofs.Numbers.{rows_whole}
use Rattle.refinement.specs.Order.{◌∈◌, Rising, insert_by, sort_by}
use Rattle.refinement.specs.Match.{Match, match_ab}
use Rattle.refinement.specs.Refinement.{Matches, ResolvedRefinement, Before, before?, in_table_order, Least}
use Rattle.refinement.proofs.Lists.{on-ite}
use Rattle.refinement.proofs.Theorem.{table_resolved, table-least, table-equal}
use Rattle.refining.specs.Rows.{row_of_piece, piece_numbers}
use Rattle.refining.specs.Refining.{Given, least_of}
use Rattle.refining.proofs.Numbered.{get_d-∈}
use Rattle.refining.proofs.Standing.{length-numbers}
use Rattle.refining.proofs.RefiningCases.{written}
use Rattle.backbone.specs.Chains.{Lettered}
use Rattle.backbone.specs.Chaining.{least_rows}

-- sorting leaves a list that rises as it is
module _ {X : Type 0} {R : X → X → Type 0} (dec : (x y : X) → Dec (R x y)) where
  insert-first : (x : X) (ys : List X) → ((y : X) → y ∈ ys → R x y) → insert_by dec x ys ≡ x ∷ ys
  unfolding insert_by
  insert-first x [] h = refl
  insert-first x (y ∷ ys) h =
      on-ite (λ l. l ≡ x ∷ y ∷ ys) (dec x y) (λ _. refl) (λ n. absurd (n (h y (here refl))))

  sort-rising : (xs : List X) → Rising R xs → sort_by dec xs ≡ xs
  unfolding sort_by
  sort-rising [] h = refl
  sort-rising (x ∷ xs) h = ap (insert_by dec x) (sort-rising xs h.1) ∙ insert-first x xs h.0

-- a piece for rows past the last, which no law asks for
blank : Match
blank = match_ab 0 0 0 0 false

pub least-length : (g : Given) → length (least_rows g) ≡ length (least_of g)
least-length g = length-map (least_of g) row_of_piece

-- the piece of row i
pub record RowOfPiece (g : Given) (i : ℕ) : Type 0 where
  pub piece : Match
  pub among : piece ∈ least_of g
  pub is : row_at (least_rows g) i ≡ row_of_piece piece

pub least-row : (g : Given) (i : ℕ) → i < length (least_rows g) → RowOfPiece g i
unfolding blank
least-row g i below =
    record {
      piece = get_or (least_of g) i blank;
      among = get_d-∈ (least_of g) i blank (omega (arith, least-length g));
      is = get_or-map row_of_piece (least_of g) i blank;
    }

pub least-read :
    (g : Given) (table : List ℕ)
    → rows_of (take (row_width * length (least_of g)) (written (least_of g) table)) ≡ least_rows g
least-read g table =
    let rows = piece_numbers (least_of g) in
    ap rows_of (take_at rows (drop (length rows) table) (row_width * length (least_of g)) (length-numbers (least_of g)))
    ∙ rows_whole (least_rows g)

module _ (g : Given) (M : Matches g.matches) where
  pub least-unique :
      {rs : List Match} → ResolvedRefinement g.matches g.marks rs → Least g.matches g.marks rs
      → Rising Before rs → rs ≡ least_of g
  unfolding in_table_order
  least-unique {rs} R L rise =
      let most = (table-least g.matches g.marks M).fewest rs R in
      let least = L.fewest (least_of g) (table_resolved g.matches g.marks M) in
      sym (sort-rising before? rs rise) ∙ (table-equal g.matches g.marks M rs R).0 (omega arith)

  pub least-lettered : Lettered (least_rows g)
  least-lettered =
      record {
        lettered = λ i below.
            let r = least-row g i below in
            let p = (table_resolved g.matches g.marks M).refines.pieces r.piece r.among in
            rw r.is p.2.lettered;
      }
