-- Distinct pieces among rows. TO READ: contracts mean what stands here.
--     same r s               the test whether r and s are the same piece
--     occurs r rs            some row of rs is the same piece as r
--     first_of_each rs         of each piece of rs the first row, in the order of rs
--     piece_of r              the numbers that make the piece of r
--     SamePiece r s          r and s are the same piece
--     OneOfEach rs qs        qs has one row of each piece of rs
--     DistinctPieces rs n    rs has so many distinct pieces
-- 01, "The table and its buffers"; 02, #105. Assumes nothing.
use Rattle.std.specs.Prelude.{ℕ, Bool, false, cond, ◌&&◌, ◌||◌, ◌≡◌, List, [], ◌∷◌, length, drop, eqb}
use Rattle.refinement.specs.Order.{◌∈◌, Rising}
use Rattle.rows.specs.Rows.{row_numbers}
use Rattle.rows.specs.declared.Row.{Row}

-- ---- the pieces, as they are found by hand

-- SCOPE, "Distinct": by left-A, left-B, length and direction, each as a number, whatever the match
abbrev pub same : Row → Row → Bool
same r s =
    eqb r.left_a s.left_a
    && (eqb r.left_b s.left_b && (eqb r.length s.length && eqb r.direction s.direction))

-- some row of rs is the same piece as r
unfoldable pub occurs : Row → List Row → Bool
occurs r [] = false
occurs r (s ∷ rs) = same s r || occurs r rs

-- the rows of rs that are the same piece as no row before them and as none of `seen`
unfoldable pub firsts_after : List Row → List Row → List Row
firsts_after seen [] = []
firsts_after seen (r ∷ rs) =
    let rest = firsts_after (r ∷ seen) rs in
    cond (occurs r seen) rest (r ∷ rest)

-- SCOPE, "Distinct": a row stands for its piece where no earlier row is the same piece
abbrev pub first_of_each : List Row → List Row
first_of_each rs = firsts_after [] rs

-- ---- the pieces, in the words of the request

-- SCOPE, "Rows": all numbers of a row but its match number
abbrev pub piece_of : Row → List ℕ
piece_of r = drop 1 (row_numbers r)

-- 02, #105: the same left-A, left-B and length (01), and directions that agree too
pub record SamePiece (r s : Row) : Type 0 where
  pub left_a : r.left_a ≡ s.left_a
  pub left_b : r.left_b ≡ s.left_b
  pub letters : r.length ≡ s.length
  pub direction : r.direction ≡ s.direction

-- rows of rs: no two are the same piece, and each row of rs is the same piece as one of them
pub record OneOfEach (rs qs : List Row) : Type 0 where
  pub among : (q : Row) → q ∈ qs → q ∈ rs
  pub apart : Rising (λ q r. ¬ SamePiece q r) qs
  pub each : (r : Row) → r ∈ rs → (q : Row) × (q ∈ qs) × SamePiece q r

-- SCOPE, "Distinct": there are rows, one of each piece, and however they are chosen they are n
pub record DistinctPieces (rs : List Row) (n : ℕ) : Type 0 where
  pub chosen : List Row
  pub one_of_each : OneOfEach rs chosen
  pub every : (qs : List Row) → OneOfEach rs qs → length qs ≡ n
