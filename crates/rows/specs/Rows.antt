-- The rows of a table of numbers. TO READ: contracts mean what stands here.
--     row_width       the numbers of a row
--     row_of t        the row that t starts with
--     rows_of t       the rows of the table t
--     row_at rs k     row k of rs, counted from 0
--     row_numbers r   the numbers of the row r
--     numbers_of rs   the numbers of the rows rs, one row behind the other
-- 01, "The table and its buffers". Assumes nothing.
use Rattle.std.specs.Prelude.{ℕ, zero, suc, ◌/◌, List, [], ◌∷◌, ◌++◌, length, get_or, drop}
use Rattle.rows.specs.declared.Row.{Row}

-- SCOPE, "Rows": five of them
abbrev pub row_width : ℕ
row_width = 5

-- SCOPE, "Rows": the row that the numbers t start with
abbrev pub row_of : List ℕ → Row
row_of t =
    record {
      number = get_or t 0 0;
      left_a = get_or t 1 0;
      left_b = get_or t 2 0;
      length = get_or t 3 0;
      direction = get_or t 4 0;
    }

-- the first n rows of t
unfoldable pub first_rows : ℕ → List ℕ → List Row
first_rows zero t = []
first_rows (suc n) t = row_of t ∷ first_rows n (drop row_width t)

-- SCOPE, "Any contents": numbers at the end that form no row are left out
unfoldable pub rows_of : List ℕ → List Row
rows_of t = first_rows (length t / row_width) t

-- row k, counted from 0; past the last a row of zeros, which no contract asks for
abbrev pub row_at : List Row → ℕ → Row
row_at rs k = get_or rs k (row_of [])

-- the numbers of a row, in their order: what `row_of` reads
abbrev pub row_numbers : Row → List ℕ
row_numbers r = r.number ∷ r.left_a ∷ r.left_b ∷ r.length ∷ r.direction ∷ []

-- the numbers of the rows rs, one row behind the other: what a table of these rows holds
unfoldable pub numbers_of : List Row → List ℕ
numbers_of [] = []
numbers_of (r ∷ rs) = row_numbers r ++ numbers_of rs
