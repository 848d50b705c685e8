-- The rows of one match in a table. TO READ: contracts mean what stands here.
--     leading p rs     how many rows rs starts with that pass the test p
--     has_number n r, has_other n r     r has the number n, or another
--     before n rs      how many rows of rs stand before the first with the number n
--     run n rs         how many rows with the number n rs starts with
--     start_of n t      where the part begins, in numbers from the start of t
--     size_of n t       how many numbers it has
--     span_of n t       from where to where it stands, in numbers from the start of t
--     part_of n t       the part
--     further i p      the place i numbers behind the place p
-- 01, "The table and its buffers". Assumes nothing.
use Rattle.std.specs.Prelude.{ℕ, suc, ◌+◌, ◌*◌, Bool, not, cond, List, [], ◌∷◌, length, take, drop, eqb, ltb}
use Rattle.rows.specs.Rows.{row_width, rows_of}
use Rattle.rows.specs.declared.Row.{Row}
use Rattle.table.specs.declared.finding.Span.{Span}

-- how many rows pass the test before the first that fails it
unfoldable pub leading : (Row → Bool) → List Row → ℕ
leading p [] = 0
leading p (r ∷ rs) = cond (p r) (suc (leading p rs)) 0

-- a row with that match number
abbrev pub has_number : ℕ → Row → Bool
has_number n r = eqb r.number n

-- a row with another
abbrev pub has_other : ℕ → Row → Bool
has_other n r = not (has_number n r)

-- SCOPE, "Part": the rows before the first with that number; all, where there is none
abbrev pub before : ℕ → List Row → ℕ
before n rs = leading (has_other n) rs

-- SCOPE, "Part": the rows with that number up to the first with another
abbrev pub run : ℕ → List Row → ℕ
run n rs = leading (has_number n) rs

-- SCOPE, "Part": where no row has that number, it is empty and stands at the table's start
abbrev pub start_of : ℕ → List ℕ → ℕ
start_of n t =
    let skipped = before n (rows_of t) in
    cond (ltb skipped (length (rows_of t))) (row_width * skipped) 0

-- the rows of the run behind the rows before it; none where no row has the number
abbrev pub size_of : ℕ → List ℕ → ℕ
size_of n t = row_width * run n (drop (before n (rows_of t)) (rows_of t))

-- the part by its place in the table: its first number, and the number behind its last
abbrev pub span_of : ℕ → List ℕ → Span
span_of n t = record { start = start_of n t; end = start_of n t + size_of n t }

-- SCOPE, "Part": the caller's own numbers from there on
abbrev pub part_of : ℕ → List ℕ → List ℕ
part_of n t = take (size_of n t) (drop (start_of n t) t)

-- a place in memory is a block and a count of bytes; a number of the table has four
abbrev pub further : ℕ → ℕ × ℕ → ℕ × ℕ
further i p = (p.0, p.1 + 4 * i)
