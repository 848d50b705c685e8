-- Worked tables, computed from the definitions.
--     run-summary        01's run: 8 pieces, 8 distinct, 7 and 8 letters covered, class 0 5, class 1 3
--     numbers_apart      rows that differ from the first in left-A, left-B, length or direction: all distinct
--     directions-apart   directions 0, 1, 2, 3 and the largest: all distinct
--     matches-alike      rows that differ in the match number alone are one piece
--     class-ends         lengths 0, 1, 2^30 - 1 and 2^30: the first and the last are in no class
--     first_run          of two runs of one match the first, up to the break, with numbers behind that form no row
--     no_run             a number that no row has: the empty part at the start
-- Assumes nothing.
use Prim.Native.Nat.{ℕ}
use mathlib.Core.Path.{◌≡◌, refl}
use mathlib.Core.List.{List, [], ◌∷◌, ◌++◌}
use native.Mathlib.Decide.{dec_le}
use lib.ListN.{replicate}
use Rattle.refinement.specs.Order.{insert_by, sort_by}
use Rattle.rows.specs.Rows.{first_rows, rows_of}
use Rattle.table.specs.Finding.{leading, start_of, part_of}
use Rattle.table.specs.Distinct.{occurs, firsts_after}
use Rattle.table.specs.Covering.{letters_from}
use Rattle.table.specs.Summing.{total, classes_from, summary_of}

five : ℕ → ℕ → ℕ → ℕ → ℕ → List ℕ
five number left_a left_b letters direction = number ∷ left_a ∷ left_b ∷ letters ∷ direction ∷ []

run-summary : summary_of (
    five 1 0 0 2 0 ++ five 1 2 2 1 0 ++ five 1 3 3 1 0 ++ five 1 4 4 2 0
    ++ five 2 2 7 1 1 ++ five 2 3 6 1 1 ++ five 2 4 4 2 1 ++ five 2 6 3 1 1)
    ≡ record { pieces = 8; distinct = 8; covers = 7 ∷ 8 ∷ []; classes = 5 ∷ 3 ∷ replicate 28 0 }
unfolding five rows_of first_rows occurs firsts_after total classes_from letters_from sort_by insert_by dec_le
run-summary = refl

numbers_apart : (summary_of (
    five 1 4 4 2 2 ++ five 1 5 4 2 2 ++ five 1 4 5 2 2 ++ five 1 4 4 3 2 ++ five 1 4 4 2 3)).distinct ≡ 5
unfolding five rows_of first_rows occurs firsts_after
numbers_apart = refl

directions-apart : (summary_of (
    five 1 4 4 2 0 ++ five 1 4 4 2 1 ++ five 1 4 4 2 2 ++ five 1 4 4 2 3 ++ five 1 4 4 2 0xFFFF_FFFF)).distinct ≡ 5
unfolding five rows_of first_rows occurs firsts_after
directions-apart = refl

matches-alike : (summary_of (five 1 4 4 2 3 ++ five 2 4 4 2 3 ++ five 0 4 4 2 3)).distinct ≡ 1
unfolding five rows_of first_rows occurs firsts_after
matches-alike = refl

class-ends : (summary_of (
    five 1 0 0 0 0 ++ five 1 0 0 1 0 ++ five 1 0 0 0x3FFF_FFFF 0 ++ five 1 0 0 0x4000_0000 0)
    ).classes ≡ 1 ∷ replicate 28 0 ++ 1 ∷ []
unfolding five rows_of first_rows total classes_from
class-ends = refl

first_run : part_of 1 (
    five 2 0 0 1 0 ++ five 1 1 1 1 0 ++ five 1 2 2 1 0 ++ five 2 3 3 1 0 ++ five 1 4 4 1 0
    ++ 1 ∷ 5 ∷ 5 ∷ 1 ∷ []) ≡ five 1 1 1 1 0 ++ five 1 2 2 1 0
unfolding five rows_of first_rows leading
first_run = refl

no_run : start_of 7 (five 1 0 0 1 0 ++ 7 ∷ 1 ∷ 1 ∷ 1 ∷ []) ≡ 0
unfolding five rows_of first_rows leading
no_run = refl
