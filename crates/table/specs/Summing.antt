-- The summary of a table. TO READ: contracts mean what stands here.
--     total f rs       the sum of what f gives for each row of rs
--     count p rs       how many rows of rs pass the test p
--     class_count       the number of classes
--     in_class c r      r is in class c, by its length
--     classes_of rs     how many rows of rs each class has
--     summary_of t      the summary of the table t
-- 01, "The table and its buffers". Assumes nothing.
use Rattle.std.specs.Prelude.{ℕ, zero, suc, ◌+◌, ◌^◌, Bool, cond, ◌&&◌, List, [], ◌∷◌, length, leb, ltb}
use Rattle.refinement.specs.declared.Side.TheVariants.{A, B}
use Rattle.rows.specs.Rows.{rows_of}
use Rattle.table.specs.Distinct.{first_of_each}
use Rattle.table.specs.Covering.{cover_of}
use Rattle.rows.specs.declared.Row.{Row}
use Rattle.table.specs.declared.summing.Summary.{Summary}

-- what f gives for each row, added up
unfoldable pub total : (Row → ℕ) → List Row → ℕ
total f [] = 0
total f (r ∷ rs) = f r + total f rs

-- how many rows pass the test
abbrev pub count : (Row → Bool) → List Row → ℕ
count p rs = total (λ r. cond (p r) 1 0) rs

-- SCOPE, "Summary": as many class counts
abbrev pub class_count : ℕ
class_count = 30

-- SCOPE, "Classes": at least 2^c letters, and fewer than twice as many
abbrev pub length_in_class : ℕ → ℕ → Bool
length_in_class c letters = leb (2 ^ c) letters && ltb letters (2 ^ (c + 1))

abbrev pub in_class : ℕ → Row → Bool
in_class c r = length_in_class c r.length

-- n counts, from that of class c on
unfoldable pub classes_from : ℕ → ℕ → List Row → List ℕ
classes_from zero c rs = []
classes_from (suc n) c rs = count (in_class c) rs ∷ classes_from n (suc c) rs

-- SCOPE, "Classes": from class 0 to class 29; a length that fits no class is counted nowhere
abbrev pub classes_of : List Row → List ℕ
classes_of rs = classes_from class_count 0 rs

-- SCOPE, "Summary": pieces, distinct pieces, the letters covered on A and on B, and the pieces of each class
abbrev pub summary_of_rows : List Row → Summary
summary_of_rows rs =
    record {
      pieces = length rs;
      distinct = length (first_of_each rs);
      covers = cover_of A rs ∷ cover_of B rs ∷ [];
      classes = classes_of rs;
    }

-- SCOPE, "Any contents": whatever numbers the table holds
abbrev pub summary_of : List ℕ → Summary
summary_of t = summary_of_rows (rows_of t)
