-- The lines of the printed text. TO READ: contracts mean what stands here.
--     line ws          the words ws apart by blanks, and a newline behind
--     refusal_text r    the one line of a refusal
--     row_line r        the line of a row
--     class_lines c ns  the lines of the classes from c on, whose counts are ns
--     table_text        the whole text of a table
-- 01, "One run, complete". Numbers are in decimal, without leading zeros. Assumes nothing.
use Rattle.std.specs.Prelude.{ℕ, suc, cond, List, [], ◌∷◌, ◌++◌, get_or, eqb}
use Rattle.script.specs.Refusals.{number_of, place_of}
use Rattle.script.specs.declared.refusal.Refusal.{Refusal}
use Rattle.table.specs.Summing.{summary_of_rows}
use Rattle.rows.specs.declared.Row.{Row}
use Rattle.table.specs.declared.summing.Summary.{Summary}
use Rattle.text.specs.Decimal.{decimal}

-- ---- words, in bytes

-- "lengths"
abbrev pub lengths : List ℕ
lengths = 108 ∷ 101 ∷ 110 ∷ 103 ∷ 116 ∷ 104 ∷ 115 ∷ []

-- "matches"
abbrev pub matches : List ℕ
matches = 109 ∷ 97 ∷ 116 ∷ 99 ∷ 104 ∷ 101 ∷ 115 ∷ []

-- "pieces"
abbrev pub pieces : List ℕ
pieces = 112 ∷ 105 ∷ 101 ∷ 99 ∷ 101 ∷ 115 ∷ []

-- "distinct"
abbrev pub distinct : List ℕ
distinct = 100 ∷ 105 ∷ 115 ∷ 116 ∷ 105 ∷ 110 ∷ 99 ∷ 116 ∷ []

-- "covers"
abbrev pub covers : List ℕ
covers = 99 ∷ 111 ∷ 118 ∷ 101 ∷ 114 ∷ 115 ∷ []

-- "class"
abbrev pub class : List ℕ
class = 99 ∷ 108 ∷ 97 ∷ 115 ∷ 115 ∷ []

-- "refused"
abbrev pub refused : List ℕ
refused = 114 ∷ 101 ∷ 102 ∷ 117 ∷ 115 ∷ 101 ∷ 100 ∷ []

-- SCOPE, "Text": + for direct, - for reversed
abbrev pub sign : ℕ → List ℕ
sign direction = cond (eqb direction 0) 43 45 ∷ []

-- ---- lines

-- 32 is the blank, 10 the newline
abbrev pub line : List (List ℕ) → List ℕ
line [] = 10 ∷ []
line (w ∷ []) = w ++ 10 ∷ []
line (w ∷ v ∷ ws) = w ++ 32 ∷ line (v ∷ ws)

-- SCOPE, "Refusal line": the word, the number and the place
abbrev pub refusal_text : Refusal → List ℕ
refusal_text r = line (refused ∷ decimal (number_of r) ∷ decimal (place_of r) ∷ [])

-- SCOPE, "Text": line one, with p and q
abbrev pub lengths_line : ℕ → ℕ → List ℕ
lengths_line p q = line (lengths ∷ decimal p ∷ decimal q ∷ [])

-- SCOPE, "Text": what line two ends in; of the covers ns the first is for A and the second for B
abbrev pub covers_words : List ℕ → List (List ℕ)
covers_words ns = covers ∷ decimal (get_or ns 0 0) ∷ decimal (get_or ns 1 0) ∷ []

-- SCOPE, "Text": line two, with the count of matches and the numbers of the summary
abbrev pub summary_line : ℕ → Summary → List ℕ
summary_line count s =
    line
    (matches
    ∷ decimal count
    ∷ pieces
    ∷ decimal s.pieces
    ∷ distinct
    ∷ decimal s.distinct
    ∷ covers_words s.covers)

-- SCOPE, "Text": the line of a row
abbrev pub row_line : Row → List ℕ
row_line r =
    line
    (decimal r.number
    ∷ decimal r.left_a
    ∷ decimal r.left_b
    ∷ decimal r.length
    ∷ sign r.direction
    ∷ [])

unfoldable pub row_lines : List Row → List ℕ
row_lines [] = []
row_lines (r ∷ rs) = row_line r ++ row_lines rs

-- a class that has pieces has a line
abbrev pub class_line : ℕ → ℕ → List ℕ
class_line c n = cond (eqb n 0) [] (line (class ∷ decimal c ∷ decimal n ∷ []))

-- SCOPE, "Text": the lines of the classes, rising, without the empty ones
unfoldable pub class_lines : ℕ → List ℕ → List ℕ
class_lines c [] = []
class_lines c (n ∷ ns) = class_line c n ++ class_lines (suc c) ns

abbrev pub table_text : ℕ → ℕ → ℕ → List Row → List ℕ
table_text p q count rows =
    let s = summary_of_rows rows in
    lengths_line p q ++ summary_line count s ++ row_lines rows ++ class_lines 0 s.classes
