-- The lines that are printed. TO READ: contracts mean what stands here.
--     work_line, touching_line, long_line, many_line  a line; its heading names what is handed to the library
--     work_lines, touching_lines, long_lines, many_lines   the lines of one sentence of 01
--     edge_lines                                   the whole text
-- 01, "Small scripts at the edges": the lines without M. Assumes nothing.
use Rattle.std.specs.Prelude.{ℕ, List, [], ◌∷◌, ◌++◌, replicate}
use Rattle.refinement.specs.declared.Side.{Side}
use Rattle.refinement.specs.declared.Side.TheVariants.{A, B}
use Rattle.edge_answers.specs.Lines.{entry, blank, read_line, refined_line, carried_line}
use Rattle.edge_lines.specs.Scripts.{run, touching, long, many}

-- "work "
abbrev pub work : List ℕ
work = 119 ∷ 111 ∷ 114 ∷ 107 ∷ 32 ∷ []

abbrev pub work_line : ℕ → List ℕ
work_line n = refined_line (entry work n) run (replicate n 0)

-- SCOPE, "The edge lines": the run, with enough work for 40 numbers of table, and with one number less
abbrev pub work_lines : List ℕ
work_lines = work_line 32 ++ work_line 31

-- "touching"
abbrev pub touching_word : List ℕ
touching_word = 116 ∷ 111 ∷ 117 ∷ 99 ∷ 104 ∷ 105 ∷ 110 ∷ 103 ∷ []

-- " A " or " B "
abbrev pub on : Side → List ℕ
on A = 32 ∷ 65 ∷ 32 ∷ []
on B = 32 ∷ 66 ∷ 32 ∷ []

abbrev pub touching_line : ℕ → Side → List ℕ
touching_line n side = carried_line (entry (touching_word ++ blank) n ++ entry (on side) 4) touching n side 4

abbrev pub side_lines : Side → List ℕ
side_lines side = touching_line 1 side ++ touching_line 2 side

-- SCOPE, "The edge lines": the count of pieces, and position 4, which both matches carry
abbrev pub touching_lines : List ℕ
touching_lines = refined_line touching_word touching (replicate 32 0) ++ side_lines A ++ side_lines B

-- "lengths "
abbrev pub lengths_word : List ℕ
lengths_word = 108 ∷ 101 ∷ 110 ∷ 103 ∷ 116 ∷ 104 ∷ 115 ∷ 32 ∷ []

abbrev pub long_line : ℕ → ℕ → List ℕ
long_line p q = read_line (entry lengths_word p ++ entry blank q) (long p q)

-- SCOPE, "The edge lines": as long as a sequence may be, and a letter longer
abbrev pub long_lines : List ℕ
long_lines = long_line 1000000000 1 ++ long_line 1000000001 1

-- "matches "
abbrev pub matches_word : List ℕ
matches_word = 109 ∷ 97 ∷ 116 ∷ 99 ∷ 104 ∷ 101 ∷ 115 ∷ 32 ∷ []

abbrev pub many_line : ℕ → List ℕ
many_line n = read_line (entry matches_word n) (many n)

-- SCOPE, "The edge lines": as many matches as there may be, and one more
abbrev pub many_lines : List ℕ
many_lines = many_line 2048 ++ many_line 2049

abbrev pub edge_lines : List ℕ
edge_lines = work_lines ++ touching_lines ++ long_lines ++ many_lines
