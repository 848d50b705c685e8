-- The lines of the library's answers. TO READ: contracts mean what stands here.
--     read_text, refined_text, carried_text          an answer of the library, as it stands at the end of a line
--     read_line, refined_line, carried_line          a heading, and behind it what the library answers
-- Assumes nothing.
use Rattle.std.specs.Prelude.{ℕ, List, [], ◌∷◌, ◌++◌, replicate, Result, Ok, Err}
use Rattle.script.specs.Reading.{read_script, verdict_of}
use Rattle.script.specs.Refusals.{number_of, place_of}
use Rattle.script.specs.declared.refusal.Refusal.{Refusal}
use Rattle.script.specs.declared.Admitted.{Admitted}
use Rattle.refinement.specs.declared.Side.{Side}
use Rattle.refining.specs.Refining.{refining_of}
use Rattle.refining.specs.Carrying.{carrying_of}
use Rattle.text.specs.Decimal.{decimal}

-- ---- answers

-- a word and a number
abbrev pub entry : List ℕ → ℕ → List ℕ
entry word n = word ++ decimal n

-- " ", and the newline behind each line
abbrev pub blank : List ℕ
blank = 32 ∷ []

abbrev pub newline : List ℕ
newline = 10 ∷ []

-- " refused "
abbrev pub refused : List ℕ
refused = 32 ∷ 114 ∷ 101 ∷ 102 ∷ 117 ∷ 115 ∷ 101 ∷ 100 ∷ 32 ∷ []

abbrev pub refused_text : Refusal → List ℕ
refused_text r = entry refused (number_of r) ++ entry blank (place_of r) ++ newline

-- " admitted", and the newline
abbrev pub admitted : List ℕ
admitted = 32 ∷ 97 ∷ 100 ∷ 109 ∷ 105 ∷ 116 ∷ 116 ∷ 101 ∷ 100 ∷ 10 ∷ []

abbrev pub read_text : Result Admitted Refusal → List ℕ
read_text (Ok a) = admitted
read_text (Err r) = refused_text r

-- " rows "
abbrev pub rows : List ℕ
rows = 32 ∷ 114 ∷ 111 ∷ 119 ∷ 115 ∷ 32 ∷ []

abbrev pub refined_text : Result ℕ Refusal → List ℕ
refined_text (Ok n) = entry rows n ++ newline
refined_text (Err r) = refused_text r

-- " to "
abbrev pub to : List ℕ
to = 32 ∷ 116 ∷ 111 ∷ 32 ∷ []

abbrev pub carried_text : Result ℕ Refusal → List ℕ
carried_text (Ok position) = entry to position ++ newline
carried_text (Err r) = refused_text r

-- ---- lines

abbrev pub read_line : List ℕ → List ℕ → List ℕ
read_line heading script = heading ++ read_text (verdict_of (read_script script))

-- every table here has 40 numbers, which is room for eight rows
abbrev pub refined_line : List ℕ → List ℕ → List ℕ → List ℕ
refined_line heading script work = heading ++ refined_text (refining_of script (replicate 40 0) work).reply

abbrev pub carried_line : List ℕ → List ℕ → ℕ → Side → ℕ → List ℕ
carried_line heading script number side position = heading ++ carried_text (carrying_of script number side position)
