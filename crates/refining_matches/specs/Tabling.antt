-- What the functions that refine the matches of a script do.
--     Tabled             finding the cuts and writing the rows
--     MatchesRefined     the whole call on matches
-- Assumes nothing.
use Rattle.std.specs.Prelude.{ℕ, ◌≤◌, ◌≡◌, List, length, Result, Ok, Err}
use Rattle.std.proofs.lemmas.List.Edits.{sets}
use Rattle.script.specs.declared.refusal.Refusal.{Refusal}
use Rattle.script.specs.declared.refusal.Refusal.TheVariants.{TooManyPieces}
use Rattle.refining.specs.Rows.{piece_numbers}
use Rattle.refining.specs.Refining.{Given, least_of, capacity_of, refining_of_matches}
use Rattle.refining.specs.Demands.{EveryExceeds}

-- the cuts found and the rows written: the least table over the table's start, or no room for any resolved refinement
abbrev pub Tabled : Given → List ℕ → List ℕ → Result ℕ Refusal → Type 0
Tabled g before after (Ok n) =
    (n ≡ length (least_of g))
    × (length (least_of g) ≤ capacity_of before)
    × (after ≡ sets before 0 (piece_numbers (least_of g)))
Tabled g before after (Err r) =
    (r ≡ TooManyPieces) × EveryExceeds g (capacity_of before) × (after ≡ before)

-- the whole call on matches
abbrev pub MatchesRefined : Given → List ℕ → List ℕ → Result ℕ Refusal → List ℕ → List ℕ → Type 0
MatchesRefined g table work reply table' work' =
    record { reply = reply; table = table'; work = work' } ≡ refining_of_matches g table work
