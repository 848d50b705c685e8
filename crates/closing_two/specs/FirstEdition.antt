-- The closure of the first edition: two tracks, A and B, and every match goes from the one to the other.
--     at u h              the position h of the side u as a place
--     CutOn g u h         the position h of the side u is a cut of what is given
--     two_groups, two      one group, from the track 0 to the track 1; the matches of columns with these tracks, beside
--                         marks
--     AllCutsOfA          the set holds exactly the cuts of A, and the least table has room
--     Closure             what the closure does, by its answer
-- Assumes nothing.
use Rattle.std.specs.Prelude.{ℕ, ◌≤◌, ◌↔◌, List, [], ◌∷◌, length, Result, Ok, Err}
use Rattle.refinement.specs.declared.Side.{Side}
use Rattle.refinement.specs.declared.Side.TheVariants.{A, B}
use Rattle.refinement.specs.Match.{Place}
use Rattle.refinement.specs.Cut.{Cut}
use Rattle.cut_set.specs.Store.{Good, Member}
use Rattle.cut_set.specs.declared.CutSet.{CutSet}
use Rattle.refining.specs.Columns.{Columns, count_of}
use Rattle.refining.specs.Refining.{Given, least_of}
use Rattle.refining.specs.Demands.{EveryExceeds}
use Rattle.tracks.specs.Tracks.{Tracked}
use Rattle.tracks.specs.Groups.{grouped}
use Rattle.carrying_group.specs.declared.TooMany.{TooMany}

abbrev pub at : Side → ℕ → Place
at A h = record { track = 0; position = h }
at B h = record { track = 1; position = h }

abbrev pub CutOn : Given → Side → ℕ → Type 0
CutOn g u h = Cut g.matches g.marks (at u h)

-- from match 0 on, from the track 0 to the track 1, up to the last
abbrev pub two_groups : ℕ → List ℕ
two_groups count = 0 ∷ 0 ∷ 1 ∷ count ∷ []

abbrev pub two : Columns → List Place → Tracked
two c marks = grouped c (two_groups (count_of c)) 1 marks

pub record AllCutsOfA (g : Given) (cap : ℕ) (ys : List ℕ) (s : CutSet) : Type 0 where
  pub good : Good ys s
  pub cuts : (x : ℕ) → Member ys s x ↔ CutOn g A x
  pub fits : length (least_of g) ≤ cap

abbrev pub Closure : Given → ℕ → List ℕ → Result CutSet TooMany → Type 0
Closure g cap ys (Ok s) = AllCutsOfA g cap ys s
Closure g cap ys (Err none) = EveryExceeds g cap
