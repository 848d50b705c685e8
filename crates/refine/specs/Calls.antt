-- What the inner functions of the refining call do.
--     ScriptRefined      the whole call
--     Roomy              columns with room for the matches of a script
--     RoomyMarks         columns with room for its marks
--     Straight           a column in which no match is reversed
--     bytes_of n          the bytes of a script of n matches
-- Assumes nothing.
use Rattle.std.specs.Prelude.{ℕ, ◌+◌, ◌*◌, ◌≤◌, ◌≡◌, Bool, false, List, length, replicate, Result}
use Rattle.script.specs.Commands.{lengths_width, match_width}
use Rattle.script.specs.Reading.{read_script}
use Rattle.script.specs.Columns.{matches_read, marks_read}
use Rattle.refining.specs.Refining.{refining_of}
use Rattle.script.specs.declared.refusal.Refusal.{Refusal}

-- the whole call
abbrev pub ScriptRefined : List ℕ → List ℕ → List ℕ → Result ℕ Refusal → List ℕ → List ℕ → Type 0
ScriptRefined script table work reply table' work' =
    record { reply = reply; table = table'; work = work' } ≡ refining_of script table work

-- columns with room for the matches of a script: left and right ends on A, on B, and directions
pub record Roomy (s f g t u : List ℕ) (r : List Bool) : Type 0 where
  pub left_a : length (matches_read (read_script s)) ≤ length f
  pub right_a : length (matches_read (read_script s)) ≤ length g
  pub left_b : length (matches_read (read_script s)) ≤ length t
  pub right_b : length (matches_read (read_script s)) ≤ length u
  pub reversed : length (matches_read (read_script s)) ≤ length r

-- columns with room for the marks of a script: sides and positions
pub record RoomyMarks (s z x : List ℕ) : Type 0 where
  pub side : length (marks_read (read_script s)) ≤ length z
  pub position : length (marks_read (read_script s)) ≤ length x

-- a column for the matches of a script in which none is reversed
pub record Straight (s : List ℕ) (w : List Bool) : Type 0 where
  pub room : length (matches_read (read_script s)) ≤ length w
  pub none : w ≡ replicate (length w) false

-- lengths, n matches, end
abbrev pub bytes_of : ℕ → ℕ
bytes_of n = lengths_width + match_width * n + 1
