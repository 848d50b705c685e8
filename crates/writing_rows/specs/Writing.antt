-- What writing the rows needs and does.
--     Stretch, Cutting      a piece lies on its match; the cuts of a match stand at some places of the run
--     Placed                some rows stand in the table from a row on
--     Writable, Written     the same for the rows of all matches
-- Assumes nothing.
use Rattle.std.specs.Prelude.{ℕ, suc, ◌+◌, ◌-◌, ◌*◌, ◌≤◌, ◌<◌, ◌≡◌, List, length, get_or}
use Rattle.std.proofs.Math.Seq.{slice}
use Rattle.std.proofs.lemmas.List.Edits.{sets}
use Rattle.runs.specs.Runs.{In, Run}
use Rattle.rows.specs.Rows.{row_width}
use Rattle.refinement.specs.Match.{Match}
use Rattle.refining.specs.Columns.{Columns, count_of, from_at, from_right_at}
use Rattle.refining.specs.Rows.{pieces_cut, piece_numbers}

-- x to y is some stretch on A of a match with the left end i, which has the ends k and l on B
pub record Stretch (i k l x y : ℕ) : Type 0 where
  pub from : i ≤ x
  pub some : x < y
  pub to : k + (y - i) ≤ l

-- the numbers at first to last, last included, rise from i to g
pub record Cutting (work : List ℕ) (first last i g : ℕ) : Type 0 where
  pub order : first ≤ last
  pub run : Run work first (suc last)
  pub left_at : get_or work first 0 ≡ i
  pub right_at : get_or work last 0 ≡ g

-- the rows rs are written from the row `row` on, and n is the row after them
pub record Placed (rs : List Match) (row : ℕ) (before after : List ℕ) (n : ℕ) : Type 0 where
  pub count : n ≡ row + length rs
  pub table : after ≡ sets before (row_width * row) (piece_numbers rs)

-- the cuts of A rise at [lo, hi), both ends of each match are among them, and the rows have room in the table
pub record Writable (columns : Columns) (work : List ℕ) (lo hi : ℕ) (table : List ℕ) : Type 0 where
  pub run : Run work lo hi
  pub left_in : (k : ℕ) → k < count_of columns → In work lo hi (from_at columns k)
  pub right_in : (k : ℕ) → k < count_of columns → In work lo hi (from_right_at columns k)
  pub few : count_of columns < 4294967296
  pub room : row_width * length (pieces_cut columns (slice lo hi work) (count_of columns)) ≤ length table

pub record Written (columns : Columns) (run before after : List ℕ) (n : ℕ) : Type 0 where
  pub count : n ≡ length (pieces_cut columns run (count_of columns))
  pub table : after ≡ sets before 0 (piece_numbers (pieces_cut columns run (count_of columns)))
