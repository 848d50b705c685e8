-- The pieces as rows of a table, and those that one rising run of A cuts makes of the matches, as the code writes them.
--     row_of_piece          a piece as a row
--     piece_numbers        the numbers of a table of pieces
--     within i g xs       the numbers of xs that a match with the ends i and g spans
--     pieces_cut c run n   the pieces of the first n matches of the columns c
-- 01, "The table and its buffers". Assumes nothing.
use Rattle.std.specs.Prelude.{ℕ, zero, suc, cond, List, [], ◌∷◌, ◌++◌, map}
use Rattle.script.specs.Commands.{bit_of}
use Rattle.rows.specs.Rows.{numbers_of}
use Rattle.rows.specs.declared.Row.{Row}
use Rattle.refinement.specs.Match.{Match, between}
use Rattle.refinement.specs.Least.{pieces_between}
use Rattle.refining.specs.Columns.{Columns, from_at, from_right_at, match_at}

-- SCOPE, "Rows": what a piece puts into each number of its row
abbrev pub row_of_piece : Match → Row
row_of_piece r =
    record {
      number = r.number;
      left_a = r.left_a;
      left_b = r.left_b;
      length = r.length;
      direction = bit_of r.reversed;
    }

-- what a table of the pieces rs holds
abbrev pub piece_numbers : List Match → List ℕ
piece_numbers rs = numbers_of (map row_of_piece rs)

abbrev pub within : ℕ → ℕ → List ℕ → List ℕ
within i g [] = []
within i g (x ∷ xs) = let rest = within i g xs in cond (between i g x) (x ∷ rest) rest

unfoldable pub pieces_cut : Columns → List ℕ → ℕ → List Match
pieces_cut c run zero = []
pieces_cut c run (suc k) =
    pieces_cut c run k ++ pieces_between (match_at c k) (within (from_at c k) (from_right_at c k) run)
