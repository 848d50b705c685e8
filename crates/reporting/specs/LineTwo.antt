-- What the last three numbers of line two are, in a text that has a table. TO READ: contracts mean what stands here.
--     Matched s ms h           the letter behind the position h is in at least one match, on the side s
--     LineTwo p q ms ks text   line two has "distinct" and the number of distinct pieces, and ends in "covers" and the
--                              numbers of such letters, for A and for B
--     LineTwoPrinted           what the call that makes the text promises of it
-- 02, #102, #105 and #106. Assumes nothing.
use Rattle.std.specs.Prelude.{ℕ, ◌+◌, ◌≤◌, ◌<◌, ◌≡◌, List, [], ◌∷◌, ◌++◌, map, length, take, Result, Ok}
use Rattle.script.specs.Reading.{admitted, read_script}
use Rattle.script.specs.declared.command.Match.{Match as ScriptMatch}
use Rattle.script.specs.declared.command.Mark.{Mark}
use Rattle.refinement.specs.declared.Side.{Side}
use Rattle.refinement.specs.declared.Side.TheVariants.{A, B}
use Rattle.refinement.specs.Match.{on_side}
use Rattle.refinement.specs.Order.{◌∈◌}
use Rattle.table.specs.Distinct.{DistinctPieces}
use Rattle.table.specs.Covering.{CountedOnce}
use Rattle.text.specs.Decimal.{decimal}
use Rattle.refining.specs.Rows.{row_of_piece}
use Rattle.refining.specs.Refining.{given_by, least_of}
use Rattle.reporting.specs.Lines.{matches, pieces, distinct, covers, line, lengths_line}
use Rattle.reporting.specs.Reporting.{lent_rows}
use Rattle.reporting.specs.declared.TextTooShort.{TextTooShort}

-- SCOPE, "Covers": in our own tables in at least one match
pub record Matched (s : Side) (ms : List ScriptMatch) (h : ℕ) : Type 0 where
  pub which : ScriptMatch
  pub listed : which ∈ ms
  pub from_left : on_side s which.left_a which.left_b ≤ h
  pub before_right : h < on_side s which.left_a which.left_b + which.length

-- SCOPE, "Text": line two has `distinct` and a number, and ends in `covers` and two numbers, for A and for B
pub record LineTwo (p q : ℕ) (ms : List ScriptMatch) (ks : List Mark) (text : List ℕ) : Type 0 where
  pub all : ℕ
  pub different : ℕ
  pub on_a : ℕ
  pub on_b : ℕ
  pub below : List ℕ
  pub line_two : text ≡ lengths_line p q
      ++ line (matches ∷ decimal (length ms) ∷ pieces ∷ decimal all ∷ distinct ∷ decimal different
      ∷ covers ∷ decimal on_a ∷ decimal on_b ∷ []) ++ below
  pub counted_different : DistinctPieces (map row_of_piece (least_of (given_by ms ks))) different
  pub counted_a : CountedOnce (Matched A ms) on_a
  pub counted_b : CountedOnce (Matched B ms) on_b

-- the text of an admitted script whose pieces have room in the program's table
pub record LineTwoPrinted (script : List ℕ) (reply : Result ℕ TextTooShort) (text : List ℕ) : Type 0 where
  pub line_two : {n p q : ℕ} {ms : List ScriptMatch} {ks : List Mark} → reply ≡ Ok n
      → read_script script ≡ admitted (p ∷ q ∷ []) ms ks → length (least_of (given_by ms ks)) ≤ lent_rows
      → LineTwo p q ms ks (take n text)
