-- What stands at the start of a remainder of the script. TO READ: contracts mean what stands here.
--     lengths_width, match_width, mark_width     the bytes of a command, its command byte among them
--     number_at s at                the number in the four bytes from the offset at
--     fields_of reversed s          what a match command says, with its direction
--     point_of s                    what a mark command says
--     command_of s                  the command that s starts with
--     bit_of reversed               a direction as a number, where it is one: in a row, in a record, behind a pointer
-- 01, "The script"; 02, #106. Assumes nothing.
use Rattle.std.specs.Prelude.{ℕ, ◌+◌, ◌*◌, Bool, true, false, cond, List, length, get_or, ltb, eqb}
use Rattle.script.specs.declared.command.Match.{Match}
use Rattle.script.specs.declared.command.Mark.{Mark}
use Rattle.script.specs.declared.command.Command.{Command}
use Rattle.script.specs.declared.command.Command.TheVariants.{Missing, Unknown, Lengths, LengthsCutShort}
use Rattle.script.specs.declared.command.Command.TheVariants.{Pairing, MatchCutShort, Marking, MarkCutShort}
use Rattle.script.specs.declared.command.Command.TheVariants.{End, EndThenMore}

-- SCOPE, "Commands": two numbers behind the command byte, three, and a byte and a number
abbrev pub lengths_width : ℕ
lengths_width = 9

abbrev pub match_width : ℕ
match_width = 13

abbrev pub mark_width : ℕ
mark_width = 6

-- SCOPE, "Numbers": unsigned, four bytes, the least first
abbrev pub number_at : List ℕ → ℕ → ℕ
number_at s at =
    get_or s at 0 + 256 * get_or s (at + 1) 0 + 65536 * get_or s (at + 2) 0 + 16777216 * get_or s (at + 3) 0

-- SCOPE, "Commands": the two lengths, first p
abbrev pub lengths_of : List ℕ → Command
lengths_of s = cond (ltb (length s) lengths_width) LengthsCutShort (Lengths (number_at s 1) (number_at s 5))

-- SCOPE, "Commands": the left-A, the left-B and the length of a match, in this order; A is track 0, B track 1
abbrev pub fields_of : Bool → List ℕ → Match
fields_of reversed s =
    record {
      track_a = 0;
      track_b = 1;
      left_a = number_at s 1;
      left_b = number_at s 5;
      length = number_at s 9;
      reversed = reversed;
    }

-- SCOPE, "Commands": a match of either direction
abbrev pub match_of : Bool → List ℕ → Command
match_of reversed s = cond (ltb (length s) match_width) MatchCutShort (Pairing (fields_of reversed s))

-- SCOPE, "Commands": the side of a mark, one byte, and its position
abbrev pub point_of : List ℕ → Mark
point_of s = record { side = get_or s 1 0; position = number_at s 2 }

abbrev pub mark_of : List ℕ → Command
mark_of s = cond (ltb (length s) mark_width) MarkCutShort (Marking (point_of s))

-- SCOPE, "End": it has no operand, and nothing stands behind it
abbrev pub end_of : List ℕ → Command
end_of s = cond (ltb 1 (length s)) EndThenMore End

-- SCOPE, "Commands": the byte tells which it is: 4C lengths, 44 direct match, 52 reversed match, 4D mark, 45 end
abbrev pub command_of : List ℕ → Command
command_of s =
    let code = get_or s 0 0 in
    cond (eqb (length s) 0) Missing
    (cond (eqb code 0x4C) (lengths_of s)
    (cond (eqb code 0x44) (match_of false s)
    (cond (eqb code 0x52) (match_of true s)
    (cond (eqb code 0x4D) (mark_of s) (cond (eqb code 0x45) (end_of s) Unknown)))))

-- SCOPE, "Rows" and "Records": 0 for direct, 1 for reversed
abbrev pub bit_of : Bool → ℕ
bit_of true = 1
bit_of false = 0
