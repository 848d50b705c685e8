-- Matches as records of four numbers, and marks as two. TO READ: contracts mean what stands here.
--     record_width      the numbers of a record
--     numbers_of m      the record of a match, as numbers
--     list_of ms        the records of a list of matches, one behind the other
--     records_of ns     the records that a list of numbers holds
--     record_at rs k    the one behind k others
--     match_of r        the match that a record says
--     matches_of ns     the matches of a list of numbers
--     mark_numbers      the numbers of a mark
--     point_numbers k   those of the mark k
--     point_list ks     those of a list of marks, one behind the other
--     points_of zs      the marks that a list of numbers holds
--     point_at ks n     the one behind n others
-- 02, #101 and #106; SCOPE, "Records" and "Lists of marks". Assumes nothing.
use Rattle.std.specs.Prelude.{ℕ, eqb, get_or}
use mathlib.Core.List.{List, [], ◌∷◌, map, flat_map}
use Rattle.script.specs.Commands.{bit_of}
use Rattle.script.specs.declared.command.Match.{Match}
use Rattle.script.specs.declared.command.Mark.{Mark}
use Rattle.records.specs.declared.Record.{Record}

-- SCOPE, "Records": four numbers
abbrev pub record_width : ℕ
record_width = 4

-- SCOPE, "Records": left-A, left-B, length, direction
abbrev pub numbers_of : Match → List ℕ
numbers_of m = m.left_a ∷ m.left_b ∷ m.length ∷ bit_of m.reversed ∷ []

-- SCOPE, "Records": one behind the other, in the order of the matches
abbrev pub list_of : List Match → List ℕ
list_of ms = flat_map numbers_of ms

-- the other way, from numbers to records; numbers at the end that form no record are left out, and a list that has
-- some is refused
unfoldable pub records_of : List ℕ → List Record
records_of [] = []
records_of (a ∷ []) = []
records_of (a ∷ b ∷ []) = []
records_of (a ∷ b ∷ d ∷ []) = []
records_of (a ∷ b ∷ d ∷ way ∷ ns) =
    record { left_a = a; left_b = b; length = d; direction = way } ∷ records_of ns

-- past the last a record of zeros, which no contract asks for
abbrev pub no_record : Record
no_record = record { left_a = 0; left_b = 0; length = 0; direction = 0 }

-- counted from 0
abbrev pub record_at : List Record → ℕ → Record
record_at rs k = get_or rs k no_record

-- A is track 0, B track 1, and direction 1 is reversed; a direction that is neither 0 nor 1 is refused before anybody
-- asks for its match
abbrev pub match_of : Record → Match
match_of r =
    record {
      track_a = 0;
      track_b = 1;
      left_a = r.left_a;
      left_b = r.left_b;
      length = r.length;
      reversed = eqb r.direction 1;
    }

-- the matches that a list says, in its order
abbrev pub matches_of : List ℕ → List Match
matches_of ns = map match_of (records_of ns)

-- ---- marks

-- SCOPE, "Lists of marks": two numbers
abbrev pub mark_numbers : ℕ
mark_numbers = 2

-- SCOPE, "Lists of marks": side, position
abbrev pub point_numbers : Mark → List ℕ
point_numbers k = k.side ∷ k.position ∷ []

-- SCOPE, "Lists of marks": one behind the other, in the order of the marks
abbrev pub point_list : List Mark → List ℕ
point_list ks = flat_map point_numbers ks

-- the other way; a number at the end that forms no mark is left out, and a list that has one is refused
unfoldable pub points_of : List ℕ → List Mark
points_of [] = []
points_of (a ∷ []) = []
points_of (a ∷ b ∷ zs) = record { side = a; position = b } ∷ points_of zs

-- past the last a mark of zeros, which no contract asks for
abbrev pub no_mark : Mark
no_mark = record { side = 0; position = 0 }

-- counted from 0
abbrev pub point_at : List Mark → ℕ → Mark
point_at ks n = get_or ks n no_mark
