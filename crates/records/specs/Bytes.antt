-- The bytes of a script. TO READ: contracts mean what stands here.
--     number_bytes n       the four bytes of a number
--     lengths_bytes p q    those of the lengths command
--     match_bytes m        those of a match command
--     mark_bytes k         those of a mark command
--     bytes_of p q ms ks   the script with these lengths, matches and marks
-- 01, "The script"; 02, #101 and #106. Assumes nothing.
use Rattle.std.specs.Prelude.{ℕ, ◌/◌, ◌%◌, Bool, true, false}
use mathlib.Core.List.{List, [], ◌∷◌, ◌++◌, flat_map}
use Rattle.script.specs.declared.command.Match.{Match}
use Rattle.script.specs.declared.command.Mark.{Mark}

-- SCOPE, "Numbers": unsigned, four bytes, the least first
abbrev pub number_bytes : ℕ → List ℕ
number_bytes n = n % 256 ∷ n / 256 % 256 ∷ n / 65536 % 256 ∷ n / 16777216 % 256 ∷ []

-- SCOPE, "Commands": 4C, then p and q
abbrev pub lengths_bytes : ℕ → ℕ → List ℕ
lengths_bytes p q = 0x4C ∷ number_bytes p ++ number_bytes q

-- SCOPE, "Commands": 44 is a direct match, 52 a reversed one
abbrev pub code_of : Bool → ℕ
code_of false = 0x44
code_of true = 0x52

-- SCOPE, "Commands": left-A, left-B and length behind the command byte
abbrev pub match_bytes : Match → List ℕ
match_bytes m =
    code_of m.reversed ∷ number_bytes m.left_a ++ number_bytes m.left_b ++ number_bytes m.length

-- SCOPE, "Commands": 4D, the side in one byte, the position
abbrev pub mark_bytes : Mark → List ℕ
mark_bytes k = 0x4D ∷ k.side ∷ number_bytes k.position

-- SCOPE, "Written": the lengths, the matches in their order, the marks in theirs, the end
unfoldable pub bytes_of : ℕ → ℕ → List Match → List Mark → List ℕ
bytes_of p q ms ks = lengths_bytes p q ++ flat_map match_bytes ms ++ flat_map mark_bytes ks ++ 0x45 ∷ []
