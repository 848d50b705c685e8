-- The scripts that are run, in bytes. TO READ: contracts mean what stands here.
--     number n                        n in four bytes, the least first
--     lengths, direct, backward, end  the commands
--     run, touching, long, many       the scripts of 01's lines
-- 01, "The script" and "Small scripts at the edges". Assumes nothing.
use Rattle.std.specs.Prelude.{ℕ, zero, suc, ◌/◌, ◌%◌, List, [], ◌∷◌, ◌++◌}

-- SCOPE, "Numbers": four bytes, the least first
abbrev pub number : ℕ → List ℕ
number n = n % 256 ∷ n / 256 % 256 ∷ n / 65536 % 256 ∷ n / 16777216 % 256 ∷ []

-- SCOPE, "Commands": the two lengths behind 4C
abbrev pub lengths : ℕ → ℕ → List ℕ
lengths p q = 0x4C ∷ number p ++ number q

-- SCOPE, "Commands": a match, direct behind 44, reversed behind 52
abbrev pub direct : ℕ → ℕ → ℕ → List ℕ
direct a b d = 0x44 ∷ number a ++ number b ++ number d

abbrev pub backward : ℕ → ℕ → ℕ → List ℕ
backward a b d = 0x52 ∷ number a ++ number b ++ number d

-- SCOPE, "End": 45 alone
abbrev pub end : List ℕ
end = 0x45 ∷ []

-- SCOPE, "The run": two matches that overlap, the second of them reversed
abbrev pub run : List ℕ
run = lengths 10 10 ++ direct 0 0 6 ++ backward 2 3 5 ++ end

-- SCOPE, "The edge lines": two matches that touch at position 4
abbrev pub touching : List ℕ
touching = lengths 8 8 ++ direct 0 0 4 ++ direct 4 4 4 ++ end

-- SCOPE, "The edge lines": two lengths and no match
abbrev pub long : ℕ → ℕ → List ℕ
long p q = lengths p q ++ end

-- so many matches of one letter each
unfoldable pub directs : ℕ → List ℕ
directs zero = []
directs (suc n) = directs n ++ direct 0 0 1

-- SCOPE, "The edge lines": so many matches
abbrev pub many : ℕ → List ℕ
many n = lengths 1 1 ++ directs n ++ end
