-- The definitions yield the lines of 02, #104, and others in which a slip of the definitions would show, by one
-- computation over the whole table. Assumes nothing.
use Prim.Native.Nat.{ℕ}
use mathlib.Core.Path.{◌≡◌, refl}
use mathlib.Core.List.{List, [], ◌∷◌, map, flat_map}
use Rattle.rows.specs.declared.Row.{Row}
use Rattle.backbone.specs.Chains.{letters_in, skipped_in, score_of}
use Rattle.backbone.specs.Backbone.{direct_from, followers_of, chains_from, chains_of, betters, best_of, backbone_of}
use Rattle.backbone.specs.Backbone.{points_of}

-- a gap price, rows, and the row numbers and the score that they give
record Line : Type 0 where
  price : ℕ
  rows : List Row
  chain : List ℕ
  score : ℕ

-- a direct row and a reversed one: left-A, left-B and length
abbrev direct : ℕ → ℕ → ℕ → Row
direct a b n = record { number = 1; left_a = a; left_b = b; length = n; direction = 0 }

abbrev reversed : ℕ → ℕ → ℕ → Row
reversed a b n = record { number = 2; left_a = a; left_b = b; length = n; direction = 1 }

-- the rows of 01's run
abbrev run : List Row
run =
    direct 0 0 2 ∷ direct 2 2 1 ∷ direct 3 3 1 ∷ direct 4 4 2 ∷ reversed 2 7 1 ∷ reversed 3 6 1 ∷ reversed 4 4 2
    ∷ reversed 6 3 1 ∷ []

-- two ways of two pieces each to a fifth piece
abbrev ways : List Row
ways = direct 0 6 2 ∷ direct 6 0 2 ∷ direct 9 3 2 ∷ direct 3 9 2 ∷ direct 20 20 2 ∷ []

-- 02's lines, and beside them what slips would change
abbrev lines : List Line
lines =
    -- no rows, and only reversed ones
    record { price = 0; rows = []; chain = []; score = 0 }
    ∷ record { price = 0; rows = reversed 0 0 3 ∷ reversed 4 4 3 ∷ []; chain = []; score = 0 }
    -- a reversed row is no link, and scores nothing
    ∷ record { price = 0; rows = reversed 0 0 9 ∷ direct 20 20 1 ∷ []; chain = 2 ∷ []; score = 1 }
    -- 01's run
    ∷ record { price = 0; rows = run; chain = 1 ∷ 2 ∷ 3 ∷ 4 ∷ []; score = 6 }
    ∷ record { price = 1000; rows = run; chain = 1 ∷ 2 ∷ 3 ∷ 4 ∷ []; score = 6 }
    -- of equals the lower number first
    ∷ record { price = 0; rows = ways; chain = 1 ∷ 4 ∷ 5 ∷ []; score = 6 }
    ∷ record { price = 1; rows = ways; chain = 1 ∷ []; score = 2 }
    -- .. number by number, however long the lists are
    ∷ record { price = 0; rows = direct 0 0 2 ∷ direct 2 2 2 ∷ direct 0 10 4 ∷ []; chain = 1 ∷ 2 ∷ []; score = 4 }
    ∷ record { price = 0; rows = direct 0 10 4 ∷ direct 0 0 2 ∷ direct 2 2 2 ∷ []; chain = 1 ∷ []; score = 4 }
    -- .. behind the first number too
    ∷ record {
      price = 0;
      rows = direct 0 0 2 ∷ direct 20 20 2 ∷ direct 4 10 3 ∷ direct 10 4 3 ∷ [];
      chain = 1 ∷ 3 ∷ 2 ∷ [];
      score = 7;
    }
    -- row numbers may fall
    ∷ record { price = 0; rows = direct 10 10 3 ∷ direct 0 0 3 ∷ []; chain = 2 ∷ 1 ∷ []; score = 6 }
    -- a link of exactly 0 isn't taken: a list comes before its extension
    ∷ record { price = 1; rows = direct 0 0 3 ∷ direct 4 5 3 ∷ []; chain = 1 ∷ []; score = 3 }
    ∷ record { price = 1; rows = direct 0 0 3 ∷ direct 3 6 3 ∷ []; chain = 1 ∷ []; score = 3 }
    ∷ record { price = 1; rows = direct 0 0 4 ∷ direct 5 6 3 ∷ []; chain = 1 ∷ []; score = 4 }
    -- letters skipped on A cost, and letters skipped on B
    ∷ record { price = 1; rows = direct 0 0 3 ∷ direct 5 3 3 ∷ []; chain = 1 ∷ 2 ∷ []; score = 4 }
    ∷ record { price = 1; rows = direct 0 0 3 ∷ direct 3 5 3 ∷ []; chain = 1 ∷ 2 ∷ []; score = 4 }
    -- a link's sum below zero
    ∷ record { price = 1000; rows = direct 0 0 1 ∷ direct 999999999 999999999 1 ∷ []; chain = 1 ∷ []; score = 1 }
    -- a piece that begins where the other ends follows it, one letter before it doesn't, on either side
    ∷ record { price = 1000; rows = direct 0 0 3 ∷ direct 3 3 3 ∷ []; chain = 1 ∷ 2 ∷ []; score = 6 }
    ∷ record { price = 0; rows = direct 0 0 3 ∷ direct 2 3 3 ∷ []; chain = 1 ∷ []; score = 3 }
    ∷ record { price = 0; rows = direct 0 0 3 ∷ direct 3 2 3 ∷ []; chain = 1 ∷ []; score = 3 }
    ∷ []

-- a line's chain and score, as the definitions yield them ..
abbrev comes : Line → List ℕ × ℕ
comes l = (backbone_of l.price l.rows, points_of l.price l.rows)

-- .. and as the line has them
abbrev says : Line → List ℕ × ℕ
says l = (l.chain, l.score)

pub lines-hold : map comes lines ≡ map says lines
unfolding flat_map letters_in skipped_in score_of direct_from followers_of chains_from chains_of betters best_of backbone_of
    points_of
lines-hold = refl
