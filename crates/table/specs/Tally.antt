-- Letters counted one by one. Only the count of letters promises anything by it.
--     within a b h          the test whether the letter behind h is in the stretch from a to b
--     is_covered s rs h      the test whether it is in at least one row's stretch
--     tally f n             how many numbers below n pass the test f
-- Assumes nothing.
use Rattle.std.specs.Prelude.{ℕ, zero, suc, ◌+◌, Bool, false, cond, ◌&&◌, ◌||◌, List, [], ◌∷◌, leb, ltb}
use Rattle.refinement.specs.declared.Side.{Side}
use Rattle.rows.specs.declared.Row.{Row}
use Rattle.table.specs.Covering.{left_of, right_of}

abbrev pub within : ℕ → ℕ → ℕ → Bool
within a b h = leb a h && ltb h b

unfoldable pub is_covered : Side → List Row → ℕ → Bool
is_covered s [] h = false
is_covered s (r ∷ rs) h = within (left_of s r) (right_of s r) h || is_covered s rs h

unfoldable pub tally : (ℕ → Bool) → ℕ → ℕ
tally f zero = 0
tally f (suc n) = cond (f n) 1 0 + tally f n
