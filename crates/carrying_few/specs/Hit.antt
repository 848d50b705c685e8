-- Carrying one cut over one match.
--     hit_on columns cut m         1 if match m spans the cut, else 0
-- Assumes nothing.
use Rattle.std.specs.Prelude.{ℕ, [], ◌∷◌}
use Rattle.refining.specs.Columns.{Columns, from_at, from_right_at}
use Rattle.carrying_match.specs.OneMatch.{hits_on}

abbrev pub hit_on : Columns → ℕ → ℕ → ℕ
hit_on columns cut m = hits_on (from_at columns m) (from_right_at columns m) (cut ∷ [])
