-- What carrying the newly found cuts needs to go cut by cut.
--     Usable            an index of the matches, or none
-- Assumes nothing.
use Rattle.std.specs.Prelude.{ℕ, ◌≡◌, ◌⊎◌, List, length}
use Rattle.arrangement.specs.Index.{Indexed}

-- an index of the matches with the left ends f and the right ends g, or no number at all
abbrev pub Usable : List ℕ → List ℕ → List ℕ → Type 0
Usable xs f g = (length xs ≡ 0) ⊎ Indexed xs f g
