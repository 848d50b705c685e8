-- What counting hits beforehand tells. TO READ: contracts mean what stands here.
--     MoreHits f g ns room     matches with the left ends f and the right ends g on the side that is carried from, and
--                              any ends on the other side, have more than `room` hits among the cuts ns
-- Assumes nothing.
use Rattle.std.specs.Prelude.{ℕ, ◌<◌, ◌≡◌, Bool, List, length}
use Rattle.refining.specs.Columns.{columns_of, count_of}
use Rattle.carrying_cuts.specs.Worker.{hits_over}

-- t, u and ways, the ends on the other side and the directions, are not read: the caller puts its own for them
abbrev pub MoreHits : List ℕ → List ℕ → List ℕ → ℕ → Type 0
MoreHits f g ns room =
    (t u : List ℕ) (ways : List Bool) → length f ≡ length ways
    → room < hits_over (columns_of f g t u ways) (count_of (columns_of f g t u ways)) ns
