-- The ends of the matches on A, and what adding them does.
--     MatchHere           one of the first m matches with given ends
--     EndAt, EndOf        an end of one match, and of one of the first n matches
--     Seeding             what adding them does, by its answer
-- Assumes nothing.
use Rattle.std.specs.Prelude.{ℕ, ◌<◌, ◌≡◌, ◌⊎◌, List, get_or}
use Rattle.cut_set.specs.Store.{Stored, Cramped}
use Rattle.cut_set.specs.declared.CutSet.{CutSet}
use Rattle.cut_set.specs.declared.Added.{Added}

-- y is one of the two ends i and g of a match
abbrev pub EndAt : ℕ → ℕ → ℕ → Type 0
EndAt i g y = (y ≡ i) ⊎ (y ≡ g)

-- one of the first m matches, with the left ends f and the right ends r, for whose ends R holds
pub record MatchHere (R : ℕ → ℕ → Type 0) (f r : List ℕ) (m : ℕ) : Type 0 where
  pub index : ℕ
  pub below : index < m
  pub is : R (get_or f index 0) (get_or r index 0)

-- y is an A end of one of the first n matches
abbrev pub EndOf : List ℕ → List ℕ → ℕ → ℕ → Type 0
EndOf f r n y = MatchHere (λ i g. EndAt i g y) f r n

-- adding all numbers with P to the set s
abbrev pub Seeding : (ℕ → Type 0) → List ℕ → CutSet → List ℕ → Added → Type 0
Seeding P xs s ys (Added.Held t) = Stored P xs s ys t
Seeding P xs s ys (Added.Full t) = Cramped P xs s ys t
