-- What carrying the newly found cuts of one side over one match to the other side does.
--     ImageBy      y is what the match carries a newly found cut to
--     hits_on       how many cuts of a list the match spans
--     Ready        what carrying needs of the two sets
--     EndsIn       the ends of a match on one side are members
--     Carrying     what carrying does, by its answer
-- Assumes nothing.
use Rattle.std.specs.Prelude.{ℕ, ◌+◌, ◌≤◌, ◌<◌, ◌≡◌, Bool, true, cond, List, [], ◌∷◌}
use Rattle.refinement.specs.Match.{between, carry_to}
use Rattle.cut_set.specs.Store.{Good, Member, Stored, Cramped}
use Rattle.cut_set.specs.declared.CutSet.{CutSet}
use Rattle.std.specs.declared.result.Result.{Result}
use Rattle.std.specs.declared.result.Result.TheVariants.{Ok, Err}
use Rattle.carrying_match.specs.declared.Held.{Held}
use Rattle.carrying_match.specs.declared.Stop.{Stop}

-- an image of a number with P under one match: from the side with the ends i and g to that with the ends k and l
pub record ImageBy (i g k l : ℕ) (b : Bool) (P : ℕ → Type 0) (y : ℕ) : Type 0 where
  pub x : ℕ
  pub carried : P x
  pub spans : between i g x ≡ true
  pub is : y ≡ carry_to b i k l x

abbrev pub hits_on : ℕ → ℕ → List ℕ → ℕ
hits_on i g [] = 0
hits_on i g (x ∷ xs) = cond (between i g x) 1 0 + hits_on i g xs

-- two sets in parts of one buffer that share no place
pub data Apart (s t : CutSet) : Type 0 where
  before : s.limit ≤ t.base → Apart s t
  behind : t.limit ≤ s.base → Apart s t

-- what the worker is given: a set `from`, and a set `to` elsewhere in the buffer
pub record Ready (xs : List ℕ) (from to : CutSet) : Type 0 where
  pub from_good : Good xs from
  pub to_good : Good xs to
  pub apart : Apart from to

-- k and l, the ends of a match, are members
abbrev pub EndsIn : List ℕ → CutSet → ℕ → ℕ → Type 0
EndsIn xs s k l = Member xs s k × Member xs s l

-- carrying cuts to all that has P, with n more hits than before: to all of it, to some of it until every place was
-- taken, or with more hits than the most that are allowed
abbrev pub Carrying : (ℕ → Type 0) → ℕ → List ℕ → CutSet → ℕ → ℕ → List ℕ → Result Held Stop → Type 0
Carrying P n xs to hits most ys (Ok held) =
    Stored P xs to ys held.to × (held.hits ≡ hits + n) × (held.hits ≤ most)
Carrying P n xs to hits most ys (Err (Stop.Full to')) = Cramped P xs to ys to'
Carrying P n xs to hits most ys (Err Stop.TooMany) = most < hits + n
