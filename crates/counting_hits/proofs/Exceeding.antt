-- Counting the hits of some of the matches.
--     Spent               the invariant: what of the room is gone are hits of the first k matches
--     spend-step          the hits of one match more
--     spend-over          one match with more hits than are free
-- Assumes nothing.
use Prim.Native.Nat.{ℕ, suc, ◌+◌, ◌-◌, ◌≤◌, ◌<◌}
use native.Mathlib.Omega.{arith}
use mathlib.Core.Bool.{Bool}
use mathlib.Core.List.{List}
use lib.ListN.{length, get_or}
use Rattle.refining.specs.Columns.{columns_of}
use Rattle.carrying_match.specs.OneMatch.{hits_on}
use Rattle.carrying_cuts.specs.Worker.{hits_over}
use Rattle.carrying_cuts.proofs.Passing.{hits_more}
use Rattle.counting_hits.specs.Counting.{MoreHits}

pub record Spent (f g ns : List ℕ) (room free k : ℕ) : Type 0 where
  pub counted : (t u : List ℕ) (ways : List Bool) → room ≤ free + hits_over (columns_of f g t u ways) k ns

module _ {f g ns : List ℕ} {room free k hits : ℕ} (s : Spent f g ns room free k)
    (few : hits ≤ hits_on (get_or f k 0) (get_or g k 0) ns) where
  -- the hits of the match at index k are hits of the first n
  upto :
      (t u : List ℕ) (ways : List Bool) (n : ℕ) → k < n
      → hits_over (columns_of f g t u ways) k ns + hits ≤ hits_over (columns_of f g t u ways) n ns
  upto t u ways n h = omega (arith, hits_more (columns_of f g t u ways) ns (suc k) n (omega arith))

  pub spend-step : {step : ℕ} → 0 < step → hits ≤ free → Spent f g ns room (free - hits) (k + step)
  spend-step {step} p h =
      record { counted = λ t u ways. omega (arith, s.counted t u ways, upto t u ways (k + step) (omega arith)) }

  pub spend-over : k < length f → free < hits → MoreHits f g ns room
  spend-over h over t u ways e = omega (arith, s.counted t u ways, upto t u ways (length ways) (omega arith))
