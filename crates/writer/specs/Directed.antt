-- Records that were judged have a direction, and marks a side; for functions that no user calls.
--     Directed ns     the direction of each record is 0 or 1
--     Sided zs        the side of each mark is 0 or 1
-- Assumes nothing.
use Rattle.std.specs.Prelude.{ℕ, ◌≤◌, ◌<◌, List, length}
use Rattle.records.specs.Records.{records_of, record_at, points_of, point_at}

pub record Directed (ns : List ℕ) : Type 0 where
  pub few : (k : ℕ) → k < length (records_of ns) → (record_at (records_of ns) k).direction ≤ 1

pub record Sided (zs : List ℕ) : Type 0 where
  pub few : (n : ℕ) → n < length (points_of zs) → (point_at (points_of zs) n).side ≤ 1
