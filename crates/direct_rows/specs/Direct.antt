-- The numbers of the direct rows, and their places in an order. Only the chaining call promises anything by it.
--     Collected rs out d           the first d numbers of out are those of the direct rows of rs, rising
--     place_at places k             the place that is noted for row k
--     Placeable order places       the order names places that are there, each once
--     Placed order places          for each number of the order its place is noted
-- Assumes nothing.
use Rattle.std.specs.Prelude.{ℕ, ◌-◌, ◌^◌, ◌≤◌, ◌<◌, ◌≡◌, ◌≢◌, List, length, get_or, take}
use Rattle.rows.specs.declared.Row.{Row}
use Rattle.refinement.specs.Order.{◌∈◌}
use Rattle.backbone.specs.Chains.{Direct}

pub record Collected (rs : List Row) (out : List ℕ) (d : ℕ) : Type 0 where
  pub few : d ≤ length rs
  pub direct : (i : ℕ) → i < d → Direct rs (get_or out i 0)
  pub rising : (i j : ℕ) → i < j → j < d → get_or out i 0 < get_or out j 0
  pub all : (k : ℕ) → Direct rs k → k ∈ take d out

abbrev pub place_at : List ℕ → ℕ → ℕ
place_at places k = get_or places (k - 1) 0

pub record Placeable (order places : List ℕ) : Type 0 where
  pub from_one : (i : ℕ) → i < length order → 1 ≤ get_or order i 0
  pub to_last : (i : ℕ) → i < length order → get_or order i 0 ≤ length places
  pub once : (i j : ℕ) → i < j → j < length order → get_or order i 0 ≢ get_or order j 0
  pub counted : length order ≤ 2 ^ 32

pub record Placed (order places : List ℕ) : Type 0 where
  pub placed : (i : ℕ) → i < length order → place_at places (get_or order i 0) ≡ i
