-- The backbone of a table that refining made, found in the lent buffers. Only the chaining call promises anything by
-- it.
--     Findable       what is lent: rows as refining makes them, a price that 02 admits, and room
--     FoundChain     the backbone stands in the chain buffer, and the other two are zero
--     DirectBy       the first d numbers are those of the direct rows, in the order of a side
--     Begun          the direct rows are arranged in the work buffer, and none is entered
--     points_at       the score of the best chain from a row; 0 is none
-- Assumes nothing.
use Rattle.std.specs.Prelude.{ℕ, ◌*◌, ◌^◌, ◌≤◌, ◌<◌, ◌≡◌, ◌↔◌, cond, List, length, get_or, take, drop, eqb}
use Rattle.rows.specs.declared.Row.{Row}
use Rattle.refinement.specs.declared.Side.{Side}
use Rattle.refinement.specs.Order.{◌∈◌}
use Rattle.refining.specs.Refining.{zeroed}
use Rattle.backbone.specs.Chains.{Direct}
use Rattle.backbone.specs.Backbone.{Backbone}
use Rattle.best_chains.specs.Best.{Apart}
use Rattle.row_order.specs.Order.{InOrder}
use Rattle.weighing.specs.Weighing.{score_at}
use Rattle.linking.specs.Linking.{order_in, links_in, held_in, Arranged}
use Rattle.finding_chain.specs.declared.Found.{Found}

pub record Findable (rs : List Row) (price : ℕ) (work chain scores : List ℕ) : Type 0 where
  pub apart : Apart rs
  pub priced : price ≤ 1000
  pub counted : length rs < 2 ^ 32
  pub work_room : 4 * length rs ≤ length work
  pub work_clear : work ≡ zeroed work
  pub chain_room : length rs ≤ length chain
  pub score_room : length rs ≤ length scores

pub record FoundChain (rs : List Row) (price : ℕ) (work chain scores : List ℕ) (r : Found)
    (work' chain' scores' : List ℕ) : Type 0 where
  pub backbone : Backbone price rs (take r.length chain') r.score
  pub within : r.length ≤ length chain
  pub past : drop r.length chain' ≡ drop r.length chain
  pub work_zero : work' ≡ zeroed work
  pub scores_zero : scores' ≡ zeroed scores

-- ---- on the way

pub record DirectBy (rs : List Row) (s : Side) (numbers : List ℕ) (d : ℕ) : Type 0 where
  pub few : d ≤ length rs
  pub in_order : InOrder rs s (take d numbers)
  pub direct : (k : ℕ) → (k ∈ take d numbers) ↔ Direct rs k

pub record Begun (rs : List Row) (work : List ℕ) (d : ℕ) : Type 0 where
  pub arranged : Arranged rs (order_in d work) (links_in (length rs) work)
  pub counted : length (order_in d work) ≡ d
  pub none_held : (i : ℕ) → get_or (held_in (length rs) work) i 0 ≡ 0

abbrev pub points_at : List ℕ → ℕ → ℕ
points_at scores k = cond (eqb k 0) 0 (score_at scores k)
