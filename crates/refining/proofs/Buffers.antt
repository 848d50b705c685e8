-- 01's numbers for the lent buffers, without the definitions' own words: of a table with as many whole rows as `rows`
-- says, the capacity is that, and the work buffer needs four numbers for each.
--     buffers-sized     both
-- Assumes nothing.
use Prim.Native.Nat.{ℕ, ◌+◌, ◌*◌, ◌≤◌, ◌<◌}
use mathlib.Core.Path.{◌≡◌}
use mathlib.Core.List.{List}
use native.Mathlib.Omega.{arith}
use lib.ListN.{length}
use Rattle.refining.specs.Refining.{capacity_of, work_needed}

pub buffers-sized : (table : List ℕ) (rows : ℕ) → 5 * rows ≤ length table → length table < 5 * rows + 5
    → (capacity_of table ≡ rows) × (work_needed table ≡ 4 * rows)
buffers-sized table rows least most = (omega arith, omega arith)
