-- Rows of one share picked out of a run of rows. Only private functions promise anything by it.
--     Picked by share rs from to ns c    the first c numbers of ns are the rows of the share from `from` to `to`
--     Run by share rs to slots r         what a count is up to row `to`, unless it was given up
-- Assumes nothing.
use Rattle.std.specs.Prelude.{ℕ, ◌≤◌, ◌<◌, ◌≡◌, List, length, get_or, Result, Ok, Err}
use Rattle.rows.specs.Rows.{row_at}
use Rattle.rows.specs.declared.Row.{Row}
use Rattle.distinct_store.specs.Store.{share_of, Dealt}
use Rattle.distinct_store.specs.declared.Dealing.{Dealing}
use Rattle.distinct_store.specs.declared.Counted.{Counted}
use Rattle.distinct_store.specs.declared.GaveUp.{GaveUp}

-- they are in order, each is in the share, and between two of them, before the first and behind the last none is
pub record Picked (by : Dealing) (share : ℕ) (rs : List Row) (from to : ℕ) (ns : List ℕ) (c : ℕ) : Type 0 where
  pub room : c ≤ length ns
  pub above : (i : ℕ) → i < c → from ≤ get_or ns i 0
  pub below : (i : ℕ) → i < c → get_or ns i 0 < to
  pub mine : (i : ℕ) → i < c → share_of by (row_at rs (get_or ns i 0)) ≡ share
  pub rising : (i j : ℕ) → i < j → j < c → get_or ns i 0 < get_or ns j 0
  pub all : (k : ℕ) → from ≤ k → k < to → share_of by (row_at rs k) ≡ share → (i : ℕ) × (i < c) × (get_or ns i 0 ≡ k)

abbrev pub Run : Dealing → ℕ → List Row → ℕ → List ℕ → Result Counted GaveUp → Type 0
Run by share rs to slots (Ok counted) = Dealt by share rs slots counted.found to
Run by share rs to slots (Err gave_up) = Unit {0}
