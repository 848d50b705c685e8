-- Searching a rising run from its start on, in strides that double.
--     Nearing             the invariant: all numbers before `at` are less than x, and the stride is not 0
-- Assumes nothing.
use Prim.Native.Nat.{ℕ, ◌≤◌, ◌<◌}
use mathlib.Core.List.{List}
use lib.ListN.{get_or}

pub record Nearing (xs : List ℕ) (lo hi x at step : ℕ) : Type 0 where
  pub from : lo ≤ at
  pub to : at ≤ hi
  pub some : 0 < step
  pub less : (k : ℕ) → lo ≤ k → k < at → get_or xs k 0 < x
