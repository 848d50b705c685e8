-- Setting the flags of the groups' tracks.
--     Flagging             the invariant of the loop: the flags of the tracks of the groups before g are set
-- Assumes nothing.
use Prim.Native.Nat.{ℕ, ◌≤◌}
use mathlib.Core.Path.{◌≡◌}
use mathlib.Core.Bool.{Bool}
use mathlib.Core.List.{List}
use lib.ListN.{length}
use Rattle.seeding.specs.Wanting.{Wanted}

-- vs are the flags before
pub record Flagging (gs : List ℕ) (n at : ℕ) (vs : List Bool) (g : ℕ) (ws : List Bool) : Type 0 where
  pub until : g ≤ n
  pub lengths : length ws ≡ length vs
  pub wanted : Wanted gs at g ws
