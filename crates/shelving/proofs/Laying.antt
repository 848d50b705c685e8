-- Empty sets are laid out one after the other.
--     EmptyIn             an empty set in some places
--     LaidTo              the first k sets are laid out in the places [lo, at)
-- Assumes nothing.
use Prim.Native.Nat.{ℕ, ◌≤◌, ◌<◌}
use mathlib.Core.Path.{◌≡◌}
use mathlib.Core.List.{List}
use Rattle.cut_set.specs.Store.{Good}
use Rattle.cut_set.specs.declared.CutSet.{CutSet}
use Rattle.shelf.specs.Shelf.{set_at}
use Rattle.shelving.specs.AllSets.{Layable}
use Rattle.shelving.specs.OneSet.{Between}

-- an empty set in the places [lo, hi)
pub record EmptyIn (xs : List ℕ) (lo hi : ℕ) (s : CutSet) : Type 0 where
  pub good : Good xs s
  pub from : lo ≤ s.base
  pub to : s.limit ≤ hi
  pub none_done : s.done ≡ s.base
  pub none_used : s.used ≡ s.base

-- the first k sets are empty ones in the places [lo, at), in their order
pub record LaidTo (n lo hi k at : ℕ) (xs b : List ℕ) : Type 0 where
  pub few : k ≤ n
  pub place : Between lo at hi
  pub each : (i : ℕ) → i < k → EmptyIn xs lo at (set_at b i)
  pub order : (i j : ℕ) → i < j → j < k → (set_at b i).limit ≤ (set_at b j).base
  pub layable : Layable xs b n lo hi
