-- The places of the first t numbers are noted. Assumes nothing.
use Prim.Native.Nat.{ℕ, ◌<◌}
use mathlib.Core.Path.{◌≡◌}
use lib.ListN.{length, get_or}
use Rattle.direct_rows.specs.Direct.{place_at}
use Rattle.direct_rows.proofs.place_all.Given as goal

abbrev pub invariant-loop-t : goal.invariant-loop-t
invariant-loop-t l =
    (length l.places ≡ length l.initial.places)
    × ((i : ℕ) → i < l.t → place_at l.places (get_or l.order i 0) ≡ i)
