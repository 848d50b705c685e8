-- `pick` meets its contract: the loop keeps `Picking`, row by row. Assumes nothing.
use Prim.Native.Nat.{◌/◌, ◌^◌}
use native.Mathlib.Omega.{arith}
use Rattle.picked_rows.proofs.Picks.{picking-on}
use Rattle.picked_rows.proofs.pick.Goals as goal

pub loop-k-preserved : goal.loop-k-preserved
loop-k-preserved c =
    let share = c.spot_of.result / 2 ^ 32 in
    let its = rw c.row_at.ensures at c.spot_of.ensures in
    picking-on c.loop-k.invariant (omega arith) share _ (rw its) c.from-used.ensures
