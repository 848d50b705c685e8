-- The invariant: all numbers before `at` are less than x (Nearing).
-- Assumes nothing.
use Prim.Native.Nat.{◌-◌}
use Rattle.sifting.proofs.Nearing.{Nearing}
use Rattle.sifting.proofs.bound_near.Given as goal

abbrev pub invariant-loop-step : goal.invariant-loop-step
invariant-loop-step l = Nearing l.a l.lo l.hi l.x l.at l.step

abbrev pub decreases-loop-step : goal.decreases-loop-step
decreases-loop-step l = l.hi - l.at
