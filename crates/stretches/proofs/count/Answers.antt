-- Each stretch adds what of it lies behind the one before it.
-- Assumes nothing.
use native.Mathlib.Omega.{arith}
use Rattle.stretches.proofs.Summing.{summing-starts, summing-fits}
use Rattle.stretches.proofs.Summing.{summing-more, summing-all}
use Rattle.stretches.proofs.count.Goals as goal

pub loop-k-init : goal.loop-k-init
loop-k-init c =
    summing-starts c.args.lows.now c.args.highs.now

pub overflow_add-letters : goal.overflow_add-letters
overflow_add-letters c =
    let fits = summing-fits c.requires c.loop-k.invariant (omega arith) c.max.ensures in
    record { fits = omega (arith, fits, c.type_inv.highs c.loop-k.k) }

pub loop-k-preserved : goal.loop-k-preserved
loop-k-preserved c =
    summing-more c.requires c.loop-k.invariant (omega arith) c.max.ensures

pub returns : goal.returns
returns c =
    summing-all c.requires c.loop-k.invariant (omega arith)
