-- The letters of the next window are those behind. Assumes nothing.
use native.Mathlib.Omega.{arith}
use Rattle.covered_letters.proofs.Counting.{counted-fits, cover-counted}
use Rattle.covered_letters.proofs.count_on.Goals as goal

pub overflow_add-letters : goal.overflow_add-letters
overflow_add-letters c =
    record { fits = omega (arith, counted-fits c.count_with_many-next.ensures c.loop-from.invariant.1) }

pub returns : goal.returns
returns c =
    cover-counted c.args.side c.args.table.now (λ k. omega (arith, c.shared_slice_known-1.given k))
    (omega arith) c.loop-from.invariant.1
