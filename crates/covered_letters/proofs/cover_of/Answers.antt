-- A short table is one window, unless its end is not reached. Assumes nothing.
use native.Mathlib.Omega.{arith}
use Rattle.covered_letters.proofs.Counting.{begun-none, begun_first, cover-counted}
use Rattle.covered_letters.proofs.cover_of.Goals as goal

pub count_on-requires : goal.count_on-requires
count_on-requires c =
    begun-none _ _

pub count_on-requires-then-few-lt-END : goal.count_on-requires-then-few-lt-END
count_on-requires-then-few-lt-END c =
    begun_first c.count_with_few-few.ensures

pub returns : goal.returns
returns c =
    cover-counted c.args.side c.args.table.now (λ k. omega (arith, c.shared_slice_known-1.given k))
    (omega arith) (begun_first c.count_with_few-few.ensures).counted
