-- `count_shares` meets its contract: the loop keeps `Below`, share by share. Assumes nothing.
use Rattle.std.proofs.Common.{arith}
use Rattle.distinct_pieces.proofs.Shares.{below-starts, below_more, below-bound, below_all}
use Rattle.distinct_pieces.proofs.count_shares.Goals as goal

pub loop-share-init : goal.loop-share-init
loop-share-init c =
    below-starts _ _

pub overflow_add-all : goal.overflow_add-all
overflow_add-all c =
    let counted = c.in_ok-counted.ensures in
    omega (arith, below-bound (below_more c.loop-share.invariant _ (omega arith) counted))

pub loop-share-preserved : goal.loop-share-preserved
loop-share-preserved c =
    let counted = c.in_ok-counted.ensures in
    below_more c.loop-share.invariant _ (omega arith) counted

pub returns : goal.returns
returns c =
    below_all c.loop-share.invariant (omega arith) (omega arith)
