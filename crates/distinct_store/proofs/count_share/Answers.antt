-- `count_share` meets its contract: the loop keeps `Dealt`, row by row. Assumes nothing.
use Rattle.std.proofs.Common.{arith}
use Rattle.rows.specs.Rows.{rows_of}
use Rattle.distinct_store.proofs.Passes.{dealt-starts, dealt-bound}
use Rattle.distinct_store.proofs.Passes.{dealt-other, dealt-known, dealt-fresh}
use Rattle.distinct_store.proofs.count_share.Goals as goal
use Rattle.distinct_store.proofs.count_share.Goals.{in-Known, in-Fresh}

pub loop-k-init : goal.loop-k-init
loop-k-init c =
    dealt-starts c.args.by c.args.share (rows_of c.args.table.now) c.requires.empty

pub loop-k-preserved-then-dealt-share : goal.loop-k-preserved-then-dealt-share
loop-k-preserved-then-dealt-share c =
    let apart = rw (c.spot_of-dealt.ensures, c.row_at-row.ensures) at c.if-dealt-share.true in
    dealt-other c.loop-k.invariant (omega arith) apart

pub overflow_add-found : goal.overflow_add-found
overflow_add-found c =
    omega (arith, dealt-bound c.loop-k.invariant)

pub loop-k-preserved : goal.loop-k-preserved
loop-k-preserved c =
    let mine = rw c.spot_of-dealt.ensures at c.if-dealt-share.false in
    let here = rw c.row_at-row.ensures at mine in
    elim c.match-branch-2.branch [
      | in-Known w ↦
          rw w.found-is (dealt-known c.loop-k.invariant (omega arith) (rw (w.in-Known.is, mine) at c.in_ok-l.ensures))
      | in-Fresh w ↦
          rw w.found-is (dealt-fresh c.loop-k.invariant (omega arith) here (rw (w.in-Fresh.is, mine) at c.in_ok-l.ensures))
    ]
