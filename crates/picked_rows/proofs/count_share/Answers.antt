-- `count_share` meets its contract: the loop keeps `Dealt`, run by run. Assumes nothing.
use Rattle.rows.specs.Rows.{rows_of}
use Rattle.distinct_store.proofs.Passes.{dealt-starts}
use Rattle.picked_rows.proofs.count_share.Goals as goal

pub loop-from-init : goal.loop-from-init
loop-from-init c =
    dealt-starts c.args.by c.args.share (rows_of c.args.table.now) c.requires.empty
