-- `count_with_store` meets its contract: its slots are empty, and there is one share. Assumes nothing.
use Rattle.rows.specs.Rows.{rows_of}
use Rattle.distinct_pieces.proofs.Shares.{one-share}
use Rattle.distinct_pieces.proofs.count_with_store.Goals as goal

pub returns : goal.returns
returns g c =
    one-share c.drawn_dealing-by.result (rows_of c.args.table.now) c.count_share.result
    c.drawn_dealing-by.ensures c.count_share.ensures
