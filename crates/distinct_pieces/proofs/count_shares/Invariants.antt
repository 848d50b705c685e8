-- The pieces of the shares so far are counted.
use Rattle.rows.specs.Rows.{rows_of}
use Rattle.distinct_pieces.proofs.Shares.{Below}
use Rattle.distinct_pieces.proofs.count_shares.Given as goal

abbrev pub invariant-loop-share : goal.invariant-loop-share
invariant-loop-share l = Below l.by (rows_of l.table) l.all.found l.share
