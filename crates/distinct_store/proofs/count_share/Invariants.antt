-- The share's pieces among the first k rows are counted, and the store holds them.
use Rattle.rows.specs.Rows.{rows_of}
use Rattle.distinct_store.specs.Store.{Dealt}
use Rattle.distinct_store.proofs.count_share.Given as goal

abbrev pub invariant-loop-k : goal.invariant-loop-k
invariant-loop-k l = Dealt l.by l.share (rows_of l.table) l.slots l.found l.k
