-- `count_with_large_store` meets its contract: its slots are empty. Assumes nothing.
use Rattle.distinct_pieces.proofs.Empties.{empty-zeros}
use Rattle.distinct_pieces.proofs.count_with_large_store.Goals as goal

pub count_share-requires-clause-empty : goal.count_share-requires-clause-empty
count_share-requires-clause-empty c =
    empty-zeros 32768
