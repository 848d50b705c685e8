-- `sum_up` meets its contract: each field is what its call counts, first rows are as many as one row of each piece, and
-- what is worked out by hand counts each letter once. Assumes nothing.
use Rattle.table.proofs.OneOfEach.{distinct-counted}
use Rattle.table.proofs.Covers.{letters-once}
use Rattle.summary.proofs.sum_up.Goals as goal

pub returns-clause-distinct : goal.returns-clause-distinct
returns-clause-distinct c =
    rw c.count_distinct.ensures (distinct-counted _)

pub returns-clause-covers : goal.returns-clause-covers
returns-clause-covers c =
    rw c.count_covers.ensures (letters-once _)
