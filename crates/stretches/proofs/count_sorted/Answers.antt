-- Sorted, the stretches have the same letters.
-- Assumes nothing.
use borrow.Author.Rules.{rules}
use Rattle.stretches.proofs.Room.{sorted-pairs}
use Rattle.stretches.proofs.Summing.{sorted-summed}
use Rattle.stretches.proofs.count_sorted.Goals as goal

pub count-requires : goal.count-requires
count-requires c =
    sorted-pairs c.requires c.sort.ensures c.sort-2.ensures (search rules) (search rules)

pub returns : goal.returns
returns c =
    sorted-summed c.sort.ensures c.sort-2.ensures c.count.ensures
