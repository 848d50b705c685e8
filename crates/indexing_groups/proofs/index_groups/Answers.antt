-- `indexing_groups::index_groups` meets its contract. The invariant is `Made`. Assumes nothing.
use borrow.Author.Rules.{rules}
use Rattle.indexing_groups.proofs.Making.{group-within, made_more, made_all}
use Rattle.indexing_groups.proofs.index_groups.Goals as goal

pub index_group-requires-clause-end_in_bounds : goal.index_group-requires-clause-end_in_bounds
index_group-requires-clause-end_in_bounds c = (group-within c.requires.any_groups.groups c.loop-g-test.true).1

pub loop-g-preserved : goal.loop-g-preserved
loop-g-preserved c =
    made_more c.requires.any_groups.groups (search rules) c.loop-g.invariant c.index_group.ensures

pub returns : goal.returns
returns c =
    made_all c.requires.any_groups.groups c.loop-g-test.false c.requires.lefts_in_bounds c.loop-g.invariant
