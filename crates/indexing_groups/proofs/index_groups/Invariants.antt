-- The loop keeps `Made`: the groups before g have their indexes.
use lib.ListN.{length}
use Rattle.indexing_groups.proofs.Making.{Made}
use Rattle.indexing_groups.proofs.index_groups.Given as goal

abbrev pub invariant-loop-g : goal.invariant-loop-g
invariant-loop-g l = Made l.index l.groups l.lefts l.rights l.g (length l.initial.index)
