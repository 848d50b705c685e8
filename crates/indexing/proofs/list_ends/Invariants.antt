-- The loop keeps `ListedFrom`. Assumes nothing.
use Rattle.indexing.proofs.Listing.{ListedFrom}
use Rattle.indexing.proofs.list_ends.Given as goal

abbrev pub invariant-loop-k : goal.invariant-loop-k
invariant-loop-k l = ListedFrom l.initial.index l.lefts l.rights l.index l.low l.k
