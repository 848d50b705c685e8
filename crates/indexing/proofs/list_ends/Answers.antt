-- `indexing::list_ends` meets its contract: the ends of all matches are listed behind the loop. Assumes nothing.
use Rattle.indexing.proofs.Listing.{listing-ends}
use borrow.Author.Rules.{rules}
use Rattle.indexing.proofs.list_ends.Goals as goal

pub returns : goal.returns
returns c = listing-ends c.loop-k.invariant (search rules) c.requires.order
