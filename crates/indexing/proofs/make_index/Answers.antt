-- `indexing::make_index` meets its contract: the order, which is made in the front of the slice, the ends in this order
-- and the levels above them make the index.
-- Assumes nothing.
use mathlib.Core.Path.{◌≡◌}
use native.Mathlib.Omega.{arith}
use lib.ListN.{length}
use lib.Seq.{length-take-le}
use Rattle.indexing.proofs.Listing.{arranged}
use Rattle.indexing.proofs.Raising.{indexed}
use borrow.Author.Rules.{rules}
use Rattle.indexing.proofs.make_index.Goals as goal

pub list_ends-requires : goal.list_ends-requires
list_ends-requires c =
    let n = length c.args.lefts.now in
    let part = length-take-le n c.args.index.now (omega arith) in
    let size : length c.arrange.new.order ≡ n = omega (arith, c.arrange.auto.order) in
    arranged c.arrange.new.order _ c.arrange.ensures size c.requires.lefts_len (search rules)

pub returns : goal.returns
returns c = indexed (search rules) c.list_ends.ensures c.raise.ensures
