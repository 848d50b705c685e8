-- `indexing::raise` meets its contract: a level that is one block needs none above it, and one that is not has the
-- level that `overlay` made, and those above it. Assumes nothing.
use Rattle.indexing.proofs.Raising.{raised-top, raised-above}
use Rattle.std.proofs.Common.{rules}
use Rattle.indexing.proofs.+raise.Goals as goal

pub returns-then-count-le-BLOCK : goal.returns-then-count-le-BLOCK
returns-then-count-le-BLOCK t c = raised-top (search rules)

pub returns : goal.returns
returns t c = raised-above c.overlay.ensures c.blocks_of.ensures c.raise.ensures
