-- `settling::lengthen` meets its contract: the middle run is short, or goes into the long one. Assumes nothing.
use Rattle.settling.proofs.Settling.{lengthened}
use borrow.Author.Rules.{rules}
use Rattle.settling.proofs.lengthen.Goals as goal

pub returns : goal.returns
returns c =
    rw c.parted.ensures (lengthened c.requires.good c.requires.nothing_found (search rules) (search rules))
