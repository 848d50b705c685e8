-- `settling::settle` meets its contract: nothing is newly found, or it goes into the short run, or the runs are
-- regrouped.
-- Assumes nothing.
use Rattle.settling.proofs.Settling.{settled-short}
use borrow.Author.Rules.{rules}
use Rattle.settling.proofs.settle.Goals as goal

pub returns-then-s-le512 : goal.returns-then-s-le512
returns-then-s-le512 c =
    rw c.parted.ensures (settled-short c.requires.good c.requires.nothing_added (search rules) (search rules) (search rules))
