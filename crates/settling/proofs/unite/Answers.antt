-- `settling::unite` meets its contract: the short run goes into the middle one, and that into the long one.
-- Assumes nothing.
use Rattle.cut_set.proofs.Laws.{none-added}
use Rattle.settling.proofs.Settling.{last-mergeable, spare-places, joined}
use borrow.Author.Rules.{rules}
use Rattle.settling.proofs.unite.Goals as goal

pub merge_wide-requires : goal.merge_wide-requires
merge_wide-requires c =
    record {
      mergeable = last-mergeable c.requires.good (none-added c.requires.good c.requires.nothing_found) (search rules) c.merge.ensures;
      spare = spare-places c.requires.good (search rules) (search rules);
    }

pub returns : goal.returns
returns c =
    rw c.parted.ensures
    (joined c.requires.good (none-added c.requires.good c.requires.nothing_found) (search rules) (search rules)
    c.merge.ensures c.requires.nothing_found (search rules))
