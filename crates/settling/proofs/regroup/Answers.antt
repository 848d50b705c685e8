-- `settling::regroup` meets its contract: the short run goes into the middle one, and the newly found run becomes the short
-- one or follows it. Assumes nothing.
use Rattle.settling.proofs.Settling.{found-mergeable, spare-places, settled-apart, settled-middle}
use borrow.Author.Rules.{rules}
use Rattle.settling.proofs.regroup.Goals as goal

pub returns-then-s-le512 : goal.returns-then-s-le512
returns-then-s-le512 c =
    rw c.parted.ensures (settled-apart c.requires.good c.requires.nothing_added (search rules) (search rules) (search rules))

pub merge_wide-requires : goal.merge_wide-requires
merge_wide-requires c =
    record {
      mergeable = found-mergeable c.requires.good c.requires.nothing_added (search rules) c.merge.ensures;
      spare = spare-places c.requires.good (search rules) (search rules);
    }

pub returns-else-s-le512 : goal.returns-else-s-le512
returns-else-s-le512 c =
    rw c.parted-else-s-le512.ensures
    (settled-middle c.requires.good c.requires.nothing_added (search rules) (search rules) c.merge.ensures (search rules))
