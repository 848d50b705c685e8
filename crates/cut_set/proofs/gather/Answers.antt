-- `cut_set::gather` meets its contract: what was added is sorted, sieved and merged (Gathering). Assumes nothing.
use Rattle.cut_set.proofs.Gathering.{sorted_apart, new-mergeable, new-spare, gathered}
use borrow.Author.Rules.{rules}
use Rattle.cut_set.proofs.gather.Goals as goal

pub sift-end-requires : goal.sift-end-requires
sift-end-requires c =
    search (rules, sorted_apart)

pub merge_wide-requires : goal.merge_wide-requires
merge_wide-requires c =
    let sift = c.sift-end.ensures in record {
      mergeable = new-mergeable c.requires (search rules) c.sort-sorted.ensures (search rules) sift;
      spare = new-spare c.requires (search rules) c.sort-sorted.ensures (search rules) sift;
    }

pub returns : goal.returns
returns c =
    gathered c.requires (search rules) c.sort-sorted.ensures (search rules) c.sift-end.ensures (search rules)
    (search rules) c.merge_wide.ensures c.remember.ensures
