-- `cut_set::sift_noted` meets its contract: each number is kept unless it stands in a run.
-- Assumes nothing.
use mathlib.Core.Path.{refl}
use Rattle.sifting.proofs.Keeping.{keep-step}
use Rattle.cut_set.proofs.Sieving.{kept-standing, kept-known, kept_new}
use borrow.Author.Rules.{rules}
use Rattle.cut_set.proofs.sift_noted.Goals as goal

pub known-old-requires : goal.known-old-requires
known-old-requires c =
    record {
      standing = kept-standing c.requires.sorted_apart c.loop-k.invariant;
      top_lt_limit = c.requires.top_lt_limit;
    }

pub loop-k-preserved : goal.loop-k-preserved
loop-k-preserved c =
    keep-step c.requires.sorted_apart.added c.loop-k.invariant (search rules) refl
    (kept-known c.requires.sorted_apart c.loop-k.invariant c.known-old.ensures) c.counted-kept.ensures

pub returns : goal.returns
returns c =
    search (rules, kept_new)
