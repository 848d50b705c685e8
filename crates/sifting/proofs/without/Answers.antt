-- `sifting::without` meets its contract: each number of the second run is kept or dropped.
-- Assumes nothing.
use mathlib.Core.Path.{refl}
use Rattle.sifting.proofs.Sifting.{sift-step, sift-end}
use borrow.Author.Rules.{rules}
use Rattle.sifting.proofs.without.Goals as goal

pub loop-k-preserved : goal.loop-k-preserved
loop-k-preserved c =
    sift-step c.requires c.loop-k.invariant (search rules) refl c.bound_near-low.ensures
    c.stands-known.ensures c.counted-kept.ensures

pub returns : goal.returns
returns c =
    search (rules, sift-end)
