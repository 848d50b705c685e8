-- `cut_set::sift_runs` meets its contract: the set's runs are taken out one after the other (Sieving). Assumes nothing.
use Rattle.cut_set.proofs.Sieving.{sieve-first, sieve-then, sieved-all}
use borrow.Author.Rules.{rules}
use Rattle.cut_set.proofs.sift_runs.Goals as goal

pub returns : goal.returns
returns c =
    sieved-all c.requires
    (sieve-then
    (sieve-then (sieve-then (sieve-first c.without-short.ensures) (search rules) c.without-middle.ensures)
    (search rules) c.without-long.ensures)
    (search rules) c.without.ensures)
