-- `hits_of` meets its contract: the places from `first` to `last` hold cuts that the match spans. Assumes nothing.
use native.Mathlib.Omega.{arith}
use Rattle.counting_hits.proofs.Spanned.{hits-before, hits-to}
use Rattle.counting_hits.proofs.hits_of.Goals as goal

pub returns-then-found_at-right : goal.returns-then-found_at-right
returns-then-found_at-right c =
    hits-to c.requires.good c.first_found-first.ensures c.first_found-last.ensures c.if-last-first.false
    (omega (arith, c.found_end.ensures)) (omega (arith, c.found_at.ensures))

pub returns-else-last-found_end : goal.returns-else-last-found_end
returns-else-last-found_end c =
    hits-before c.requires.good c.first_found-first.ensures c.first_found-last.ensures c.if-last-first.false
