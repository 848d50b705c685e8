-- `refine_matches` meets its contract: 11, or what `cut_and_write` does with the work buffer cleared after it.
-- Assumes nothing.
use borrow.Author.Rules.{rules}
use Rattle.refining_matches.proofs.Tabling.{cleared-refined}
use Rattle.refining_matches.proofs.refine_matches.Goals as goal

pub returns : goal.returns
returns c = search (rules, cleared-refined)
