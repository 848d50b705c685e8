-- `refine_sized` meets its contract: its columns have room for the matches. Assumes nothing.
use Rattle.refine.proofs.Calls.{roomy-in, straight-in}
use borrow.Author.Rules.{rules}
use Rattle.refine.proofs.refine_sized.Goals as goal

pub refine_in-requires-clause-roomy : goal.refine_in-requires-clause-roomy
refine_in-requires-clause-roomy c = search (rules, roomy-in)

pub refine_in-requires-clause-straight : goal.refine_in-requires-clause-straight
refine_in-requires-clause-straight c = search (rules, straight-in)
