-- `put_refusal` meets its contract. Assumes nothing.
use Rattle.edge_answers.proofs.Putting.{put_refused}
use borrow.Author.Rules.{rules}
use Rattle.edge_answers.proofs.put_refusal.Goals as goal

pub returns-clause-put : goal.returns-clause-put
returns-clause-put c =
    search (rules, put_refused)
