-- `put_read` meets its contract: the heading, and the answer behind it. Assumes nothing.
use Rattle.edge_answers.proofs.Putting.{put-read}
use borrow.Author.Rules.{rules}
use Rattle.edge_answers.proofs.put_read.Goals as goal

pub returns-in-Ok-clause-put : goal.returns-in-Ok-clause-put
returns-in-Ok-clause-put c =
    search (rules, put-read)

pub returns-in-Err-clause-put : goal.returns-in-Err-clause-put
returns-in-Err-clause-put c =
    search (rules, put-read)
