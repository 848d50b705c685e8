-- `put_refined` meets its contract: the heading, and the answer behind it. Assumes nothing.
use Rattle.text.proofs.Stores.{put_then}
use Rattle.edge_answers.specs.Lines.{refined_text}
use Rattle.edge_answers.proofs.Putting.{put-answered}
use borrow.Author.Rules.{rules}
use Rattle.edge_answers.proofs.put_refined.Goals as goal

pub returns-in-Ok-clause-put : goal.returns-in-Ok-clause-put
returns-in-Ok-clause-put c =
    search (rules, put-answered refined_text, put_then)

pub returns-in-Err-clause-put : goal.returns-in-Err-clause-put
returns-in-Err-clause-put c =
    search (rules, put-answered refined_text)
