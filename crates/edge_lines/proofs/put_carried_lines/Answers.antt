-- `put_carried_lines` meets its contract: one line behind the other. Assumes nothing.
use Rattle.text.proofs.Stores.{put_then}
use borrow.Author.Rules.{rules}
use Rattle.edge_lines.proofs.put_carried_lines.Goals as goal

pub returns-clause-put : goal.returns-clause-put
returns-clause-put c =
    search (rules, put_then)
