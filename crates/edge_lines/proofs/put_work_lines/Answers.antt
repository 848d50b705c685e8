-- `put_work_lines` meets its contract: one line behind the other. Assumes nothing.
use Rattle.text.specs.Decimal.{places_within}
use Rattle.text.proofs.Stores.{put_then}
use borrow.Author.Rules.{rules}
use Rattle.edge_lines.proofs.put_work_lines.Goals as goal

pub returns-clause-put : goal.returns-clause-put
unfolding places_within
returns-clause-put c =
    search (rules, put_then)
