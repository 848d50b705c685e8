-- `put_table` meets its contract: its four parts, each put behind the one before. Assumes nothing.
use borrow.Author.Rules.{rules}
use Rattle.lines.proofs.Putting.{put-parts}
use Rattle.lines.proofs.put_table.Goals as goal

pub returns : goal.returns
returns c =
    search (rules, put-parts)
