-- `put_summary` meets its contract: a line of nine words. Assumes nothing.
use borrow.Author.Rules.{rules}
use Rattle.reporting.specs.Lines.{matches, pieces, distinct, covers}
use Rattle.lines.proofs.Putting.{put-nine}
use Rattle.lines.proofs.put_summary.Goals as goal

pub returns : goal.returns
returns c =
    search (rules, put-nine matches pieces distinct covers)
