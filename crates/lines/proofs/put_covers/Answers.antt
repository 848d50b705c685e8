-- `put_covers` meets its contract: a line of three words. Assumes nothing.
use borrow.Author.Rules.{rules}
use Rattle.reporting.specs.Lines.{covers}
use Rattle.lines.proofs.Putting.{put_three}
use Rattle.lines.proofs.put_covers.Goals as goal

pub returns : goal.returns
returns c =
    search (rules, put_three covers)
