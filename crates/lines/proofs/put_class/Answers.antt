-- `put_class` meets its contract: a class without pieces has no line. Assumes nothing.
use borrow.Author.Rules.{rules}
use borrow.Author.Tests.{ne_eqb}
use Rattle.reporting.specs.Lines.{class}
use Rattle.lines.proofs.Putting.{put_three}
use Rattle.lines.proofs.put_class.Goals as goal

pub returns : goal.returns
returns c =
    search (rules, ne_eqb, put_three class)
