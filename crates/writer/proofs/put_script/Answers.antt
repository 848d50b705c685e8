-- `put_script` meets its contract: lengths, matches, marks and the end, one behind the other. Assumes nothing.
use Rattle.writer.proofs.Stored.{script-stored}
use borrow.Author.Rules.{rules}
use Rattle.writer.proofs.put_script.Goals as goal

pub returns : goal.returns
returns c =
    search (rules, script-stored)
