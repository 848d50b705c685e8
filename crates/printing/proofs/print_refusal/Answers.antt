-- `print_refusal` meets its contract: the line was measured before it is put. Assumes nothing.
use borrow.Author.Rules.{rules}
use Rattle.printing.proofs.Printing.{reporting-whole}
use Rattle.printing.proofs.print_refusal.Goals as goal

pub returns : goal.returns
returns c =
    search (rules, reporting-whole)
