-- `put_row` meets its contract: a line of five words. Assumes nothing.
use borrow.Author.Rules.{rules}
use Rattle.row_lines.proofs.PuttingRows.{put_five}
use Rattle.row_lines.proofs.put_row.Goals as goal

pub returns : goal.returns
returns c =
    search (rules, put_five)
