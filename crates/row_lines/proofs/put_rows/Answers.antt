-- `put_rows` meets its contract: the loop has put the lines of the first k rows. Assumes nothing.
use native.Mathlib.Omega.{arith}
use lib.ListN.{take}
use lib.Seq.{take_all, length-take-le}
use borrow.Author.Rules.{rules}
use Rattle.rows.specs.Rows.{rows_of}
use Rattle.text.proofs.Stores.{put_then, put_same}
use Rattle.reporting.specs.Lines.{row_lines}
use Rattle.reporting.proofs.Bounds.{row-lines-short}
use Rattle.row_lines.proofs.PuttingRows.{put-none, row-lines-more}
use Rattle.row_lines.proofs.put_rows.Goals as goal

pub loop-k-init : goal.loop-k-init
unfolding row_lines
loop-k-init c =
    search (rules, put-none)

pub put_row-next-requires : goal.put_row-next-requires
put_row-next-requires c =
    let rs = rows_of c.args.table.now in
    omega (arith, row-lines-short (take c.loop-k.k rs), length-take-le c.loop-k.k rs (omega arith))

pub loop-k-preserved : goal.loop-k-preserved
loop-k-preserved c =
    let rs = rows_of c.args.table.now in
    put_same (row-lines-more rs c.loop-k.k (omega arith) c.row_at.ensures)
    (put_then c.loop-k.invariant c.put_row-next.ensures)

pub returns-clause-upper_bound : goal.returns-clause-upper_bound
returns-clause-upper_bound c =
    let rs = rows_of c.args.table.now in
    let whole = rw (take_all c.loop-k.k rs (omega arith)) at c.loop-k.invariant in
    omega (arith, whole.place, row-lines-short rs)
