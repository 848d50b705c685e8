-- `put_classes` meets its contract: the loop has put the lines of the first classes. Assumes nothing.
use native.Mathlib.Omega.{arith}
use lib.ListN.{take}
use lib.Seq.{length-take-le}
use borrow.Author.Rules.{rules}
use Rattle.reporting.specs.Lines.{class_lines}
use Rattle.reporting.proofs.Bounds.{class-lines-short}
use Rattle.row_lines.proofs.PuttingRows.{put-none}
use Rattle.lines.proofs.Putting.{classes-put-more}
use Rattle.lines.proofs.put_classes.Goals as goal

pub loop-class-init : goal.loop-class-init
unfolding class_lines
loop-class-init c =
    search (rules, put-none)

pub put_class-next-requires : goal.put_class-next-requires
put_class-next-requires c =
    let counts = c.args.counts.now in
    let k = c.loop-class.class in
    omega (arith, class-lines-short 0 (take k counts), length-take-le k counts (omega arith))

pub loop-class-preserved : goal.loop-class-preserved
loop-class-preserved c =
    search (rules, classes-put-more)
