-- `count_window` meets its contract: what is filled and sorted is counted. Assumes nothing.
use Rattle.piece_windows.proofs.Windows.{sorted-counts, sorted-spanned}
use Rattle.piece_windows.proofs.count_window.Goals as goal

pub returns : goal.returns
returns c =
    let gathered = c.fill-filled.ensures.gathered in
    record {
      start = c.fill-filled.ensures.start;
      counted = sorted-counts gathered c.sort.ensures;
      spanned = sorted-spanned gathered c.sort.ensures;
    }
