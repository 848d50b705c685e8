-- What is gathered is summed up.
-- Assumes nothing.
use Rattle.covered_letters.proofs.Counting.{window-counted}
use Rattle.covered_letters.proofs.count_window.Goals as goal

pub returns : goal.returns
returns c =
    window-counted c.gather-store.ensures c.count_sorted-letters.ensures
