-- `count_in_windows` meets its contract: the loop keeps `Passed`, window by window. Assumes nothing.
use mathlib.Core.Path.{refl}
use native.Mathlib.Omega.{arith}
use borrow.Author.Rules.{rules}
use Rattle.rows.proofs.TableRows.{rows-length}
use Rattle.piece_windows.proofs.Windows.{passed-starts, passed-bound}
use Rattle.piece_windows.proofs.Windows.{passed-more, passed-less, passed-all}
use Rattle.piece_windows.proofs.count_in_windows.Goals as goal

pub loop-numbers-init : goal.loop-numbers-init
loop-numbers-init c =
    (record { numbers_room = search rules; spare_room = search rules }, passed-starts _ _ refl)

pub overflow_add-found : goal.overflow_add-found
overflow_add-found c =
    let bound = passed-bound _ c.loop-numbers.invariant.1 c.count_window-window.ensures in
    omega (arith, bound, rows-length c.args.table.now)

pub returns-then-not-window : goal.returns-then-not-window
returns-then-not-window c =
    passed-all _ c.loop-numbers.invariant.1 c.count_window-window.ensures c.if-not-window.true

pub loop-numbers-smaller : goal.loop-numbers-smaller
loop-numbers-smaller c =
    passed-less _ c.loop-numbers.invariant.1 c.count_window-window.ensures c.if-not-window.false

pub loop-numbers-preserved : goal.loop-numbers-preserved
loop-numbers-preserved c = (
  record { numbers_room = search rules; spare_room = search rules },
  passed-more _ c.loop-numbers.invariant.1 c.count_window-window.ensures c.if-not-window.false,
)
