-- The letters before `from` are counted; the measure is how far the end is. Assumes nothing.
use Prim.Native.Nat.{◌-◌, ◌≤◌}
use mathlib.Core.Path.{◌≡◌}
use Rattle.rows.specs.Rows.{rows_of}
use Rattle.table.specs.Tally.{is_covered, tally}
use Rattle.row_stretches.specs.Passes.{end}
use Rattle.covered_letters.proofs.count_on.Given as goal

abbrev pub invariant-loop-from : goal.invariant-loop-from
invariant-loop-from l = (l.from ≤ end) × (l.letters ≡ tally (is_covered l.side (rows_of l.table)) l.from)

abbrev pub decreases-loop-from : goal.decreases-loop-from
decreases-loop-from l = end - l.from
