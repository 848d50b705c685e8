-- The classes of the first k rows are counted.
use mathlib.Core.Path.{◌≡◌}
use lib.ListN.{take}
use Rattle.rows.specs.Rows.{rows_of}
use Rattle.table.specs.Summing.{classes_of}
use Rattle.summary.proofs.count_classes.Given as goal

abbrev pub invariant-loop-k : goal.invariant-loop-k
invariant-loop-k l = l.classes ≡ classes_of (take l.k (rows_of l.table))
