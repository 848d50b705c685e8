-- Where the run ends, counted from k on.
use Prim.Native.Nat.{◌+◌}
use mathlib.Core.Path.{◌≡◌}
use lib.ListN.{drop}
use Rattle.rows.specs.Rows.{rows_of}
use Rattle.table.specs.Finding.{run}
use Rattle.match_rows.proofs.run_end.Given as goal

abbrev pub invariant-loop-k : goal.invariant-loop-k
invariant-loop-k l =
    l.start + run l.number (drop l.start (rows_of l.table)) ≡ l.k + run l.number (drop l.k (rows_of l.table))
