-- What is before the match's rows, counted from k on.
use Prim.Native.Nat.{◌+◌}
use mathlib.Core.Path.{◌≡◌}
use lib.ListN.{drop}
use Rattle.rows.specs.Rows.{rows_of}
use Rattle.table.specs.Finding.{before}
use Rattle.match_rows.proofs.rows_before.Given as goal

abbrev pub invariant-loop-k : goal.invariant-loop-k
invariant-loop-k l = before l.number (rows_of l.table) ≡ l.k + before l.number (drop l.k (rows_of l.table))
