-- The invariant: the numbers up to k are noted.
-- Assumes nothing.
use Prim.Native.Nat.{◌≤◌}
use mathlib.Core.Path.{◌≡◌}
use lib.ListN.{length}
use Rattle.noting.specs.Notes.{NotedRun}
use Rattle.noting.proofs.note_run.Given as goal

abbrev pub invariant-loop-k : goal.invariant-loop-k
invariant-loop-k l = NotedRun l.initial.a l.lo l.k l.top l.limit l.a × (l.k ≤ l.hi) × (length l.a ≡ length l.initial.a)
