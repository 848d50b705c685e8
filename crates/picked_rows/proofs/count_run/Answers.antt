-- `count_run` meets its contract: the loop keeps `Gone`, one picked row after the other. Assumes nothing.
use native.Mathlib.Omega.{arith}
use Rattle.picked_rows.proofs.Runs.{gone-bound, gone-kept}
use Rattle.picked_rows.proofs.Runs.{gone-known, gone-fresh, gone-all}
use Rattle.picked_rows.proofs.count_run.Goals as goal
use Rattle.picked_rows.proofs.count_run.Goals.{in-Known, in-Fresh}

pub enroll-requires-clause-kept : goal.enroll-requires-clause-kept
enroll-requires-clause-kept c = gone-kept c.loop-i.invariant (omega arith) c.row_at-row.ensures

pub overflow_add-found : goal.overflow_add-found
overflow_add-found c = omega (arith, gone-bound c.loop-i.invariant)

pub loop-i-preserved : goal.loop-i-preserved
loop-i-preserved c =
    elim c.match-branch-2.branch [
      | in-Known w ↦
          let entered = rw w.in-Known.is at c.in_ok-l.ensures in
          rw w.found-is (gone-known c.loop-i.invariant (omega arith) c.row_at-row.ensures entered)
      | in-Fresh w ↦
          let entered = rw w.in-Fresh.is at c.in_ok-l.ensures in
          rw w.found-is (gone-fresh c.loop-i.invariant (omega arith) c.row_at-row.ensures entered)
    ]

pub returns : goal.returns
returns c = gone-all c.loop-i.invariant (omega arith)
