-- `cut_set::among` meets its contract: a run answers for itself, and its answers are joined run by run.
-- Assumes nothing.
use Rattle.std.proofs.Common.{◌≡◌, Bool, true, arith}
use Rattle.runs.specs.Runs.{Answers}
use Rattle.runs.proofs.Membership.{in-wide}
use Rattle.runs.proofs.Searching.{answers-later}
use Rattle.cut_set.proofs.among.Goals as goal
use Rattle.cut_set.proofs.among.Goals.{then-has, else-has, then-has-2, else-has-2}

yes : {P : Type 0} {r : Bool} → r ≡ true → P → Answers P r
yes e p = record { when = λ f. p; unless = λ f. absurd (cc) }

pub returns-then-has-3 : goal.returns-then-has-3
returns-then-has-3 c = yes c.if-has-3.true (elim c.if-has-2.branch [
  | then-has-2 w ↦ elim c.if-has.branch [
    | then-has v ↦ in-wide (omega arith) (omega arith) (c.has.ensures.when (cc))
    | else-has v ↦ in-wide (omega arith) (omega arith) (v.has-else-has.ensures.when (cc))
  ]
  | else-has-2 w ↦ in-wide (omega arith) (omega arith) (w.has-else-has-2.ensures.when (cc))
])

pub returns-else-has-3 : goal.returns-else-has-3
returns-else-has-3 c = elim c.if-has-2.branch [
  | then-has-2 w ↦ absurd (cc)
  | else-has-2 w ↦ elim c.if-has.branch [
    | then-has v ↦ absurd (cc)
    | else-has v ↦ answers-later c.requires.finished_long.order (w.has-else-has-2.ensures.unless (cc))
        (answers-later c.requires.finished_middle.order (v.has-else-has.ensures.unless (cc))
        (answers-later c.requires.finished_short.order (c.has.ensures.unless (cc)) c.has-else-has-3.ensures))
  ]
]
