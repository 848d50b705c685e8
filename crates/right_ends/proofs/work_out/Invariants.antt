-- The right ends of the first k matches are worked out.
-- Assumes nothing.
use Rattle.right_ends.proofs.Working.{BothWorked}
use Rattle.right_ends.proofs.work_out.Given as goal

abbrev pub invariant-loop-k : goal.invariant-loop-k
invariant-loop-k l = BothWorked l.left_a l.left_b l.initial.right_a l.initial.right_b l.right_a l.right_b l.k
