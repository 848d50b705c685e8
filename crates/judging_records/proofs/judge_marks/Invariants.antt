-- The marks passed have no fault, and judging goes on behind them. Assumes nothing.
use Prim.Native.Nat.{◌+◌}
use Rattle.script.specs.Steps.{mark_judgement}
use Rattle.records.specs.Records.{points_of}
use Rattle.judging_records.proofs.Each.{Onward}
use Rattle.judging_records.proofs.judge_marks.Given as goal

abbrev pub invariant-loop-n : goal.invariant-loop-n
invariant-loop-n l = Onward (mark_judgement l.p l.q) (l.count + 1) (points_of l.marks) l.n
