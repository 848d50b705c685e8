-- The records passed have no fault, and judging goes on behind them. Assumes nothing.
use Rattle.records.specs.Records.{records_of}
use Rattle.records.specs.Writing.{record_judgement}
use Rattle.judging_records.proofs.Each.{Onward}
use Rattle.judging_records.proofs.judge_each.Given as goal

abbrev pub invariant-loop-k : goal.invariant-loop-k
invariant-loop-k l = Onward (record_judgement l.p l.q) 1 (records_of l.records) l.k
