-- `judge_each` meets its contract: the records passed have no fault, and judging goes on behind them. Assumes nothing.
use Prim.Native.Nat.{◌<◌}
use native.Mathlib.Omega.{arith}
use lib.ListN.{length}
use Rattle.std.proofs.lemmas.Result.{err_from_is_err_and}
use Rattle.records.specs.Records.{no_record, records_of}
use Rattle.records.proofs.Lists.{records-length}
use Rattle.judging_records.proofs.Each.{onward-next, onward-ends, fault-found}
use Rattle.judging_records.proofs.judge_each.Goals as goal

pub returns-in_err-judge_record : goal.returns-in_err-judge_record
returns-in_err-judge_record c =
    let below : c.loop-k.k < length (records_of c.args.records.now) = omega (arith, records-length c.args.records.now) in
    let p = err_from_is_err_and c.from_residual.result c.from_residual.ensures.1 in
    rw (p.1, p.2)
    (fault-found c.loop-k.invariant no_record below c.record_at.ensures (omega arith) c.judge_record.ensures
    c.in_err-judge_record.was)

pub loop-k-preserved : goal.loop-k-preserved
loop-k-preserved c =
    let below : c.loop-k.k < length (records_of c.args.records.now) = omega (arith, records-length c.args.records.now) in
    onward-next c.loop-k.invariant no_record below c.record_at.ensures (omega arith) c.judge_record.ensures
    c.in_ok-judge_record.was

pub returns : goal.returns
returns c =
    onward-ends c.loop-k.invariant (omega (arith, records-length c.args.records.now))
