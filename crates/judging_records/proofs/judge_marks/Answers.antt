-- `judge_marks` meets its contract: the marks passed have no fault, and judging goes on behind them. Assumes nothing.
use mathlib.Core.Path.{sym}
use Prim.Native.Nat.{◌<◌}
use native.Mathlib.Omega.{arith}
use lib.ListN.{length}
use Rattle.std.proofs.lemmas.Result.{err_from_is_err_and}
use Rattle.records.specs.Records.{no_mark, points_of}
use Rattle.records.proofs.Lists.{points-length, point-held}
use Rattle.judging_records.proofs.Each.{onward-next, onward-ends, fault-found}
use Rattle.judging_records.proofs.judge_marks.Goals as goal

pub returns-in_err-judge_point : goal.returns-in_err-judge_point
returns-in_err-judge_point c =
    let below : c.loop-n.n < length (points_of c.args.marks.now) = omega (arith, points-length c.args.marks.now) in
    let p = err_from_is_err_and c.from_residual.result c.from_residual.ensures.1 in
    rw (p.1, p.2)
    (fault-found c.loop-n.invariant no_mark below (sym (point-held c.args.marks.now c.loop-n.n (omega arith)))
    (omega arith) c.judge_point.ensures c.in_err-judge_point.was)

pub loop-n-preserved : goal.loop-n-preserved
loop-n-preserved c =
    let below : c.loop-n.n < length (points_of c.args.marks.now) = omega (arith, points-length c.args.marks.now) in
    onward-next c.loop-n.invariant no_mark below (sym (point-held c.args.marks.now c.loop-n.n (omega arith)))
    (omega arith) c.judge_point.ensures c.in_ok-judge_point.was

pub returns : goal.returns
returns c =
    onward-ends c.loop-n.invariant (omega (arith, points-length c.args.marks.now))
