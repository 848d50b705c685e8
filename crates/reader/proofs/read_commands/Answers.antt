-- `read_commands` meets its contract. The loop keeps `Progress`: good commands alone stand before `at`, `count` matches
-- and `marks` marks. Assumes nothing.
use mathlib.Core.Path.{ap, ◌∙◌}
use Rattle.std.proofs.Common.{Ok}
use Rattle.std.proofs.lemmas.Result.{err_from_is_err_and}
use Rattle.reader.proofs.Progress.{small, stepped, step-refused, step-finished, step-taken, step_kept}
use Rattle.reader.proofs.read_commands.Goals as goal

pub judge-requires : goal.judge-requires
judge-requires c =
    (small c.loop-count.invariant).1.1

pub returns-in_err-judge : goal.returns-in_err-judge
returns-in_err-judge c =
    let h = c.loop-count.invariant in
    let at = stepped _ _ _ _ _ _ c.read_command.ensures c.judge.ensures in
    let p = err_from_is_err_and c.from_residual.result c.from_residual.ensures.1 in
    rw (p.1, p.2, step-refused h at c.in_err-judge.was)

pub returns-in-Finish : goal.returns-in-Finish
returns-in-Finish c =
    let h = c.loop-count.invariant in
    let at = stepped _ _ _ _ _ _ c.read_command.ensures c.judge.ensures in
    rw (step-finished h at (c.in_ok-judge.was ∙ ap Ok c.in-Finish.is), h.counted, h.counted_marks)

pub loop-count-preserved-in-Take : goal.loop-count-preserved-in-Take
loop-count-preserved-in-Take c =
    let h = c.loop-count.invariant in
    let at = stepped _ _ _ _ _ _ c.read_command.ensures c.judge.ensures in
    step-taken h at (c.in_ok-judge.was ∙ ap Ok c.in-Take.is)

pub loop-count-preserved : goal.loop-count-preserved
loop-count-preserved c =
    let h = c.loop-count.invariant in
    let at = stepped _ _ _ _ _ _ c.read_command.ensures c.judge.ensures in
    step_kept h at (c.in_ok-judge.was ∙ ap Ok c.in-Keep.is)
