-- `drive` meets its contract: a step keeps `Kept` and lowers the measure. Assumes nothing.
use Rattle.std.proofs.lemmas.Result.{err_from_is_err_and}
use Rattle.driving.proofs.Drives.{kept_step, step_less}
use Rattle.driving.proofs.drive.Goals as goal

pub returns-in-Done : goal.returns-in-Done
returns-in-Done c =
    λ marks d. rw c.in-Done.is at (c.loop-closing.invariant.still marks d)

pub returns-in_err-closing-in-MoreA : goal.returns-in_err-closing-in-MoreA
returns-in_err-closing-in-MoreA c =
    let exit = c.from_residual-in_err-closing-in-MoreA in
    let p = err_from_is_err_and exit.result exit.ensures.1 in
    λ marks d.
    rw p.1
    (c.in_err-closing-in-MoreA.ensures marks (rw c.in-MoreA.is at (c.loop-closing.invariant.still marks d)))

pub returns-in_err-closing-in-MoreB : goal.returns-in_err-closing-in-MoreB
returns-in_err-closing-in-MoreB c =
    let exit = c.from_residual-in_err-closing-in-MoreB in
    let p = err_from_is_err_and exit.result exit.ensures.1 in
    λ marks d.
    rw p.1
    (c.in_err-closing-in-MoreB.ensures marks (rw c.in-MoreB.is at (c.loop-closing.invariant.still marks d)))

pub loop-closing-smaller-in_ok-closing-in-MoreA : goal.loop-closing-smaller-in_ok-closing-in-MoreA
loop-closing-smaller-in_ok-closing-in-MoreA c =
    let due = c.in-MoreA.is in
    rw due (step_less (rw due at c.loop-closing.invariant) _ _ _ _ c.in_ok-closing-in-MoreA.ensures)

pub loop-closing-preserved-in_ok-closing-in-MoreA : goal.loop-closing-preserved-in_ok-closing-in-MoreA
loop-closing-preserved-in_ok-closing-in-MoreA c =
    let same = c.a_step.auto in
    kept_step (rw c.in-MoreA.is at c.loop-closing.invariant) same.work same.book_a same.book_b
    c.in_ok-closing-in-MoreA.ensures

pub loop-closing-smaller : goal.loop-closing-smaller
loop-closing-smaller c =
    let due = c.in-MoreB.is in
    rw due (step_less (rw due at c.loop-closing.invariant) _ _ _ _ c.in_ok-closing-in-MoreB.ensures)

pub loop-closing-preserved : goal.loop-closing-preserved
loop-closing-preserved c =
    let same = c.b_step.auto in
    kept_step (rw c.in-MoreB.is at c.loop-closing.invariant) same.work same.book_a same.book_b
    c.in_ok-closing-in-MoreB.ensures
