-- `carry_few` meets its contract. Assumes nothing.
use borrow.Author.Rules.{rules}
use Rattle.std.proofs.Common.{◌≡◌, Err}
use Rattle.carrying_few.proofs.CutByCut.{cuts-step, cuts-stop, cuts-end}
use Rattle.carrying_few.proofs.carry_few.Goals as goal

pub returns-in_err-held : goal.returns-in_err-held
returns-in_err-held c =
    let e : c.from_residual.result ≡ Err c.in_err-held.field-0.0 = search rules in
    rw e (cuts-stop c.requires.ready c.loop-at.invariant c.loop-at-test.true c.found_at-cut.ensures _ _
    c.in_err-held.ensures)

pub loop-at-preserved : goal.loop-at-preserved
loop-at-preserved c =
    cuts-step c.requires.ready c.loop-at.invariant c.loop-at-test.true c.found_at-cut.ensures c.carry_cut.auto.work
    c.in_ok-held.ensures

pub returns : goal.returns
returns c = cuts-end c.requires.ready c.loop-at.invariant c.loop-at-test.false
