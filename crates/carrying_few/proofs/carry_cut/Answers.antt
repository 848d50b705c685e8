-- `carry_cut` meets its contract. Assumes nothing.
use borrow.Author.Rules.{rules}
use Rattle.std.proofs.Common.{◌≡◌, Err}
use Rattle.carrying_few.proofs.Placing.{places-start, places-step, places-end, place-stop}
use Rattle.carrying_few.proofs.carry_cut.Goals as goal

pub loop-k-init : goal.loop-k-init
loop-k-init c = places-start c.requires.indexed c.requires.good c.requires.hits_le_most c.next_place-k.ensures

pub returns-in_err-held : goal.returns-in_err-held
returns-in_err-held c =
    let e : c.from_residual.result ≡ Err c.in_err-held.field-0.0 = search rules in
    rw e (place-stop c.requires.indexed c.requires.good c.loop-k.invariant c.args.matches.now.fit c.loop-k-test.true _ _
    c.in_err-held.ensures)

pub loop-k-preserved : goal.loop-k-preserved
loop-k-preserved c =
    places-step c.requires.indexed c.requires.good c.loop-k.invariant c.carry_over.auto.work c.loop-k-test.true
    c.in_ok-held.ensures c.next_place-k-in-loop-k.ensures

pub returns : goal.returns
returns c =
    places-end c.requires.indexed c.requires.good c.loop-k.invariant c.args.matches.now.fit c.loop-k-test.false
