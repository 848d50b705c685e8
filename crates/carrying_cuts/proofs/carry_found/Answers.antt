-- `carry_found` meets its contract: each match passes the cuts on, and those that are passed over reach none of them.
-- Assumes nothing.
use native.Mathlib.Omega.{arith}
use borrow.Author.Rules.{rules}
use Rattle.std.proofs.Common.{◌≡◌, Err}
use Rattle.carrying_cuts.proofs.Passing.{pass-start, pass_step, pass-stop, pass-end}
use Rattle.carrying_cuts.proofs.Passing.{pass-ready, pass-run, pass-ends, pass-over, pass-none}
use Rattle.carrying_cuts.proofs.carry_found.Goals as goal

pub returns-then-none_found : goal.returns-then-none_found
returns-then-none_found c =
    let passed = pass-start c.requires.ready c.requires.hits_le_most in
    let none = c.none_found.ensures.when c.if-none_found.true in
    pass-end c.requires.ready (pass-none c.requires.ready passed none) (omega arith)

pub loop-k-init : goal.loop-k-init
loop-k-init c =
    pass-over c.requires.ready (pass-start c.requires.ready c.requires.hits_le_most) c.lowest_found-lowest.ensures
    c.highest_found-highest.ensures c.args.matches.now.fit.from_length c.next_near-k.ensures

pub carry_match-requires-clause-ready : goal.carry_match-requires-clause-ready
carry_match-requires-clause-ready c = pass-ready c.requires.ready c.loop-k.invariant

pub carry_match-requires-clause-found_run : goal.carry_match-requires-clause-found_run
carry_match-requires-clause-found_run c = pass-run c.requires.ready c.loop-k.invariant c.requires.found_run

pub carry_match-requires-clause-ends_in : goal.carry_match-requires-clause-ends_in
carry_match-requires-clause-ends_in c =
    λ e. pass-ends c.requires.ready c.loop-k.invariant (c.requires.ends_known e) (search rules)

pub returns-in_err-held : goal.returns-in_err-held
returns-in_err-held c =
    let e : c.from_residual.result ≡ Err c.in_err-held.field-0.0 = search rules in
    rw e (pass-stop c.requires.ready c.loop-k.invariant (search rules) _ _ c.in_err-held.ensures)

pub loop-k-preserved : goal.loop-k-preserved
loop-k-preserved c =
    let passed = pass_step c.requires.ready c.loop-k.invariant (search rules) (search rules) c.in_ok-held.ensures in
    pass-over c.requires.ready passed c.lowest_found-lowest.ensures c.highest_found-highest.ensures
    c.args.matches.now.fit.from_length c.next_near-k-in-loop-k.ensures

pub returns : goal.returns
returns c = pass-end c.requires.ready c.loop-k.invariant (search rules)
