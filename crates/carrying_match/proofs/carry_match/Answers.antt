-- `carry_match` meets its contract: what is known behind the tests is `AtCut`, and from it each turn and each answer
-- follows. Assumes nothing.
use native.Mathlib.Omega.{arith}
use mathlib.Core.Path.{refl, sym, ◌∙◌}
use borrow.Author.Rules.{rules}
use Rattle.carrying_match.proofs.Walking.{at_cut, walk-over, walk-break}
use Rattle.carrying_match.proofs.Walking.{walk_step, walk-known, walk-full, walk-excess}
use Rattle.carrying_match.proofs.carry_match.Goals as goal

pub returns-then-count-most : goal.returns-then-count-most
returns-then-count-most c =
    let cut = at_cut c.requires.ready c.requires.found_run c.first_found-first.ensures c.loop-at.invariant
    c.loop-at-test.true c.found_at-cut.ensures c.spans.ensures.test c.if-not-spans.false in
    walk-excess cut (omega arith)

pub loop-at-preserved-then-is_known : goal.loop-at-preserved-then-is_known
loop-at-preserved-then-is_known c =
    let cut = at_cut c.requires.ready c.requires.found_run c.first_found-first.ensures c.loop-at.invariant
    c.loop-at-test.true c.found_at-cut.ensures c.spans.ensures.test c.if-not-spans.false in
    let known = c.is_known.ensures c.if-is_known.true in
    walk_step cut refl (omega (arith, cut.walked.few)) (search rules)
    (walk-known cut c.requires.left_value (c.requires.ends_in known.0) known.1)

pub loop-at-preserved-then-has_room : goal.loop-at-preserved-then-has_room
loop-at-preserved-then-has_room c =
    let cut = at_cut c.requires.ready c.requires.found_run c.first_found-first.ensures c.loop-at.invariant
    c.loop-at-test.true c.found_at-cut.ensures c.spans.ensures.test c.if-not-spans.false in
    walk_step cut c.carry-image.ensures (omega (arith, cut.walked.few)) (search rules)
    c.append-set.ensures

pub loop-at-preserved : goal.loop-at-preserved
loop-at-preserved c =
    let cut = at_cut c.requires.ready c.requires.found_run c.first_found-first.ensures c.loop-at.invariant
    c.loop-at-test.true c.found_at-cut.ensures c.spans.ensures.test c.if-not-spans.false in
    walk_step cut c.carry-image.ensures (omega (arith, cut.walked.few)) (search rules)
    c.in-Held.ensures

pub returns-in-Full : goal.returns-in-Full
returns-in-Full c =
    let cut = at_cut c.requires.ready c.requires.found_run c.first_found-first.ensures c.loop-at.invariant
    c.loop-at-test.true c.found_at-cut.ensures c.spans.ensures.test c.if-not-spans.false in
    walk-full cut c.carry-image.ensures c.in-Full.ensures

pub returns-after-loop-at : goal.returns-after-loop-at
returns-after-loop-at c =
    walk-over c.requires.ready c.requires.found_run c.first_found-first.ensures c.loop-at.invariant
    c.loop-at-test.false

pub returns-then-not-spans : goal.returns-then-not-spans
returns-then-not-spans c =
    walk-break c.requires.ready c.requires.found_run c.first_found-first.ensures c.loop-at.invariant
    c.loop-at-test.true c.found_at-cut.ensures (sym c.spans.ensures.test ∙ c.if-not-spans.true)
