-- `carry_lane` meets its contract: one group more (Going), or no room for one. Assumes nothing.
use borrow.Author.Rules.{rules}
use Rattle.std.proofs.lemmas.Result.{err_from_is_err_and}
use Rattle.carrying_lane.proofs.Lanes.{made-ready, going-ready, going-ends, going_step, going-not, going_end}
use Rattle.carrying_lane.proofs.carry_lane.Goals as goal

pub carry_part-requires-clause-ready : goal.carry_part-requires-clause-ready
carry_part-requires-clause-ready c =
    going-ready
    (made-ready c.args.matches.now.fit c.requires.reversed_len_bound c.requires.usable_parts c.requires.groups
    c.requires.clear_book c.requires.shelf c.requires.one_of_two c.requires.one_of_two_2)
    c.loop-g.invariant

pub carry_part-requires-clause-ends_kept : goal.carry_part-requires-clause-ends_kept
carry_part-requires-clause-ends_kept c =
    let ready = made-ready c.args.matches.now.fit c.requires.reversed_len_bound c.requires.usable_parts c.requires.groups
    c.requires.clear_book c.requires.shelf c.requires.one_of_two c.requires.one_of_two_2 in
    λ e. going-ends ready c.loop-g.invariant (c.requires.ends_kept e)

pub returns-in_err-total : goal.returns-in_err-total
returns-in_err-total c =
    let p = err_from_is_err_and c.from_residual.result c.from_residual.ensures.1 in
    rw p.1 (going-not
    (made-ready c.args.matches.now.fit c.requires.reversed_len_bound c.requires.usable_parts c.requires.groups
    c.requires.clear_book c.requires.shelf c.requires.one_of_two c.requires.one_of_two_2)
    c.loop-g.invariant c.loop-g-test.true c.in_err-total.ensures)

pub loop-g-preserved : goal.loop-g-preserved
loop-g-preserved c = going_step
    (made-ready c.args.matches.now.fit c.requires.reversed_len_bound c.requires.usable_parts c.requires.groups
    c.requires.clear_book c.requires.shelf c.requires.one_of_two c.requires.one_of_two_2)
    c.loop-g.invariant c.loop-g-test.true (search rules) c.in_ok-total.ensures

pub returns : goal.returns
returns c = going_end
    (made-ready c.args.matches.now.fit c.requires.reversed_len_bound c.requires.usable_parts c.requires.groups
    c.requires.clear_book c.requires.shelf c.requires.one_of_two c.requires.one_of_two_2)
    c.loop-g.invariant (search rules)
