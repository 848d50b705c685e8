-- `take_both` meets its contract: each kind of lane does, one after the other (Both). Assumes nothing.
use Rattle.std.proofs.lemmas.Result.{err_from_is_err_and}
use Rattle.match_columns.specs.Held.{columns_in}
use Rattle.tracks.specs.Groups.{lane_by, Takes, TakesNot}
use Rattle.carrying_lane.proofs.Lanes.{clear_later}
use Rattle.taking.specs.Taking.{lane_to}
use Rattle.taking.proofs.Both.{over-not, along-not, both-taken, along-as, lanes-named}
use Rattle.taking.proofs.Whole.{clear_of}
use Rattle.taking.proofs.take_both.Goals as goal

pub carry_lane-requires-2-clause-clear_book : goal.carry_lane-requires-2-clause-clear_book
carry_lane-requires-2-clause-clear_book c =
    let able = c.requires.able in
    clear_later (clear_of able.from_shelf able.gathered able.halves) c.carry_lane.new.work
    c.in_ok-over.ensures.grown.outside c.carry_lane.auto.work

pub returns-in_err-over : goal.returns-in_err-over
returns-in_err-over c =
    let a = c.args in
    let able = c.requires.able in
    let p = err_from_is_err_and c.from_residual.result c.from_residual.ensures.1 in
    rw p.1
    (over-not (λ w. lane_to w (columns_in a.grouped.now.matches) a.grouped.now.groups.now a.grouped.now.count a.from_at a.to_at) a.over a.along a.most
    (lanes-named a.grouped.now.matches.fit able.groups able.from_one able.to_one)
    (clear_of able.from_shelf able.gathered able.halves) able.shelf c.in_err-over.ensures)

pub returns-in_err-along : goal.returns-in_err-along
returns-in_err-along c =
    let a = c.args in
    let able = c.requires.able in
    let lent = c.along.ensures in
    let p = err_from_is_err_and c.from_residual-in_err-along.result c.from_residual-in_err-along.ensures.1 in
    rw p.1
    (along-not (λ w. lane_to w (columns_in a.grouped.now.matches) a.grouped.now.groups.now a.grouped.now.count a.from_at a.to_at) a.over a.along a.most
    (lanes-named a.grouped.now.matches.fit able.groups able.from_one able.to_one)
    (clear_of able.from_shelf able.gathered able.halves) able.shelf c.in_ok-over.ensures c.carry_lane.auto.work
    (along-as (λ z k.
    TakesNot (lane_by z a.grouped.now.groups.now a.grouped.now.count a.to_at a.to_at) k a.from_book.now a.grouped.now.sets a.lo a.hi c.carry_lane.new.work
    c.carry_lane.new.book a.along a.most)
    a.grouped.now.matches c.along.result a.grouped.now.straight_is lent.lefts lent.rights lent.other_lefts lent.other_rights
    lent.reversed c.in_err-along.ensures))

pub returns : goal.returns
returns c =
    let a = c.args in
    let able = c.requires.able in
    let lent = c.along.ensures in
    both-taken (λ w. lane_to w (columns_in a.grouped.now.matches) a.grouped.now.groups.now a.grouped.now.count a.from_at a.to_at) a.over a.along a.most
    (lanes-named a.grouped.now.matches.fit able.groups able.from_one able.to_one)
    (clear_of able.from_shelf able.gathered able.halves) able.shelf c.in_ok-over.ensures c.carry_lane.auto.work
    (along-as (λ z k.
    Takes (lane_by z a.grouped.now.groups.now a.grouped.now.count a.to_at a.to_at) k a.from_book.now a.grouped.now.sets a.lo a.hi c.carry_lane.new.work
    c.carry_lane.new.book a.along a.most c.carry_lane-2.new.work c.carry_lane-2.new.book c.in_ok-along.along)
    a.grouped.now.matches c.along.result a.grouped.now.straight_is lent.lefts lent.rights lent.other_lefts lent.other_rights
    lent.reversed c.in_ok-along.ensures)
