-- `take_step` meets its contract: what both lanes took is gathered, and what they took it from stands elsewhere and is
-- finished (Whole). Assumes nothing.
use mathlib.Core.Path.{◌∙◌}
use Rattle.match_columns.specs.Held.{columns_in}
use Rattle.taking.specs.Taking.{lane_to}
use Rattle.taking.proofs.Whole.{shelf-apart, halves-flip, step-taken, both-outside}
use Rattle.taking.proofs.take_step.Goals as goal

pub finish_sets-requires-clause-shelf : goal.finish_sets-requires-clause-shelf
finish_sets-requires-clause-shelf c =
    let able = c.requires.able in
    shelf-apart able.from_shelf (halves-flip able.halves) _ (both-outside c.in_ok-taken.ensures c.gather_sets.ensures)
    (c.gather_sets.auto.work ∙ c.take_both.auto.work)

pub returns : goal.returns
returns c =
    let a = c.args in
    let able = c.requires.able in
    step-taken
    (λ w. lane_to w (columns_in a.grouped.now.matches) a.grouped.now.groups.now
    a.grouped.now.count a.from_at a.to_at)
    able.from_shelf able.halves c.in_ok-taken.ensures c.gather_sets.ensures c.finish_sets.ensures c.finish_sets.auto.work
