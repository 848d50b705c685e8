-- `carry_over` meets its contract. Assumes nothing.
use mathlib.Core.Path.{sym, ◌∙◌}
use Rattle.match_columns.specs.Held.{columns_in}
use Rattle.carrying_few.proofs.OneCut.{over-full}
use Rattle.carrying_few.proofs.carry_over.Goals as goal

pub returns-in-Full : goal.returns-in-Full
returns-in-Full c =
    over-full (columns_in c.args.matches.now) c.args.m c.args.cut
    (sym c.spans.ensures.test ∙ c.if-not-spans.false) c.carry-image.ensures c.in-Full.ensures
