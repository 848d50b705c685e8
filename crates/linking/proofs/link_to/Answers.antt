-- The link is made if the price is below the score, and then the sum fits. Assumes nothing.
use mathlib.Core.Path.{sym, ◌∙◌}
use borrow.Author.Rules.{rules}
use borrow.Author.Tests.{ltb-true, ltb-false}
use Rattle.linking.proofs.Costs.{made_none, made-lost, made-gained}
use Rattle.linking.proofs.link_to.Goals as goal

pub returns-then-next-eq0 : goal.returns-then-next-eq0
returns-then-next-eq0 c =
    made_none _ _ _ _ _ c.row_at-row.ensures c.if-next-eq0.true

pub returns-then-gains : goal.returns-then-gains
returns-then-gains c =
    made-gained _ _ _ _ _ c.row_at-row.ensures c.row_at-other.ensures c.link_cost-cost.ensures.value (search rules)
    (ltb-true _ _ (sym c.gains.ensures ∙ c.if-gains.true))

pub returns-else-gains : goal.returns-else-gains
returns-else-gains c =
    made-lost _ _ _ _ _ c.row_at-row.ensures c.row_at-other.ensures c.link_cost-cost.ensures.value (search rules)
    (ltb-false _ _ (sym c.gains.ensures ∙ c.if-gains.false))
