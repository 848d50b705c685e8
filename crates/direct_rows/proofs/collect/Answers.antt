-- A row that is direct is collected, and another passed over. Assumes nothing.
use borrow.Author.Rules.{rules}
use Rattle.std.proofs.Common.{arith}
use Rattle.std.proofs.lemmas.Grind.{common_steps}
use Rattle.direct_rows.proofs.Collecting.{collected-none, collected-more, all-collected}
use Rattle.direct_rows.proofs.collect.Goals as goal

pub loop-k-preserved : goal.loop-k-preserved
loop-k-preserved c =
    let inv = c.loop-k.invariant in
    let more = collected-more inv.1 inv.0 in
    let none = collected-none inv.1 inv.0 in
    (inv.0, grind (arith, common_steps, c.row_at.ensures, more, none))

pub returns : goal.returns
returns c =
    all-collected c.loop-k.invariant.1 c.loop-k.invariant.0 (search rules)
