-- `rows_before` meets its contract: the rows before k are before the match's, and the rest is counted from k on.
-- Assumes nothing.
use mathlib.Core.Bool.{not}
use mathlib.Core.Path.{ap}
use native.Mathlib.Omega.{arith}
use borrow.Author.Tests.{eq-eqb, ne_eqb}
use Rattle.table.proofs.Runs.{leading-more, leading-stop, leading-none}
use Rattle.rows.specs.Rows.{rows_of}
use Rattle.table.specs.Finding.{has_other}
use Rattle.match_rows.proofs.rows_before.Goals as goal

pub returns-then-row_at-number : goal.returns-then-row_at-number
returns-then-row_at-number c =
    let at = c.args in
    let rs = rows_of at.table.now in
    let stop = ap not (eq-eqb c.row_at.result.number at.number c.if-row_at-number.true) in
    omega (arith, leading-stop (has_other at.number) rs c.loop-k.k (omega arith) c.row_at.ensures stop)

pub loop-k-preserved : goal.loop-k-preserved
loop-k-preserved c =
    let at = c.args in
    let more = ap not (ne_eqb c.row_at.result.number at.number c.if-row_at-number.false) in
    omega (arith, leading-more (has_other at.number) (rows_of at.table.now) c.loop-k.k (omega arith) c.row_at.ensures more)

pub returns : goal.returns
returns c =
    omega (arith, leading-none (has_other c.args.number) (rows_of c.args.table.now) c.loop-k.k (omega arith))
