-- `run_end` meets its contract: counted from k on, the run ends where it does from the start. Assumes nothing.
use native.Mathlib.Omega.{arith}
use borrow.Author.Tests.{eq-eqb, ne_eqb}
use Rattle.table.proofs.Runs.{leading-more, leading-stop, leading-none}
use Rattle.rows.specs.Rows.{rows_of}
use Rattle.table.specs.Finding.{has_number}
use Rattle.match_rows.proofs.run_end.Goals as goal

pub returns-then-row_at-number : goal.returns-then-row_at-number
returns-then-row_at-number c =
    let at = c.args in
    let rs = rows_of at.table.now in
    let stop = ne_eqb c.row_at.result.number at.number c.if-row_at-number.true in
    omega (arith, leading-stop (has_number at.number) rs c.loop-k.k (omega arith) c.row_at.ensures stop)

pub loop-k-preserved : goal.loop-k-preserved
loop-k-preserved c =
    let at = c.args in
    let more = eq-eqb c.row_at.result.number at.number c.if-row_at-number.false in
    omega (arith, leading-more (has_number at.number) (rows_of at.table.now) c.loop-k.k (omega arith) c.row_at.ensures more)

pub returns : goal.returns
returns c =
    omega (arith, leading-none (has_number c.args.number) (rows_of c.args.table.now) c.loop-k.k (omega arith))
