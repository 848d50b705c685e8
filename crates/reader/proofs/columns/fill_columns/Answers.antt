-- `fill_columns` meets its contract. The loop keeps `Filling`: good commands alone stand before `at`, and the columns
-- hold what they said. Assumes nothing.
use native.Mathlib.Omega.{arith}
use Rattle.reader.proofs.Progress.{inside, small}
use Rattle.reader.proofs.Filled.{filling-start, filling-taken, filling-kept, filling-ends}
use Rattle.reader.proofs.Walks.{next-asks}
use Rattle.reader.proofs.columns.fill_columns.Goals as goal

pub loop-found-init : goal.loop-found-init
loop-found-init c = filling-start c.requires

pub next_at-requires : goal.next_at-requires
next_at-requires c =
    let asks = next-asks c.loop-found.invariant.admits c.loop-found.invariant.progress in
    record {
      at_in_bounds = asks.0;
      mark_width_in_bounds = asks.1.0;
      match_width_in_bounds = asks.1.1;
    }

pub returns-in-Finish : goal.returns-in-Finish
returns-in-Finish c =
    let ends = filling-ends c.loop-found.invariant c.next_at.ensures c.in-Finish.is in
    record { columns = ends.0; marks = ends.1 }

pub overflow_add-count : goal.overflow_add-count
overflow_add-count c =
    omega (arith, small (filling-taken c.loop-found.invariant c.next_at.ensures c.in-Take.is c.put_match.ensures).progress)

pub loop-found-smaller-in-Take : goal.loop-found-smaller-in-Take
loop-found-smaller-in-Take c =
    omega (arith, inside (filling-taken c.loop-found.invariant c.next_at.ensures c.in-Take.is c.put_match.ensures).progress)

pub loop-found-preserved-in-Take : goal.loop-found-preserved-in-Take
loop-found-preserved-in-Take c =
    filling-taken c.loop-found.invariant c.next_at.ensures c.in-Take.is c.put_match.ensures

pub overflow_add-marks : goal.overflow_add-marks
overflow_add-marks c =
    omega (arith, small (filling-kept c.loop-found.invariant c.next_at.ensures c.in-Keep.is c.put_mark.ensures).progress)

pub loop-found-preserved : goal.loop-found-preserved
loop-found-preserved c =
    filling-kept c.loop-found.invariant c.next_at.ensures c.in-Keep.is c.put_mark.ensures
