-- `walk_to` meets its contract. The loop keeps `Seeking`: good commands alone stand before `at`, and fewer matches than
-- the number. Assumes nothing.
use native.Mathlib.Omega.{arith}
use Rattle.reader.proofs.Progress.{inside}
use Rattle.reader.proofs.Walks.{next-asks}
use Rattle.reader.proofs.Finds.{seeking-start, seeking-taken, seeking-kept, sought, not-ended}
use Rattle.reader.proofs.find.walk_to.Goals as goal

pub loop-found-init : goal.loop-found-init
loop-found-init c = seeking-start c.requires.admits c.requires.number_nonzero.0

pub next_at-requires : goal.next_at-requires
next_at-requires c =
    let asks = next-asks c.loop-found.invariant.admits c.loop-found.invariant.progress in
    record {
      at_in_bounds = asks.0;
      mark_width_in_bounds = asks.1.0;
      match_width_in_bounds = asks.1.1;
    }

pub unreachable-requires : goal.unreachable-requires
unreachable-requires c =
    not-ended c.loop-found.invariant c.next_at.ensures c.in-Finish.is c.requires.number_nonzero.1

pub returns-then-count-number : goal.returns-then-count-number
returns-then-count-number c =
    sought c.loop-found.invariant c.next_at.ensures c.in-Take.is c.if-count-number.true

pub loop-found-smaller-in-Take : goal.loop-found-smaller-in-Take
loop-found-smaller-in-Take c =
    omega (arith, inside (seeking-taken c.loop-found.invariant c.next_at.ensures c.in-Take.is c.if-count-number.false).progress)

pub loop-found-preserved-in-Take : goal.loop-found-preserved-in-Take
loop-found-preserved-in-Take c =
    seeking-taken c.loop-found.invariant c.next_at.ensures c.in-Take.is c.if-count-number.false

pub loop-found-preserved : goal.loop-found-preserved
loop-found-preserved c = seeking-kept c.loop-found.invariant c.next_at.ensures c.in-Keep.is
