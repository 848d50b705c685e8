-- `put_lists` meets its contract. The loop keeps `Listing`: good commands alone stand before `at`, and the buffers hold
-- what they said. The measure is what is left of the script. Assumes nothing.
use native.Mathlib.Omega.{arith}
use Rattle.reader.proofs.Progress.{inside, small}
use Rattle.reader.proofs.Walks.{next-asks}
use Rattle.record_reader.proofs.Listed.{listing_start, listing-taken, listing-kept, listing-ends}
use Rattle.record_reader.proofs.Listed.{record-room, mark-room}
use Rattle.record_reader.proofs.put_lists.Goals as goal

pub loop-found-init : goal.loop-found-init
loop-found-init c =
    listing_start c.requires.admits

pub next_at-requires-clause-at_in_bounds : goal.next_at-requires-clause-at_in_bounds
next_at-requires-clause-at_in_bounds c =
    (next-asks c.loop-found.invariant.admits c.loop-found.invariant.progress).0

pub next_at-requires-clause-mark_width_in_bounds : goal.next_at-requires-clause-mark_width_in_bounds
next_at-requires-clause-mark_width_in_bounds c =
    (next-asks c.loop-found.invariant.admits c.loop-found.invariant.progress).1.0

pub next_at-requires-clause-match_width_in_bounds : goal.next_at-requires-clause-match_width_in_bounds
next_at-requires-clause-match_width_in_bounds c =
    (next-asks c.loop-found.invariant.admits c.loop-found.invariant.progress).1.1

pub returns-in-Finish-clause-records : goal.returns-in-Finish-clause-records
returns-in-Finish-clause-records c =
    (listing-ends c.loop-found.invariant c.next_at.ensures c.in-Finish.is).0

pub returns-in-Finish-clause-marks : goal.returns-in-Finish-clause-marks
returns-in-Finish-clause-marks c =
    (listing-ends c.loop-found.invariant c.next_at.ensures c.in-Finish.is).1

pub put_record-requires : goal.put_record-requires
put_record-requires c =
    record-room c.loop-found.invariant c.next_at.ensures c.in-Take.is c.requires.script_in_bounds

pub overflow_add-count : goal.overflow_add-count
overflow_add-count c =
    omega (arith, small (listing-taken c.loop-found.invariant c.next_at.ensures c.in-Take.is c.put_record.ensures).progress)

pub loop-found-smaller-in-Take : goal.loop-found-smaller-in-Take
loop-found-smaller-in-Take c =
    omega (arith, inside (listing-taken c.loop-found.invariant c.next_at.ensures c.in-Take.is c.put_record.ensures).progress)

pub loop-found-preserved-in-Take : goal.loop-found-preserved-in-Take
loop-found-preserved-in-Take c =
    listing-taken c.loop-found.invariant c.next_at.ensures c.in-Take.is c.put_record.ensures

pub put_mark-requires : goal.put_mark-requires
put_mark-requires c =
    mark-room c.loop-found.invariant c.next_at.ensures c.in-Keep.is c.requires.script_in_bounds_2

pub overflow_add-marked : goal.overflow_add-marked
overflow_add-marked c =
    omega (arith, small (listing-kept c.loop-found.invariant c.next_at.ensures c.in-Keep.is c.put_mark.ensures).progress)

pub loop-found-preserved : goal.loop-found-preserved
loop-found-preserved c =
    listing-kept c.loop-found.invariant c.next_at.ensures c.in-Keep.is c.put_mark.ensures
