-- The proof of the cycle of calls {a_step, b_step}. Each one's measure is the number of unused places, by the books and
-- the capacity that it is given. Assumes nothing.
use Rattle.tracks.specs.Engine.{books_of, unused}
use Rattle.stepping.proofs.+a_step_b_step.Given as goal

abbrev pub decreases-a_step : goal.decreases-a_step
decreases-a_step l = unused (books_of l.book_a.now l.book_b.now) l.grouped.now.sets l.capacity

abbrev pub decreases-b_step : goal.decreases-b_step
decreases-b_step l = unused (books_of l.book_a.now l.book_b.now) l.grouped.now.sets l.capacity
