-- `make_room` meets its contract: what is gathered is sorted, and where more pieces than asked for are left, the span
-- is cut at the next. Assumes nothing.
use native.Mathlib.Omega.{arith}
use borrow.Author.Rules.{rules}
use Rattle.piece_windows.proofs.Room.{room-enough, room_cut}
use Rattle.piece_windows.proofs.make_room.Goals as goal

pub returns-then-kept-at : goal.returns-then-kept-at
returns-then-kept-at c =
    room-enough c.sort-kept.ensures c.args.span (search rules) (omega arith)

pub returns : goal.returns
returns c =
    room_cut c.sort-kept.ensures c.args.span (search rules) (omega arith)
    c.requires.numbers_in_bounds.1 c.row_at.ensures
