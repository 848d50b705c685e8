-- The ends are sorted, the stretches united, and where too many are left the window is cut.
-- Assumes nothing.
use borrow.Author.Rules.{rules}
use native.Mathlib.Omega.{arith}
use Rattle.stretches.proofs.Room.{stored-nested, sorted-pairs, sorted-stored, sorted-roomier}
use Rattle.stretches.proofs.Room.{room-enough, room_cut}
use Rattle.stretches.proofs.make_room.Goals as goal

pub unite-kept-requires-clause-paired : goal.unite-kept-requires-clause-paired
unite-kept-requires-clause-paired c =
    let nested = stored-nested c.requires.from_lt_to.1 c.requires.rooms.as_many in
    sorted-pairs nested c.sort.ensures c.sort-2.ensures (search rules) (search rules)

pub returns-then-kept-most : goal.returns-then-kept-most
returns-then-kept-most c =
    let stored = sorted-stored c.requires.from_lt_to.1 c.sort.ensures c.sort-2.ensures in
    sorted-roomier c.requires.from_lt_to.1 c.sort.ensures c.sort-2.ensures (search rules)
    (room-enough stored c.unite-kept.ensures (search rules) (search rules)
    (omega (arith, c.requires.rooms.some, c.sort.auto.numbers, c.unite-kept.auto.lows)) c.requires.from_lt_to.0)

pub returns-else-kept-most : goal.returns-else-kept-most
returns-else-kept-most c =
    let stored = sorted-stored c.requires.from_lt_to.1 c.sort.ensures c.sort-2.ensures in
    sorted-roomier c.requires.from_lt_to.1 c.sort.ensures c.sort-2.ensures (search rules)
    (rw c.min.ensures
    (room_cut stored c.unite-kept.ensures (search rules) (search rules) _
    (omega (arith, c.requires.rooms.some, c.sort.auto.numbers, c.unite-kept.auto.lows)) (omega arith)
    (omega (arith, c.requires.rooms.some, c.sort.auto.numbers, c.unite-kept.auto.lows)) c.requires.from_lt_to.0))
