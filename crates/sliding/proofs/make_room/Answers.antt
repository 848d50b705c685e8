-- `sliding::make_room` meets its contract: where a place is free, the reserve is one at least. Assumes nothing.
use Rattle.sliding.proofs.Sliding.{room-none, room-made}
use borrow.Author.Rules.{rules}
use Rattle.sliding.proofs.make_room.Goals as goal

pub returns-then-end-hi : goal.returns-then-end-hi
returns-then-end-hi c =
    room-none c.bare_sets.ensures c.pack-end.ensures (search rules)

pub returns : goal.returns
returns c =
    room-made c.bare_sets.ensures c.pack-end.ensures c.spread.ensures (search rules)
