-- `noting::note` meets its contract: the store is `noted_one`. Assumes nothing.
use Rattle.noting.proofs.Noting.{noted_one}
use Rattle.noting.proofs.note.Goals as goal

pub returns : goal.returns
returns c =
    rw c.with_bit.ensures (noted_one c.requires c.slot_of-slot.ensures)
