-- `enroll` meets its contract: the piece is stored already, or stored at the first free slot from its home on.
-- Assumes nothing.
use Rattle.std.proofs.Common.{◌≡◌, ◌/◌, ◌^◌}
use Rattle.distinct_store.specs.Store.{home_of}
use Rattle.distinct_store.proofs.Slots.{enrolled-known, enrolled-fresh}
use Rattle.distinct_store.proofs.enroll.Goals as goal

pub returns-in-Known : goal.returns-in-Known
returns-in-Known c =
    enrolled-known c.requires.kept c.requires.k_in_bounds.0 c.requires.row_value.0 (rw c.in-Known.is at c.in_ok-left.ensures)

pub returns-in-Free : goal.returns-in-Free
returns-in-Free c =
    let home : c.product-home.result / 2 ^ 32 ≡ home_of c.args.by c.args.row = cc in
    enrolled-fresh c.requires.kept c.requires.k_in_bounds.0 c.requires.row_value.0 home (rw c.in-Free.is at c.in_ok-left.ensures)
