-- `arrange` meets its contract: the parts of the work buffer are lent one by one. Assumes nothing.
use Prim.Native.Nat.{◌*◌, ◌≤◌}
use mathlib.Core.Path.{◌∙◌}
use native.Mathlib.Omega.{arith}
use lib.ListN.{length}
use Rattle.finding_chain.proofs.Beginning.{begun}
use Rattle.finding_chain.proofs.Ordering.{direct-placeable}
use Rattle.finding_chain.proofs.Parts.{places-room}
use Rattle.finding_chain.proofs.arrange.Goals as goal

pub place_all-requires : goal.place_all-requires
place_all-requires c =
    let n = c.row_count-rows.result in
    let call = c.order_by-count in
    -- there is room for four parts
    let room : 4 * n ≤ length c.args.work.now = omega (arith, c.requires.table_in_bounds, c.row_count-rows.ensures) in
    -- what is ordered by B is the front of the score buffer
    let fits : call.result ≤ length call.new.numbers =
    omega (arith, call.ensures.few, call.auto.numbers, c.requires.table_in_bounds_2) in
    direct-placeable call.ensures
    (places-room n c.args.work.now room call.new.spare call.auto.spare ∙ c.row_count-rows.ensures)
    c.requires.table_len_bound fits

pub returns : goal.returns
returns c =
    let n = c.row_count-rows.result in
    let one = c.order_by-count in
    let two = c.place_all in
    let three = c.order_by in
    let room : 4 * n ≤ length c.args.work.now = omega (arith, c.requires.table_in_bounds, c.row_count-rows.ensures) in
    begun c.row_count-rows.ensures room c.requires.work_value one.new.spare one.auto.spare two.auto.places
    three.auto.numbers one.ensures two.ensures three.ensures
