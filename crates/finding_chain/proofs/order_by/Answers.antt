-- `order_by` meets its contract: what is collected is sorted. Assumes nothing.
use Prim.Native.Nat.{◌≤◌}
use mathlib.Core.Path.{◌≡◌, ◌∙◌}
use native.Mathlib.Omega.{arith}
use lib.ListN.{length, take}
use lib.Seq.{length-take-le}
use Rattle.finding_chain.proofs.Ordering.{sorted-direct}
use Rattle.finding_chain.proofs.order_by.Goals as goal

pub returns : goal.returns
returns c =
    let call = c.collect-count in
    -- there is room for what is collected
    let room : call.result ≤ length call.new.out = omega (arith, call.ensures.few, call.auto.out, c.requires.table_in_bounds) in
    -- it is the front of the buffer
    let long : length (take call.result call.new.out) ≡ call.result = length-take-le call.result call.new.out room in
    sorted-direct call.ensures room c.sort.new.numbers c.sort.ensures (c.sort.auto.numbers ∙ long)
