-- `find_link` meets its contract: the row's number and place are read, and the best row behind the place is the best
-- that may follow. Assumes nothing.
use native.Mathlib.Omega.{arith}
use Rattle.linking.proofs.Finding.{number-named, behind-asked, found-extendable, found}
use Rattle.linking.proofs.find_link.Goals as goal

pub bounds-work-rows : goal.bounds-work-rows
bounds-work-rows c =
    let r = c.requires in
    -- the row that is read is one of them
    let named = number-named r.apart r.price_bound r.ready c.row_count-rows.ensures in
    omega (arith, named, c.row_count-rows.ensures, r.ready.linked.work_room)

pub best_behind-next-requires-clause-place_lt_count : goal.best_behind-next-requires-clause-place_lt_count
best_behind-next-requires-clause-place_lt_count c =
    (behind-asked c.requires.apart c.requires.price_bound c.requires.ready c.row_count-rows.ensures).1.1.1

pub link_to-made-requires : goal.link_to-made-requires
link_to-made-requires c =
    found-extendable c.requires.apart c.requires.price_bound c.requires.ready c.row_count-rows.ensures
    c.best_behind-next.ensures

pub returns : goal.returns
returns c =
    found c.requires.apart c.requires.price_bound c.requires.ready c.row_count-rows.ensures
    c.best_behind-next.ensures c.link_to-made.ensures
