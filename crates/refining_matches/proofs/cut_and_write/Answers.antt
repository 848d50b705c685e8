-- `cut_and_write` meets its contract: the closure's set holds all cuts of A, and the rows between them are the least
-- table. Assumes nothing.
use Rattle.refining_matches.proofs.Tabling.{cuts-writable, rows-tabled}
use Rattle.refining_matches.proofs.cut_and_write.Goals as goal

pub write_rows-requires : goal.write_rows-requires
write_rows-requires c =
    cuts-writable c.args.matches.now.fit _ c.args.table.now c.in-Ok.is c.join-cuts.ensures c.all_places-run.ensures
    c.close_two.ensures c.requires.reversed_len_bound

pub returns-in-Ok : goal.returns-in-Ok
returns-in-Ok c =
    rows-tabled c.args.matches.now.fit _ c.args.table.now c.in-Ok.is c.join-cuts.ensures c.all_places-run.ensures
    c.close_two.ensures c.write_rows.ensures
