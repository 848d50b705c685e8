-- `put_lines` meets its contract: the lines of each sentence behind those before. Assumes nothing.
use Rattle.text.proofs.Stores.{put_then}
use Rattle.edge_lines.proofs.put_lines.Goals as goal

pub returns-clause-put : goal.returns-clause-put
returns-clause-put c =
    put_then
    (put_then
    (put_then c.put_work_lines-work.ensures.put c.put_touching_lines-touching.ensures.put)
    c.put_long_lines-long.ensures.put)
    c.put_many_lines.ensures.put
