-- `put_many_lines` meets its contract: each buffer holds its script, and one line is put behind the other.
-- Assumes nothing.
use mathlib.Core.Path.{ap}
use Rattle.text.specs.Decimal.{places_within}
use Rattle.text.proofs.Stores.{put_then, put_same}
use Rattle.edge_answers.specs.Lines.{entry, read_line}
use Rattle.edge_lines.specs.AllLines.{matches_word}
use Rattle.edge_lines.proofs.put_many_lines.Goals as goal

pub returns-clause-put : goal.returns-clause-put
unfolding places_within
returns-clause-put c =
    put_then
    (put_same (ap (read_line (entry matches_word 2048)) c.put_many.ensures) c.put_read-next.ensures.put)
    (put_same (ap (read_line (entry matches_word 2049)) c.put_many-2.ensures) c.put_read.ensures.put)
