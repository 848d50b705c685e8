-- The score and the link are written, and the part that is lent comes back with the row entered. Assumes nothing.
use Rattle.linking.proofs.Putting.{put}
use Rattle.linking.proofs.put_link.Goals as goal

pub returns : goal.returns
returns c =
    put c.requires c.row_count-rows.ensures c.enter.new.held c.enter.auto.held
    c.enter.ensures
