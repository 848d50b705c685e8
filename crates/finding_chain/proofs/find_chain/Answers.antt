-- `find_chain` meets its contract: what is found with the front of the work buffer. Assumes nothing.
use Prim.Native.Nat.{◌*◌}
use Rattle.finding_chain.proofs.Finding.{front-found}
use Rattle.finding_chain.proofs.find_chain.Goals as goal

pub returns : goal.returns
returns c =
    front-found c.requires (4 * c.row_count-part.result) c.find.ensures
