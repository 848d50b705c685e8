-- `cut_set::append` meets its contract: the store is `appended`. Assumes nothing.
use Rattle.cut_set.proofs.Storing.{appended}
use Rattle.cut_set.proofs.append.Goals as goal

pub returns : goal.returns
returns c =
    appended _ c.requires.good c.requires.room_for_one
