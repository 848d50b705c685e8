-- `close_lent` meets its contract: the closure of the two tracks is the first edition's. Assumes nothing.
use Rattle.std.proofs.lemmas.Result.{err_from_is_err_and}
use Rattle.closing_two.proofs.TwoTracks.{lent-crowded, lent-cuts}
use Rattle.closing_two.proofs.close_lent.Goals as goal

pub returns-in_err-close : goal.returns-in_err-close
returns-in_err-close c =
    let p = err_from_is_err_and c.from_residual.result c.from_residual.ensures.1 in
    rw p.1 (lent-crowded _ _ _ _ _ _ c.requires.groups_value c.close.ensures c.in_err-close.was)

pub returns : goal.returns
returns c = lent-cuts _ _ _ _ _ _ c.requires.groups_value c.close.ensures c.in_ok-close.was c.load.ensures
