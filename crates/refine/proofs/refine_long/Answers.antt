-- `refine_long` meets its contract: the columns have room for what its bytes have room for, or for any script's matches
-- and marks. Assumes nothing.
use Rattle.script.proofs.Holding.{matches-few, marks-few}
use Rattle.refine.proofs.Calls.{short-matches}
use Rattle.refine.proofs.refine_long.Goals as goal

pub refine_sized-requires-clause-matches : goal.refine_sized-requires-clause-matches
refine_sized-requires-clause-matches c = short-matches 256 c.args.script.now c.if-script-le-MEDIUM_SCRIPT.true

pub refine_sized-requires-clause-marks : goal.refine_sized-requires-clause-marks
refine_sized-requires-clause-marks c = (marks-few c.args.script.now).1

pub refine_sized-requires-else-script-le-MEDIUM_SCRIPT-clause-matches :
    goal.refine_sized-requires-else-script-le-MEDIUM_SCRIPT-clause-matches
refine_sized-requires-else-script-le-MEDIUM_SCRIPT-clause-matches c = (matches-few c.args.script.now).1

pub refine_sized-requires-else-script-le-MEDIUM_SCRIPT-clause-marks :
    goal.refine_sized-requires-else-script-le-MEDIUM_SCRIPT-clause-marks
refine_sized-requires-else-script-le-MEDIUM_SCRIPT-clause-marks c = (marks-few c.args.script.now).1
