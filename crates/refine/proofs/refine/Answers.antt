-- `refine` meets its contract: columns with room for the matches are made, by the script's length. The demands follow
-- from the three equations. Assumes nothing.
use native.Mathlib.Omega.{arith}
use Rattle.refine.proofs.Calls.{refining-met, short-matches, short-marks}
use Rattle.refine.proofs.refine.Goals as goal

pub refine_sized-requires-clause-matches : goal.refine_sized-requires-clause-matches
refine_sized-requires-clause-matches c = short-matches 32 c.args.script.now c.if-script-le-SHORT_SCRIPT.true

pub refine_sized-requires-clause-marks : goal.refine_sized-requires-clause-marks
refine_sized-requires-clause-marks c = short-marks 32 71 c.args.script.now c.if-script-le-SHORT_SCRIPT.true (omega arith)

pub returns-else-script-le-SHORT_SCRIPT : goal.returns-else-script-le-SHORT_SCRIPT
returns-else-script-le-SHORT_SCRIPT c =
    let m = refining-met c.refine_long.ensures in
    record {
      reply = m.0;
      table = m.1.0;
      work = m.1.1.0;
      demand1 = m.1.1.1.0;
      demand2 = m.1.1.1.1.0;
      demand3 = m.1.1.1.1.1;
    }

pub returns-then-script-le-SHORT_SCRIPT : goal.returns-then-script-le-SHORT_SCRIPT
returns-then-script-le-SHORT_SCRIPT c =
    let m = refining-met c.refine_sized.ensures in
    record {
      reply = m.0;
      table = m.1.0;
      work = m.1.1.0;
      demand1 = m.1.1.1.0;
      demand2 = m.1.1.1.1.0;
      demand3 = m.1.1.1.1.1;
    }
