-- `read` meets its contract: the first command decides, or opens the loop. The demand follows from the equation.
-- Assumes nothing.
use Rattle.std.proofs.Common.{◌≡◌}
use Rattle.std.proofs.lemmas.Result.{err_from_is_err_and}
use Rattle.script.specs.Reading.{read_script, verdict_of}
use Rattle.script.proofs.Demands.{reading-demand}
use Rattle.reader.proofs.Progress.{opens-script, refuses-script}
use Rattle.reader.proofs.read.Goals as goal

pub returns-in_err-p : goal.returns-in_err-p
returns-in_err-p c =
    let p = err_from_is_err_and c.from_residual.result c.from_residual.ensures.1 in
    let read = refuses-script c.args.script.now c.read_command.ensures c.judge_opening.ensures c.in_err-p.was in
    let is : c.from_residual.result ≡ verdict_of (read_script c.args.script.now) = rw (p.1, p.2, read) in
    record { value = is; reading_demand = reading-demand _ is }

pub read_commands-requires : goal.read_commands-requires
read_commands-requires c = opens-script _ c.read_command.ensures c.judge_opening.ensures c.in_ok-p.was

pub returns-clause-reading_demand : goal.returns-clause-reading_demand
returns-clause-reading_demand c = reading-demand _ c.read_commands.ensures
