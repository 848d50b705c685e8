-- `find_match` meets its contract: a refused script is refused, and in another the match is looked for. The demand
-- follows from the equation. Assumes nothing.
use Rattle.std.proofs.Common.{◌≡◌}
use Rattle.std.proofs.lemmas.Result.{err_from_is_err_and}
use Rattle.script.specs.Reading.{read_script}
use Rattle.script.specs.Finding.{finding_of}
use Rattle.script.proofs.Holding.{reading-refused}
use Rattle.script.proofs.Demands.{finding-demand}
use Rattle.reader.proofs.find.find_match.Goals as goal

pub returns-in_err-admitted : goal.returns-in_err-admitted
returns-in_err-admitted c =
    let p = err_from_is_err_and c.from_residual.result c.from_residual.ensures.1 in
    let read = reading-refused _ c.read.ensures.value c.in_err-admitted.was in
    let is : c.from_residual.result ≡ finding_of (read_script c.args.script.now) c.args.number = rw (p.1, p.2, read) in
    record { value = is; finding_demand = finding-demand _ _ is }

pub returns-clause-finding_demand : goal.returns-clause-finding_demand
returns-clause-finding_demand c = finding-demand _ _ c.find_in.ensures
