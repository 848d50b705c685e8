-- `cut_set_doors::write_set` meets its contract: eight stores one after the other. Assumes nothing.
use Rattle.cut_set_doors.proofs.Written.{written}
use Rattle.cut_set_doors.proofs.write_set.Goals as goal

pub returns : goal.returns
returns c =
    written c.args.ends.now c.requires c.args.s
