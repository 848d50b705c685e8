-- `put_number` meets its contract: the four bytes are copied to their place. Assumes nothing.
use mathlib.Core.Path.{◌∙◌}
use native.Mathlib.Omega.{arith}
use Rattle.writer.proofs.Stored.{copied-stored}
use Rattle.writer.proofs.put_number.Goals as goal

pub returns : goal.returns
returns c =
    copied-stored c.args.out.now c.args.at c.requires (omega arith) (c.copy_from_slice.ensures.after ∙ c.to_le_bytes.ensures)
