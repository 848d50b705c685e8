-- `stands_before` meets its contract: what comparing tells, answer by answer. Assumes nothing.
use Rattle.std.proofs.Common.{◌≡◌, sym, Ordering, Less, Equal, Greater, is_lt}
use Rattle.rows.specs.declared.Row.{Row}
use Rattle.table.proofs.Pieces.{false_of}
use Rattle.sorted_pieces.specs.Order.{before, Compared}
use Rattle.sorted_pieces.proofs.Order.{before-not-same, before-not-after}
use Rattle.piece_windows.proofs.stands_before.Goals as goal

told : (r s : Row) (o : Ordering) → Compared r s o → is_lt o ≡ before r s
told r s Less first = sym first
told r s Equal alike = sym (false_of (before r s) (λ e. before-not-same r s e alike))
told r s Greater last = sym (false_of (before r s) (λ e. before-not-after r s e last))

pub returns : goal.returns
returns c = rw c.is_lt.ensures (told c.args.r c.args.s c.compare.result c.compare.ensures)
