-- The five stores of a piece write its row. The end that is carried lies on the match. Assumes nothing.
use Rattle.std.proofs.Common.{◌≡◌, cond}
use Rattle.writing_rows.proofs.Placing.{five-stores}
use Rattle.writing_rows.proofs.write_piece.Goals as goal
use Rattle.writing_rows.proofs.write_piece.Goals.{then-reversed, else-reversed}

pub returns : goal.returns
returns c =
    let a = c.args in
    let low : c.if-reversed.low ≡ cond a.reversed a.y a.x = elim c.if-reversed.branch [
      | then-reversed w ↦ rw w.if-reversed.true w.low-is
      | else-reversed w ↦ rw w.if-reversed.false w.low-is
    ] in
    five-stores a.table.now a.at a.number a.reversed c.requires.stretch low c.carry-image.ensures c.from.ensures
