-- `link_row` meets its contract: what is found for the next row is written. Assumes nothing.
use native.Mathlib.Omega.{arith}
use Rattle.linking.proofs.Linked.{direct, first-scored, puttable, linked-more}
use Rattle.linking.proofs.link_row.Goals as goal

pub put_link-requires : goal.put_link-requires
put_link-requires c =
    puttable c.requires.apart c.requires.linked c.requires.t_lt_count c.find_link-step.ensures c.requires.price_bound

pub foremost-requires-clause-first_in_bounds : goal.foremost-requires-clause-first_in_bounds
foremost-requires-clause-first_in_bounds c =
    let size = c.put_link.auto.scores in
    let begun = first-scored c.requires.apart c.requires.linked c.requires.t_lt_count c.find_link-step.ensures in
    omega (arith, size, begun)

pub foremost-requires-clause-le_number : goal.foremost-requires-clause-le_number
foremost-requires-clause-le_number c =
    let size = c.put_link.auto.scores in
    let row = direct c.requires.apart c.requires.linked c.requires.t_lt_count c.find_link-step.ensures in
    (row.from_one, omega (arith, size, row.to_last, c.requires.linked.score_room))

pub returns : goal.returns
returns c =
    rw c.foremost.ensures
    (linked-more c.requires.apart c.requires.linked c.requires.t_lt_count c.find_link-step.ensures c.put_link.ensures)
