-- `find` meets its contract: the rows are arranged and linked, and the links written out. Assumes nothing.
use mathlib.Core.Path.{ap, ◌∙◌}
use native.Mathlib.Omega.{arith}
use lib.ListN.{replicate}
use Rattle.finding_chain.proofs.Finding.{links-lead, chain-found}
use Rattle.finding_chain.proofs.Linking.{linked-none, told}
use Rattle.finding_chain.proofs.find.Goals as goal

pub link_all-first-requires-clause-linked : goal.link_all-first-requires-clause-linked
link_all-first-requires-clause-linked c =
    let call = c.arrange-count in
    linked-none call.ensures (omega (arith, call.auto.work, c.requires.work_room))
    (omega (arith, call.auto.scores, c.requires.score_room))

pub write_chain-length-requires : goal.write_chain-length-requires
write_chain-length-requires c =
    links-lead (told c.requires.apart c.link_all-first.ensures) c.row_count-rows.ensures
    c.requires.chain_room

pub returns : goal.returns
returns c =
    let arranged = c.arrange-count in
    let linked = c.link_all-first in
    chain-found (told c.requires.apart linked.ensures) c.row_count-rows.ensures
    (record { score = c.points-score.result; length = c.write_chain-length.result }) c.requires.chain_room
    c.write_chain-length.ensures c.points-score.ensures
    (c.clear.ensures ∙ ap (λ n. replicate n 0) (linked.auto.work ∙ arranged.auto.work))
    (c.clear-2.ensures ∙ ap (λ n. replicate n 0) (linked.auto.scores ∙ arranged.auto.scores))
