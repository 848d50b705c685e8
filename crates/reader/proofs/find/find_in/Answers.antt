-- `find_in` meets its contract: by the number, and by whether there is a mark. Assumes nothing.
use Rattle.reader.proofs.Finds.{zero-finding, above-finding, found-finding, placed-inside, placed-match}
use Rattle.reader.proofs.find.find_in.Goals as goal
use Rattle.reader.proofs.find.find_in.Goals.{then-number-eq0-via-then-number-eq0}
use Rattle.reader.proofs.find.find_in.Goals.{then-number-eq0-via-else-number-eq0+then-admitted-number}

pub returns-then-number-eq0 : goal.returns-then-number-eq0
returns-then-number-eq0 c =
    elim c.then-number-eq0.branch [
      | then-number-eq0-via-then-number-eq0 w ↦
          zero-finding c.args.script.now c.requires c.args.number w.if-number-eq0.true
      | then-number-eq0-via-else-number-eq0+then-admitted-number w ↦
          above-finding c.args.script.now c.requires c.args.number w.if-admitted-number.true
    ]

pub match_at-requires : goal.match_at-requires
match_at-requires c =
    placed-inside c.args.script.now c.requires c.args.number c.if-admitted-eq0.true c.if-number-eq0.false
    c.if-admitted-number.false

pub returns-then-admitted-eq0 : goal.returns-then-admitted-eq0
returns-then-admitted-eq0 c =
    found-finding c.args.script.now c.requires c.args.number c.if-number-eq0.false c.if-admitted-number.false
    (placed-match c.args.script.now c.requires c.args.number c.if-admitted-eq0.true c.if-number-eq0.false
    c.if-admitted-number.false c.match_at.ensures)

pub returns-else-admitted-eq0 : goal.returns-else-admitted-eq0
returns-else-admitted-eq0 c =
    found-finding c.args.script.now c.requires c.args.number c.if-number-eq0.false c.if-admitted-number.false
    c.walk_to.ensures
