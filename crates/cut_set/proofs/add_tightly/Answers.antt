-- `cut_set::add_tightly` meets its contract: after gathering there is room, or the number is a member, or none.
-- Assumes nothing.
use mathlib.Core.Path.{refl}
use Rattle.cut_set.proofs.Laws.{stored-none}
use Rattle.cut_set.proofs.Storing.{gathered-stored}
use borrow.Author.Rules.{rules}
use Rattle.cut_set.proofs.add_tightly.Goals as goal

pub returns-else-member : goal.returns-else-member
returns-else-member c =
    let now = c.gather_bare-t.ensures in
    record {
      stored = gathered-stored now.gathered (stored-none now.gathered.kept.good (λ y h. h.1));
      ready = now.gathered.ready;
      bare = now.none;
      crowded = record {
        full = search rules;
        missing = _;
        wanted = refl;
        absent = c.member.ensures.unless c.if-member.false;
      };
    }
