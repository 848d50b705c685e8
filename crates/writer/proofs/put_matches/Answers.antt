-- `put_matches` meets its contract: the commands stored, and those still to come, make the buffer that is wanted.
-- Assumes nothing.
use mathlib.Core.Path.{refl}
use native.Mathlib.Omega.{arith}
use borrow.Author.Rules.{rules}
use Rattle.records.specs.Records.{no_record, match_of}
use Rattle.records.proofs.Lists.{record-inside}
use Rattle.writer.proofs.Stored.{putting-next, putting-ends}
use Rattle.writer.proofs.Stored.{matches-counted, match-held}
use Rattle.writer.proofs.put_matches.Goals as goal

pub record_at-requires : goal.record_at-requires
record_at-requires c =
    search (rules, record-inside)

pub loop-k-preserved : goal.loop-k-preserved
loop-k-preserved c =
    let counted = c.requires.count_value.0 in
    let below = c.loop-k-test.true in
    putting-next _ _ _ _ _ c.loop-k.invariant (match_of no_record) refl (omega (arith, matches-counted _ counted))
    (match-held _ counted below c.record_at.ensures) c.put_match.ensures

pub returns : goal.returns
returns c =
    putting-ends _ _ _ _ _ c.loop-k.invariant (omega (arith, matches-counted _ c.requires.count_value.0))
