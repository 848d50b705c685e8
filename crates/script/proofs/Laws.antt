-- Facts of 01 that a slip made in a definition and in the code together would break.
--     number-bytes       least byte first: each byte counts 256 times the one before it
--     longest-script     29,706 bytes
--     beyond-both        a match beyond A and beyond B is refused with 8
--     bit-told           the number of a direction tells the direction
--     no-side-beyond     a mark with a side above 1 and a position past both sequences is refused with 20
-- Not here: the rows of the table of refusals, which `proofs/Outcome` holds to the numbers, places and limits of 01 and
-- 02, and the orders at a match, 6, 7, 8, 9, and at a mark, 19, 20, 21, which `proofs/Judged` holds `match_step` and
-- `mark_step` to.
-- Assumes nothing.
use Prim.Native.Nat.{ℕ, ◌+◌, ◌*◌, ◌≤◌, ◌<◌}
use mathlib.Core.Path.{◌≡◌, refl}
use mathlib.Core.Bool.{Bool, true, false}
use mathlib.Core.List.{List, [], ◌∷◌}
use native.Mathlib.Omega.{arith}
use lib.Dec.{eqb}
use lib.ListN.{length}
use Rattle.script.specs.Limits.{longest_script}
use Rattle.script.specs.Commands.{number_at, bit_of}
use Rattle.script.specs.Reading.{read_script}
use Rattle.script.specs.Answers.{refusal, reading_answer}
use Rattle.script.specs.Outcomes.{MatchAt, MarkAt, Reach, Outcome}
use Rattle.script.specs.declared.command.Match.{Match}
use Rattle.script.specs.declared.command.Mark.{Mark}
use Rattle.script.proofs.Outcome.{outcome-alone}

pub number-bytes : (a b c d : ℕ) → number_at (a ∷ b ∷ c ∷ d ∷ []) 0 ≡ a + 256 * (b + 256 * (c + 256 * d))
number-bytes a b c d = omega arith

pub longest-script : longest_script ≡ 29706
longest-script = refl

pub beyond-both : {s : List ℕ} {p q at : ℕ} {ms : List Match} {ks : List Mark} {m : Match} → Reach s p q at ms ks
    → length ms < 2048 → MatchAt s at m → 1 ≤ m.length → p < m.left_a + m.length → q < m.left_b + m.length
    → reading_answer (read_script s) ≡ refusal 8 at
beyond-both r room d some a b = outcome-alone (Outcome.beyond_a r room d some a)

pub no-side-beyond : {s : List ℕ} {p q at : ℕ} {ms : List Match} {ks : List Mark} {k : Mark} → Reach s p q at ms ks
    → length ks < 512 → MarkAt s at k → 1 < k.side → p < k.position → q < k.position
    → reading_answer (read_script s) ≡ refusal 20 at
no-side-beyond r room d side a b = outcome-alone (Outcome.no_such_side r room d side)

pub bit-told : (reversed : Bool) → eqb (bit_of reversed) 1 ≡ reversed
bit-told true = refl
bit-told false = refl
