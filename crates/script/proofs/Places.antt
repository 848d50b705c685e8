-- Where the matches of a script without marks stand: behind the lengths, each as wide as the others.
--     match-placed     match k + 1 of such a script is the command at 9 + 13 k
-- Assumes nothing.
use Prim.Native.Nat.{ℕ, ◌+◌, ◌*◌, ◌<◌}
use mathlib.Core.Path.{◌≡◌}
use mathlib.Core.List.{List, [], ◌∷◌}
use native.Mathlib.Omega.{arith}
use native.Mathlib.Decide.{dec_lt}
use lib.ListN.{length, get_or, length-append, get_or-append}
use lib.Seq.{get_or_at}
use Rattle.script.specs.Reading.{admitted, read_script}
use Rattle.script.specs.Outcomes.{MatchAt, Reach, opened, taken, marked}
use Rattle.script.specs.declared.command.Match.{Match}
use Rattle.script.specs.declared.command.Mark.{Mark}
use Rattle.script.proofs.Outcome.{reach-place}
use Rattle.script.proofs.Holding.{admitted-ended}

reach-match : {s : List ℕ} {p q at : ℕ} {ms : List Match} {ks : List Mark} → Reach s p q at ms ks → length ks ≡ 0
    → (k : ℕ) → k < length ms → (blank : Match) → MatchAt s (9 + 13 * k) (get_or ms k blank)
reach-match (opened _ _ _) none k h blank = absurd (omega arith)
reach-match {s} (taken {at} {ms} {m = m} r _ d _) none k h blank =
    elim (dec_lt k (length ms)) [
      | yes below ↦ rw (get_or-append ms (m ∷ []) blank k below) (reach-match r none k below blank)
      | no n ↦ let last : length ms ≡ k = omega (arith, length-append ms (m ∷ [])) in
          let here : at ≡ 9 + 13 * k = omega (arith, reach-place r) in
          rw (get_or_at ms m [] blank k last, ← here) d
    ]
reach-match (marked {ks = ks} {k = point} r _ _ _) none k h blank =
    absurd (omega (arith, length-append ks (point ∷ [])))

pub match-placed : (s : List ℕ) {ls : List ℕ} {ms : List Match} {ks : List Mark} → read_script s ≡ admitted ls ms ks
    → length ks ≡ 0 → (k : ℕ) → k < length ms → (blank : Match) → MatchAt s (9 + 13 * k) (get_or ms k blank)
match-placed s e none k h blank = reach-match (admitted-ended e).reach none k h blank
