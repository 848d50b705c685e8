-- What stands at an offset of the script, from the computed command and back: a view of `command_of` by its cases.
--     number-drop      a number of the remainder is the number of the script, further on
--     Seen s at c      the command c stands at the offset at, in the words of specs/Outcomes
--     whole-match, whole-mark     a command byte with its operands behind it is a command
--     seen             the computed command is seen
--     seen-command     what is seen is the computed command
-- Assumes nothing.
use Prim.Native.Nat.{ℕ, ◌+◌, ◌-◌, ◌≤◌, ◌<◌}
use mathlib.Core.Path.{◌≡◌, refl, ap, ◌∙◌}
use mathlib.Core.Logic.{◌≢◌}
use mathlib.Core.Bool.{Bool}
use mathlib.Core.List.{List}
use native.Mathlib.Omega.{arith}
use native.Mathlib.Decide.{dec_le, ℕ_discrete}
use native.Mathlib.Nat.{lt_of_not-le, add_assoc}
use lib.ListN.{length, get_or, drop, length-drop}
use lib.Seq.{get_or-drop}
use borrow.Author.Tests.{eq-eqb, ne_eqb, lt-ltb, le-ltb}
use Rattle.script.specs.Commands.{lengths_width, match_width, mark_width, number_at, command_of, lengths_of}
use Rattle.script.specs.Commands.{match_of, mark_of, end_of}
use Rattle.script.specs.Outcomes.{Byte, MatchByte, MatchAt, MarkAt}
use Rattle.script.specs.declared.command.Match.{Match}
use Rattle.script.specs.declared.command.Mark.{Mark}
use Rattle.script.specs.declared.command.Command.{Command}
use Rattle.script.specs.declared.command.Command.TheVariants.{Missing, Unknown, Lengths, LengthsCutShort}
use Rattle.script.specs.declared.command.Command.TheVariants.{Pairing, MatchCutShort, Marking, MarkCutShort}
use Rattle.script.specs.declared.command.Command.TheVariants.{End, EndThenMore}

pub number-drop : (n k : ℕ) (s : List ℕ) → number_at (drop n s) k ≡ number_at s (n + k)
number-drop n k s = simp (get_or-drop, add_assoc)

-- the byte at the remainder's start
code-drop : (s : List ℕ) (at : ℕ) → get_or (drop at s) 0 0 ≡ get_or s at 0
code-drop s at = get_or-drop at s 0 0 ∙ ap (λ (k : ℕ). get_or s k 0) (omega arith)

pub data Seen (s : List ℕ) (at : ℕ) : Command → Type 0 where
  missing : length s ≤ at → Seen s at Missing
  unknown : at < length s → get_or s at 0 ≢ 0x4C → get_or s at 0 ≢ 0x44 → get_or s at 0 ≢ 0x52 → get_or s at 0 ≢ 0x4D
      → get_or s at 0 ≢ 0x45 → Seen s at Unknown
  lengths : Byte s at 0x4C → at + lengths_width ≤ length s
      → Seen s at (Lengths (number_at s (at + 1)) (number_at s (at + 5)))
  lengths_short : Byte s at 0x4C → length s < at + lengths_width → Seen s at LengthsCutShort
  pairing : {m : Match} → MatchAt s at m → Seen s at (Pairing m)
  pairing_short : {way : Bool} → MatchByte s at way → length s < at + match_width → Seen s at MatchCutShort
  marking : {k : Mark} → MarkAt s at k → Seen s at (Marking k)
  marking_short : Byte s at 0x4D → length s < at + mark_width → Seen s at MarkCutShort
  end : Byte s at 0x45 → at + 1 ≡ length s → Seen s at End
  end_then_more : Byte s at 0x45 → at + 1 < length s → Seen s at EndThenMore

pub whole-match : {s : List ℕ} {at : ℕ} {way : Bool} → MatchByte s at way → at + match_width ≤ length s
    → MatchAt s at (record {
      track_a = 0;
      track_b = 1;
      left_a = number_at s (at + 1);
      left_b = number_at s (at + 5);
      length = number_at s (at + 9);
      reversed = way;
    })
whole-match b w =
    record { code = b; whole = w; on_a = refl; on_b = refl; left_a = refl; left_b = refl; letters = refl }

pub whole-mark : {s : List ℕ} {at : ℕ} → Byte s at 0x4D → at + mark_width ≤ length s
    → MarkAt s at (record { side = get_or s (at + 1) 0; position = number_at s (at + 2) })
whole-mark b w = record { code = b; whole = w; side = refl; position = refl }

module _ (s : List ℕ) (at : ℕ) where
  left : length (drop at s) ≡ length s - at
  left = length-drop at s

  seen-lengths : Byte s at 0x4C → Seen s at (lengths_of (drop at s))
  seen-lengths b =
      elim (dec_le (at + lengths_width) (length s)) [
        | yes w ↦ rw (
          le-ltb (length (drop at s)) lengths_width (omega (arith, left)),
          number-drop at 1 s,
          number-drop at 5 s,
        )
            (lengths b w)
        | no w ↦ let short = lt_of_not-le w in
            rw (lt-ltb (length (drop at s)) lengths_width (omega (arith, left, short))) (lengths_short b short)
      ]

  seen-match : {way : Bool} → MatchByte s at way → Seen s at (match_of way (drop at s))
  seen-match {way} b =
      elim (dec_le (at + match_width) (length s)) [
        | yes w ↦ rw (
          le-ltb (length (drop at s)) match_width (omega (arith, left)),
          number-drop at 1 s,
          number-drop at 5 s,
          number-drop at 9 s,
        )
            (pairing (whole-match b w))
        | no w ↦ let short = lt_of_not-le w in
            rw (lt-ltb (length (drop at s)) match_width (omega (arith, left, short))) (pairing_short b short)
      ]

  seen-mark : Byte s at 0x4D → Seen s at (mark_of (drop at s))
  seen-mark b =
      elim (dec_le (at + mark_width) (length s)) [
        | yes w ↦ rw (
          le-ltb (length (drop at s)) mark_width (omega (arith, left)),
          get_or-drop at s 1 0,
          number-drop at 2 s,
        )
            (marking (whole-mark b w))
        | no w ↦ let short = lt_of_not-le w in
            rw (lt-ltb (length (drop at s)) mark_width (omega (arith, left, short))) (marking_short b short)
      ]

  seen_end : Byte s at 0x45 → Seen s at (end_of (drop at s))
  seen_end b =
      elim (dec_le (length s) (at + 1)) [
        | yes w ↦ rw (le-ltb 1 (length (drop at s)) (omega (arith, left))) (end b (omega (arith, b.inside)))
        | no w ↦ let more = lt_of_not-le w in
            rw (lt-ltb 1 (length (drop at s)) (omega (arith, left, more))) (end_then_more b more)
      ]

  seen-code : at < length s → Seen s at (command_of (drop at s))
  seen-code h =
      rw (ne_eqb (length (drop at s)) 0 (omega (arith, left)), code-drop s at)
      (elim (ℕ_discrete (get_or s at 0) 0x4C) [
        | yes e ↦ rw (eq-eqb (get_or s at 0) 0x4C e) (seen-lengths (record { inside = h; is = e }))
        | no n1 ↦ rw (ne_eqb (get_or s at 0) 0x4C n1) (elim (ℕ_discrete (get_or s at 0) 0x44) [
          | yes e ↦ rw (eq-eqb (get_or s at 0) 0x44 e) (seen-match (MatchByte.direct (record { inside = h; is = e })))
          | no n2 ↦ rw (ne_eqb (get_or s at 0) 0x44 n2) (elim (ℕ_discrete (get_or s at 0) 0x52) [
            | yes e ↦ rw (eq-eqb (get_or s at 0) 0x52 e) (seen-match (MatchByte.backward (record { inside = h; is = e })))
            | no n3 ↦ rw (ne_eqb (get_or s at 0) 0x52 n3) (elim (ℕ_discrete (get_or s at 0) 0x4D) [
              | yes e ↦ rw (eq-eqb (get_or s at 0) 0x4D e) (seen-mark (record { inside = h; is = e }))
              | no n4 ↦ rw (ne_eqb (get_or s at 0) 0x4D n4) (elim (ℕ_discrete (get_or s at 0) 0x45) [
                | yes e ↦ rw (eq-eqb (get_or s at 0) 0x45 e) (seen_end (record { inside = h; is = e }))
                | no n5 ↦ rw (ne_eqb (get_or s at 0) 0x45 n5) (unknown h n1 n2 n3 n4 n5)
              ])
            ])
          ])
        ])
      ])

  pub seen : Seen s at (command_of (drop at s))
  seen =
      elim (dec_le (length s) at) [
        | yes h ↦ rw (eq-eqb (length (drop at s)) 0 (omega (arith, left))) (missing h)
        | no h ↦ seen-code (lt_of_not-le h)
      ]

  -- the command goes by its byte alone
  by_code : {code : ℕ} → Byte s at code → (length (drop at s) ≡ 0 → ⊥) × (get_or (drop at s) 0 0 ≡ code)
  by_code b = (omega (arith, left, b.inside), code-drop s at ∙ b.is)

  lengths-command : Byte s at 0x4C → command_of (drop at s) ≡ lengths_of (drop at s)
  lengths-command b = rw (ne_eqb (length (drop at s)) 0 (by_code b).0, (by_code b).1)

  match-command : {way : Bool} → MatchByte s at way → command_of (drop at s) ≡ match_of way (drop at s)
  match-command (MatchByte.direct b) = rw (ne_eqb (length (drop at s)) 0 (by_code b).0, (by_code b).1)
  match-command (MatchByte.backward b) = rw (ne_eqb (length (drop at s)) 0 (by_code b).0, (by_code b).1)

  mark-command : Byte s at 0x4D → command_of (drop at s) ≡ mark_of (drop at s)
  mark-command b = rw (ne_eqb (length (drop at s)) 0 (by_code b).0, (by_code b).1)

  end-command : Byte s at 0x45 → command_of (drop at s) ≡ end_of (drop at s)
  end-command b = rw (ne_eqb (length (drop at s)) 0 (by_code b).0, (by_code b).1)

  pub seen-command : {c : Command} → Seen s at c → command_of (drop at s) ≡ c
  seen-command (missing h) = rw (eq-eqb (length (drop at s)) 0 (omega (arith, left)))
  seen-command (unknown h n1 n2 n3 n4 n5) =
      rw (
        ne_eqb (length (drop at s)) 0 (omega (arith, left)),
        code-drop s at,
        ne_eqb (get_or s at 0) 0x4C n1,
        ne_eqb (get_or s at 0) 0x44 n2,
        ne_eqb (get_or s at 0) 0x52 n3,
        ne_eqb (get_or s at 0) 0x4D n4,
        ne_eqb (get_or s at 0) 0x45 n5,
      )
  seen-command (lengths b w) =
      lengths-command b
      ∙ rw (le-ltb (length (drop at s)) lengths_width (omega (arith, left)), number-drop at 1 s, number-drop at 5 s)
  seen-command (lengths_short b h) =
      lengths-command b ∙ rw (lt-ltb (length (drop at s)) lengths_width (omega (arith, left, b.inside)))
  seen-command (pairing d) =
      match-command d.code
      ∙ rw (
        le-ltb (length (drop at s)) match_width (omega (arith, left, d.whole)),
        number-drop at 1 s,
        number-drop at 5 s,
        number-drop at 9 s,
        ← d.left_a,
        ← d.left_b,
        ← d.letters,
        ← d.on_a,
        ← d.on_b,
      )
  seen-command (pairing_short b h) =
      match-command b ∙ rw (lt-ltb (length (drop at s)) match_width (omega (arith, left)))
  seen-command (marking d) =
      mark-command d.code
      ∙ rw (
        le-ltb (length (drop at s)) mark_width (omega (arith, left, d.whole)),
        get_or-drop at s 1 0,
        number-drop at 2 s,
        ← d.side,
        ← d.position,
      )
  seen-command (marking_short b h) = mark-command b ∙ rw (lt-ltb (length (drop at s)) mark_width (omega (arith, left)))
  seen-command (end b h) = end-command b ∙ rw (le-ltb 1 (length (drop at s)) (omega (arith, left)))
  seen-command (end_then_more b h) = end-command b ∙ rw (lt-ltb 1 (length (drop at s)) (omega (arith, left)))
