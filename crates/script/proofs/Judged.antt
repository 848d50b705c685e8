-- What a command with its operands comes to, from the computed step and back: views of `match_judgement`,
-- `mark_judgement`, `match_step`, `mark_step` and `lengths_step` by their cases.
--     Weighed p q place m j       the match m comes to the judgement j, in the words of specs/Outcomes
--     weighed, weighed-judgement  the computed judgement is weighed so, and what is weighed so is the computed one
--     Roomy, roomy, roomy-step    there is room for one more, or there is not: the same for matches and for marks
--     Judged p q count at m t     the match m comes to the step t
--     judged, judged-step         likewise
--     Measured, measured, measured-judgement     a mark and its judgement
--     Pointed, pointed, pointed-step             a mark and its step
--     Opens p q o                 the lengths p q come to the opening o
--     opens, opens-step           likewise
-- Assumes nothing.
use Prim.Native.Nat.{ℕ, ◌+◌, ◌≤◌, ◌<◌}
use mathlib.Core.Path.{◌≡◌, ap, ◌∙◌}
use mathlib.Core.Bool.{true, false}
use native.Mathlib.Omega.{arith}
use native.Mathlib.Decide.{dec_le, ℕ_discrete}
use native.Mathlib.Nat.{lt_of_not-le}
use borrow.Author.Tests.{eq-eqb, ne_eqb, lt-ltb, le-ltb, le-leb, lt-leb}
use Rattle.std.specs.Prelude.{Result, Ok, Err}
use Rattle.script.specs.Limits.{longest, most_matches, most_marks}
use Rattle.script.specs.Steps.{in_range, lengths_step, match_judgement, letters_on, mark_judgement}
use Rattle.script.specs.Steps.{with_room, unless_faulty, match_step, mark_step}
use Rattle.script.specs.Outcomes.{InRange, Within, OnSequence, PastSequence}
use Rattle.script.specs.declared.refusal.Refusal.{Refusal}
use Rattle.script.specs.declared.refusal.Refusal.TheVariants.{LengthOutOfRange, TooManyMatches}
use Rattle.script.specs.declared.refusal.Refusal.TheVariants.{EmptyMatch, BeyondA, BeyondB}
use Rattle.script.specs.declared.refusal.Refusal.TheVariants.{TooManyMarks, NoSuchSide, MarkBeyond}
use Rattle.script.specs.declared.command.Match.{Match}
use Rattle.script.specs.declared.command.Mark.{Mark}
use Rattle.script.specs.declared.step.Lengths.{Lengths}
use Rattle.script.specs.declared.step.Step.{Step}

-- ---- the numbers of a match

pub data Weighed (p q place : ℕ) (m : Match) : Result (Unit {0}) Refusal → Type 0 where
  empty : m.length ≡ 0 → Weighed p q place m (Err (EmptyMatch place))
  beyond_a : 1 ≤ m.length → p < m.left_a + m.length → Weighed p q place m (Err (BeyondA place))
  beyond_b : 1 ≤ m.length → m.left_a + m.length ≤ p → q < m.left_b + m.length
      → Weighed p q place m (Err (BeyondB place))
  sound : Within p q m → Weighed p q place m (Ok tt)

pub weighed : (p q place : ℕ) (m : Match) → Weighed p q place m (match_judgement p q place m)
weighed p q place m =
    elim (ℕ_discrete m.length 0) [
      | yes e ↦ rw (eq-eqb m.length 0 e) (empty e)
      | no n0 ↦ let some : 1 ≤ m.length = omega arith in
          rw (ne_eqb m.length 0 n0) (elim (dec_le (m.left_a + m.length) p) [
            | no na ↦ rw (lt-ltb p (m.left_a + m.length) (lt_of_not-le na)) (beyond_a some (lt_of_not-le na))
            | yes a ↦ rw (le-ltb p (m.left_a + m.length) a) (elim (dec_le (m.left_b + m.length) q) [
              | no nb ↦ let b = lt_of_not-le nb in rw lt-ltb (beyond_b some a b)
              | yes b ↦ rw le-ltb (sound (record { some = some; in_a = a; in_b = b }))
            ])
          ])
    ]

pub weighed-judgement : {p q place : ℕ} {m : Match} {j : Result (Unit {0}) Refusal} → Weighed p q place m j
    → match_judgement p q place m ≡ j
weighed-judgement {m} (empty e) = rw (eq-eqb m.length 0 e)
weighed-judgement {p} {m} (beyond_a k a) =
    rw (ne_eqb m.length 0 (omega arith), lt-ltb p (m.left_a + m.length) a)
weighed-judgement {p} {q} {m} (beyond_b k a b) =
    rw (
      ne_eqb m.length 0 (omega arith),
      le-ltb p (m.left_a + m.length) a,
      lt-ltb q (m.left_b + m.length) b,
    )
weighed-judgement {p} {q} {m} (sound w) =
    rw (
      ne_eqb m.length 0 (omega (arith, w.some)),
      le-ltb p (m.left_a + m.length) w.in_a,
      le-ltb q (m.left_b + m.length) w.in_b,
    )

-- ---- the numbers of a mark

pub data Measured (p q place : ℕ) (k : Mark) : Result (Unit {0}) Refusal → Type 0 where
  no_side : 1 < k.side → Measured p q place k (Err (NoSuchSide place))
  beyond : PastSequence p q k → Measured p q place k (Err (MarkBeyond place))
  sound : OnSequence p q k → Measured p q place k (Ok tt)

-- a mark on A or on B, by the letters there
data Sided (p q : ℕ) (k : Mark) : Type 0 where
  neither : 1 < k.side → Sided p q k
  one :
      (letters : ℕ) → k.side ≤ 1 → letters_on p q k.side ≡ letters → (k.position ≤ letters → OnSequence p q k)
      → (letters < k.position → PastSequence p q k) → Sided p q k

sided : (p q : ℕ) (k : Mark) → Sided p q k
sided p q k =
    elim (ℕ_discrete k.side 0) [
      | yes e ↦ one p (omega arith) (rw e) (OnSequence.on_a e) (PastSequence.past_a e)
      | no n ↦ elim (ℕ_discrete k.side 1) [
        | yes e ↦ one q (omega arith) (rw e) (OnSequence.on_b e) (PastSequence.past_b e)
        | no n1 ↦ neither (omega arith)
      ]
    ]

pub measured : (p q place : ℕ) (k : Mark) → Measured p q place k (mark_judgement p q place k)
measured p q place k = go (sided p q k)
  where
    go : Sided p q k → Measured p q place k (mark_judgement p q place k)
    go (neither h) = rw (lt-ltb 1 k.side h) (no_side h)
    go (one letters few is on past) =
        rw (le-ltb 1 k.side few, is) (elim (dec_le k.position letters) [
          | yes h ↦ rw (le-ltb letters k.position h) (sound (on h))
          | no h ↦ let over = lt_of_not-le h in rw (lt-ltb letters k.position over) (beyond (past over))
        ])

-- a mark is told by the side that it lies on
on-side : {p q : ℕ} {k : Mark} → OnSequence p q k → (k.side ≤ 1) × (k.position ≤ letters_on p q k.side)
on-side (OnSequence.on_a e h) = (omega arith, rw e h)
on-side (OnSequence.on_b e h) = (omega arith, rw e h)

past-side : {p q : ℕ} {k : Mark} → PastSequence p q k → (k.side ≤ 1) × (letters_on p q k.side < k.position)
past-side (PastSequence.past_a e h) = (omega arith, rw e h)
past-side (PastSequence.past_b e h) = (omega arith, rw e h)

pub measured-judgement : {p q place : ℕ} {k : Mark} {j : Result (Unit {0}) Refusal} → Measured p q place k j
    → mark_judgement p q place k ≡ j
measured-judgement {k} (no_side h) = rw (lt-ltb 1 k.side h)
measured-judgement {p} {q} {k = k} (beyond h) =
    rw (le-ltb 1 k.side (past-side h).0, lt-ltb (letters_on p q k.side) k.position (past-side h).1)
measured-judgement {p} {q} {k = k} (sound h) =
    rw (le-ltb 1 k.side (on-side h).0, le-ltb (letters_on p q k.side) k.position (on-side h).1)

-- ---- room for one more

pub data Roomy (most count : ℕ) (full : Refusal) (next : Result Step Refusal) : Result Step Refusal → Type 0 where
  too_many : most ≤ count → Roomy most count full next (Err full)
  room : count < most → Roomy most count full next next

pub roomy : (most count : ℕ) (full : Refusal) (next : Result Step Refusal)
    → Roomy most count full next (with_room most count full next)
roomy most count full next =
    elim (dec_le most count) [
      | yes h ↦ rw (le-leb most count h) (too_many h)
      | no n ↦ let few = lt_of_not-le n in rw (lt-leb most count few) (room few)
    ]

pub roomy-step : {most count : ℕ} {full : Refusal} {next t : Result Step Refusal} → Roomy most count full next t
    → with_room most count full next ≡ t
roomy-step {most} {count} (too_many h) = rw (le-leb most count h)
roomy-step {most} {count} (room h) = rw (lt-leb most count h)

-- ---- a match command and a mark command

pub data Judged (p q count at : ℕ) (m : Match) : Result Step Refusal → Type 0 where
  too_many : most_matches ≤ count → Judged p q count at m (Err (TooManyMatches at))
  room : {j : Result (Unit {0}) Refusal} → count < most_matches → Weighed p q at m j
      → Judged p q count at m (unless_faulty j (Ok (Step.Take m)))

pub judged : (p q count at : ℕ) (m : Match) → Judged p q count at m (match_step p q count at m)
judged p q count at m =
    go (roomy most_matches count (TooManyMatches at) (unless_faulty (match_judgement p q at m) (Ok (Step.Take m))))
  where
    go : {t : Result Step Refusal}
        → Roomy most_matches count (TooManyMatches at) (unless_faulty (match_judgement p q at m) (Ok (Step.Take m))) t
        → Judged p q count at m t
    go (Roomy.too_many h) = too_many h
    go (Roomy.room h) = room h (weighed p q at m)

pub judged-step : {p q count at : ℕ} {m : Match} {t : Result Step Refusal} → Judged p q count at m t
    → match_step p q count at m ≡ t
judged-step {count} (too_many h) = roomy-step (Roomy.too_many h)
judged-step {count} {m} (room h w) =
    roomy-step (Roomy.room h) ∙ ap (λ j. unless_faulty j (Ok (Step.Take m))) (weighed-judgement w)

pub data Pointed (p q marks at : ℕ) (k : Mark) : Result Step Refusal → Type 0 where
  too_many : most_marks ≤ marks → Pointed p q marks at k (Err (TooManyMarks at))
  room : {j : Result (Unit {0}) Refusal} → marks < most_marks → Measured p q at k j
      → Pointed p q marks at k (unless_faulty j (Ok (Step.Keep k)))

pub pointed : (p q marks at : ℕ) (k : Mark) → Pointed p q marks at k (mark_step p q marks at k)
pointed p q marks at k =
    go (roomy most_marks marks (TooManyMarks at) (unless_faulty (mark_judgement p q at k) (Ok (Step.Keep k))))
  where
    go : {t : Result Step Refusal}
        → Roomy most_marks marks (TooManyMarks at) (unless_faulty (mark_judgement p q at k) (Ok (Step.Keep k))) t
        → Pointed p q marks at k t
    go (Roomy.too_many h) = too_many h
    go (Roomy.room h) = room h (measured p q at k)

pub pointed-step : {p q marks at : ℕ} {k : Mark} {t : Result Step Refusal} → Pointed p q marks at k t
    → mark_step p q marks at k ≡ t
pointed-step (too_many h) = roomy-step (Roomy.too_many h)
pointed-step {k = k} (room h w) =
    roomy-step (Roomy.room h) ∙ ap (λ j. unless_faulty j (Ok (Step.Keep k))) (measured-judgement w)

-- ---- lengths

in-range : {n : ℕ} → InRange n → in_range n ≡ true
in-range {n} h = rw (lt-ltb 0 n h.some, le-leb n longest h.few)

data Ranged (n : ℕ) : Type 0 where
  inside : InRange n → Ranged n
  outside : (InRange n → ⊥) → in_range n ≡ false → Ranged n

ranged : (n : ℕ) → Ranged n
ranged n =
    elim (ℕ_discrete n 0) [
      | yes e ↦ outside (λ r. omega (arith, r.some)) (rw (le-ltb 0 n (omega arith)))
      | no z ↦ let some : 0 < n = omega arith in
          elim (dec_le n longest) [
            | yes h ↦ inside (record { some = some; few = h })
            | no h ↦ outside (λ r. h r.few) (rw (lt-ltb 0 n some, lt-leb n longest (lt_of_not-le h)))
          ]
    ]

pub data Opens (p q : ℕ) : Result Lengths Refusal → Type 0 where
  open_them : InRange p → InRange q → Opens p q (Ok (record { p = p; q = q }))
  out_of_range : (InRange p → InRange q → ⊥) → Opens p q (Err LengthOutOfRange)

pub opens : (p q : ℕ) → Opens p q (lengths_step p q)
opens p q = go (ranged p) (ranged q)
  where
    go : Ranged p → Ranged q → Opens p q (lengths_step p q)
    go (inside a) (inside b) = rw (in-range a, in-range b) (open_them a b)
    go (inside a) (outside n e) = rw (in-range a, e) (out_of_range (λ _ b. n b))
    go (outside n e) b = rw e (out_of_range (λ a _. n a))

pub opens-step : {p q : ℕ} {o : Result Lengths Refusal} → Opens p q o → lengths_step p q ≡ o
opens-step (open_them a b) = rw (in-range a, in-range b)
opens-step {p} {q} (out_of_range n) = go (ranged p) (ranged q)
  where
    go : Ranged p → Ranged q → lengths_step p q ≡ Err LengthOutOfRange
    go (inside a) (inside b) = absurd (n a b)
    go (inside a) (outside _ e) = rw (in-range a, e)
    go (outside _ e) b = rw e
