-- 01's table of refusals, as the relation `Outcome` states it, and the computed reading agree in both directions, so
-- that exactly one row applies to each string of bytes.
--     reach-place         the offset behind n matches and k marks is 9 + 13 n + 6 k, at most 2,048 and 512 of them
--     reach-inside        and lies within the script
--     reach-range         p and q are in range
--     reach-tracks        each match is between the tracks 0 and 1
--     reach-within        and lies within p and q
--     reach-on            each mark lies on A or B
--     behind_lengths, behind_command     what is read from there on
--     reach-read          good commands passed, reading goes on behind them
--     reach-ends          and comes to what the next command does
--     outcome-alone       any outcome that applies is the computed reading, in 01's numbers and places
--     outcome-stated      the computed reading is an outcome that applies
--     own-number          a script's own refusals are 1 to 10 and 19 to 21
--     read-outcome, outcome-admitted, outcome-refused     from a reading to its outcome and back
-- The first walks up the good commands, the last down the computed steps. Assumes nothing.
use Prim.Native.Nat.{ℕ, zero, suc, ◌+◌, ◌*◌, ◌-◌, ◌≤◌, ◌<◌}
use mathlib.Core.Path.{◌≡◌, refl, sym, ap, subst, ◌∙◌}
use mathlib.Core.Logic.{◌≢◌, ◌⊎◌, ⊎_elim, inl, inr}
use mathlib.Core.Bool.{Bool}
use mathlib.Core.List.Memᴰ
use mathlib.Core.List.{List, [], ◌∷◌, ◌++◌, Memᴰ}
use native.Mathlib.Omega.{arith}
use native.Mathlib.Decide.{dec_le}
use native.Mathlib.Nat.{lt_of_not-le}
use native.Mathlib.Numerals.{sub-one}
use lib.ListN.{length, get_or, drop, length-append}
use lib.Seq.{drop-drop}
use Rattle.std.specs.Prelude.{Result, Err}
use Rattle.script.specs.Limits.{most_matches, most_marks}
use Rattle.script.specs.Commands.{lengths_width, match_width, mark_width, number_at}
use Rattle.script.specs.Steps.{opening_of, step_of}
use Rattle.script.specs.Refusals.{number_of, place_of}
use Rattle.script.specs.Reading.{Reading, admitted, refused, after_step, after_opening, read_from, read_script}
use Rattle.script.specs.Answers.{Answer, value, refusal, Contents, contents, reading_answer}
use Rattle.script.specs.Outcomes.{Byte, MatchByte, MatchAt, MarkAt, LengthsAt, InRange, Within, OnSequence}
use Rattle.script.specs.Outcomes.{Reach, opened, taken, marked, Short, Outcome}
use Rattle.script.specs.declared.refusal.Refusal.{Refusal}
use Rattle.script.specs.declared.refusal.Refusal.TheVariants.{Headless, CutShort, TooManyMatches, TooManyMarks}
use Rattle.script.specs.declared.command.Match.{Match}
use Rattle.script.specs.declared.command.Mark.{Mark}
use Rattle.script.specs.declared.command.Command.{Command}
use Rattle.script.specs.declared.step.Step.{Step}
use Rattle.script.specs.declared.step.Lengths.{Lengths}
use Rattle.script.proofs.Seen.{Seen, whole-match, whole-mark, seen, seen-command}
use Rattle.script.proofs.Judged.{Weighed, Judged, judged, judged-step, Measured, Pointed, pointed, pointed-step}
use Rattle.script.proofs.Judged.{Roomy, roomy, roomy-step, Opens, opens, opens-step}

length-snoc : {X : Type 0} (xs : List X) (x : X) → length (xs ++ x ∷ []) ≡ length xs + 1
length-snoc xs x = length-append xs (x ∷ [])

-- what holds of all and of one more
snoc-all : {X : Type 0} (P : X → Type 0) {xs : List X} {x y : X} → (Memᴰ y xs → P y) → P x
    → Memᴰ y (xs ++ x ∷ []) → P y
snoc-all P {xs} all one i =
    ⊎_elim all (λ j. subst P (sym (Memᴰ.eq_of_singleton j)) one) (Memᴰ.append_cases xs i)

module _ {s : List ℕ} {p q : ℕ} where
  pub reach-place : {at : ℕ} {ms : List Match} {ks : List Mark} → Reach s p q at ms ks
      → (at ≡ lengths_width + match_width * length ms + mark_width * length ks)
      × ((length ms ≤ most_matches) × (length ks ≤ most_marks))
  reach-place (opened _ _ _) = (refl, (omega arith, omega arith))
  reach-place (taken {ms} {m = m} r room _ _) = omega (arith, reach-place r, length-snoc ms m)
  reach-place (marked {ks = ks} {k = k} r room _ _) = omega (arith, reach-place r, length-snoc ks k)

  pub reach-inside : {at : ℕ} {ms : List Match} {ks : List Mark} → Reach s p q at ms ks → at ≤ length s
  reach-inside (opened l _ _) = l.whole
  reach-inside (taken r _ d _) = d.whole
  reach-inside (marked r _ d _) = d.whole

  pub reach-range : {at : ℕ} {ms : List Match} {ks : List Mark} → Reach s p q at ms ks → InRange p × InRange q
  reach-range (opened _ a b) = (a, b)
  reach-range (taken r _ _ _) = reach-range r
  reach-range (marked r _ _ _) = reach-range r

  pub reach-tracks : {at : ℕ} {ms : List Match} {ks : List Mark} → Reach s p q at ms ks
      → {m : Match} → Memᴰ m ms → (m.track_a ≡ 0) × (m.track_b ≡ 1)
  reach-tracks (opened _ _ _) x = absurd (Memᴰ.not-nil x)
  reach-tracks (taken r _ d _) x =
      snoc-all (λ m. (m.track_a ≡ 0) × (m.track_b ≡ 1)) (λ y. reach-tracks r y) (d.on_a, d.on_b) x
  reach-tracks (marked r _ _ _) x = reach-tracks r x

  pub reach-within : {at : ℕ} {ms : List Match} {ks : List Mark} → Reach s p q at ms ks
      → {m : Match} → Memᴰ m ms → Within p q m
  reach-within (opened _ _ _) x = absurd (Memᴰ.not-nil x)
  reach-within (taken r _ _ w) x = snoc-all (Within p q) (λ y. reach-within r y) w x
  reach-within (marked r _ _ _) x = reach-within r x

  pub reach-on : {at : ℕ} {ms : List Match} {ks : List Mark} → Reach s p q at ms ks
      → {k : Mark} → Memᴰ k ks → OnSequence p q k
  reach-on (opened _ _ _) x = absurd (Memᴰ.not-nil x)
  reach-on (taken r _ _ _) x = reach-on r x
  reach-on (marked r _ _ o) x = snoc-all (OnSequence p q) (λ y. reach-on r y) o x

-- ---- one step of the reading

-- what is read behind the lengths, and behind a command of so many bytes
abbrev pub behind_lengths : List ℕ → ℕ → ℕ → Reading
behind_lengths s p q = read_from (length s) p q lengths_width [] [] (drop lengths_width s)

abbrev pub behind_command : List ℕ → ℕ → ℕ → ℕ → ℕ → ℕ → List Match → List Mark → Reading
behind_command s bytes p q at width ms ks = read_from bytes p q (at + width) ms ks (drop (at + width) s)

step-at : (s : List ℕ) (p q at bytes : ℕ) (ms : List Match) (ks : List Mark) {c : Command} {t : Result Step Refusal}
    → 0 < bytes → Seen s at c → step_of p q (length ms) (length ks) at c ≡ t
    → read_from bytes p q at ms ks (drop at s) ≡ after_step p q ms ks t (behind_command s (bytes - 1) p q at)
unfolding read_from
step-at s p q at zero ms ks h k e = absurd (omega arith)
step-at s p q at (suc bytes) ms ks {t = t} h k e =
    rw (seen-command s at k, e, sub-one)
    (ap (after_step p q ms ks t) (λ i width ms' ks'. read_from bytes p q (at + width) ms' ks' (drop-drop width at s i)))

-- the first command of a script
pub opening-at : (s : List ℕ) {c : Command} {o : Result Lengths Refusal} → Seen s 0 c → opening_of c ≡ o
    → read_script s ≡ after_opening o (behind_lengths s)
unfolding read_script
opening-at s k e = rw (seen-command s 0 k, e)

lengths-seen : {s : List ℕ} {p q : ℕ} → LengthsAt s p q → Seen s 0 (Command.Lengths p q)
lengths-seen l = rw (l.first, l.second) (Seen.lengths l.code l.whole)

-- ---- any outcome that applies is the computed reading

-- what is left for the recursion behind so many commands
abbrev left : List ℕ → List Match → List Mark → ℕ
left s ms ks = length s - (length ms + length ks)

module _ {s : List ℕ} {p q : ℕ} where
  pub reach-read : {at : ℕ} {ms : List Match} {ks : List Mark} → Reach s p q at ms ks
      → read_script s ≡ read_from (left s ms ks) p q at ms ks (drop at s)
  reach-read (opened l a b) =
      opening-at s (lengths-seen l) (opens-step (Opens.open_them a b))
      ∙ ap (λ (n : ℕ). read_from n p q lengths_width [] [] (drop lengths_width s)) (omega arith)
  reach-read (taken {at} {ms} {ks} {m} r room d w) =
      reach-read r
      ∙ step-at s p q at (left s ms ks) ms ks (omega (arith, reach-place r, reach-inside r)) (Seen.pairing d)
      (judged-step (Judged.room room (Weighed.sound w)))
      ∙ ap (λ (n : ℕ). behind_command s n p q at match_width (ms ++ m ∷ []) ks) (omega (arith, length-snoc ms m))
  reach-read (marked {at} {ms} {ks} {k} r room d o) =
      reach-read r
      ∙ step-at s p q at (left s ms ks) ms ks (omega (arith, reach-place r, reach-inside r)) (Seen.marking d)
      (pointed-step (Pointed.room room (Measured.sound o)))
      ∙ ap (λ (n : ℕ). behind_command s n p q at mark_width ms (ks ++ k ∷ [])) (omega (arith, length-snoc ks k))

  -- reading comes to what the next command does
  pub reach-ends : {at : ℕ} {ms : List Match} {ks : List Mark} {c : Command} {t : Result Step Refusal}
      → Reach s p q at ms ks → Seen s at c → step_of p q (length ms) (length ks) at c ≡ t
      → read_script s ≡ after_step p q ms ks t (behind_command s (left s ms ks - 1) p q at)
  reach-ends {at} {ms} {ks} r k e =
      reach-read r ∙ step-at s p q at (left s ms ks) ms ks (omega (arith, reach-place r, reach-inside r)) k e

  -- and the answer is in 01's words what that command does
  ends-answer : {at : ℕ} {ms : List Match} {ks : List Mark} {c : Command} {t : Result Step Refusal}
      → Reach s p q at ms ks → Seen s at c → step_of p q (length ms) (length ks) at c ≡ t
      → reading_answer (read_script s)
      ≡ reading_answer (after_step p q ms ks t (behind_command s (left s ms ks - 1) p q at))
  ends-answer r k e = ap reading_answer (reach-ends r k e)

opening-answer : (s : List ℕ) {c : Command} {o : Result Lengths Refusal} → Seen s 0 c → opening_of c ≡ o
    → reading_answer (read_script s)
    ≡ reading_answer (after_opening o (behind_lengths s))
opening-answer s k e = ap reading_answer (opening-at s k e)

not-lengths : {s : List ℕ} → (Byte s 0 0x4C → ⊥) → {c : Command} → Seen s 0 c → opening_of c ≡ Err Headless
not-lengths n (Seen.missing _) = refl
not-lengths n (Seen.unknown _ _ _ _ _ _) = refl
not-lengths n (Seen.lengths b _) = absurd (n b)
not-lengths n (Seen.lengths_short b _) = absurd (n b)
not-lengths n (Seen.pairing _) = refl
not-lengths n (Seen.pairing_short _ _) = refl
not-lengths n (Seen.marking _) = refl
not-lengths n (Seen.marking_short _ _) = refl
not-lengths n (Seen.end _ _) = refl
not-lengths n (Seen.end_then_more _ _) = refl

short-alone : {s : List ℕ} {at : ℕ} → Short s at → reading_answer (read_script s) ≡ refusal 3 at
short-alone {s} (Short.lengths b h) = opening-answer s (Seen.lengths_short b h) refl
short-alone (Short.pairing r room b h) = ends-answer r (Seen.pairing_short b h) (roomy-step (Roomy.room room))
short-alone (Short.marking r room b h) = ends-answer r (Seen.marking_short b h) (roomy-step (Roomy.room room))
short-alone (Short.ran_out r e) = ends-answer r (Seen.missing (omega arith)) refl

full-alone : {s : List ℕ} {p q at : ℕ} {ms : List Match} {ks : List Mark} {m : Match} → Reach s p q at ms ks
    → most_matches ≤ length ms → MatchAt s at m → reading_answer (read_script s) ≡ refusal 6 at
full-alone {p} {q} {at} {m = m} r full d = ends-answer r (Seen.pairing d)
    (judged-step {p = p} {q = q} {m = m} (Judged.too_many full))

full-marks-alone : {s : List ℕ} {p q at : ℕ} {ms : List Match} {ks : List Mark} {k : Mark} → Reach s p q at ms ks
    → most_marks ≤ length ks → MarkAt s at k → reading_answer (read_script s) ≡ refusal 19 at
full-marks-alone {p} {q} {at} {k = k} r full d = ends-answer r (Seen.marking d)
    (pointed-step {p = p} {q = q} {k = k} (Pointed.too_many full))

pub outcome-alone : {s : List ℕ} {a : Answer Contents} → Outcome s a → reading_answer (read_script s) ≡ a
outcome-alone {s} (Outcome.headless h) = opening-answer s (seen s 0) (not-lengths (none h) (seen s 0))
  where
    none : (length s ≡ 0) ⊎ (get_or s 0 0 ≢ 0x4C) → Byte s 0 0x4C → ⊥
    none (inl e) b = omega (arith, b.inside)
    none (inr n) b = n b.is
outcome-alone (Outcome.unknown_command r h n1 n2 n3 n4 n5) = ends-answer r (Seen.unknown h n1 n2 n3 n4 n5) refl
outcome-alone (Outcome.cut_short h) = short-alone h
outcome-alone {s} (Outcome.second_lengths {at} r b) =
    elim (dec_le (at + lengths_width) (length s)) [
      | yes w ↦ ends-answer r (Seen.lengths b w) refl
      | no w ↦ ends-answer r (Seen.lengths_short b (lt_of_not-le w)) refl
    ]
outcome-alone {s} (Outcome.length_out_of_range l n) =
    opening-answer s (lengths-seen l) (opens-step (Opens.out_of_range n))
outcome-alone {s} (Outcome.too_many_matches {at} {ms} r e b) =
    let full : most_matches ≤ length ms = omega arith in
    elim (dec_le (at + match_width) (length s)) [
      | yes w ↦ full-alone r full (whole-match b w)
      | no w ↦ ends-answer r (Seen.pairing_short b (lt_of_not-le w)) (roomy-step (Roomy.too_many full))
    ]
outcome-alone (Outcome.empty_match r room d e) =
    ends-answer r (Seen.pairing d) (judged-step (Judged.room room (Weighed.empty e)))
outcome-alone (Outcome.beyond_a r room d k a) =
    ends-answer r (Seen.pairing d) (judged-step (Judged.room room (Weighed.beyond_a k a)))
outcome-alone (Outcome.beyond_b r room d k a b) =
    ends-answer r (Seen.pairing d) (judged-step (Judged.room room (Weighed.beyond_b k a b)))
outcome-alone {s} (Outcome.too_many_marks {at} {ks = ks} r e b) =
    let full : most_marks ≤ length ks = omega arith in
    elim (dec_le (at + mark_width) (length s)) [
      | yes w ↦ full-marks-alone r full (whole-mark b w)
      | no w ↦ ends-answer r (Seen.marking_short b (lt_of_not-le w)) (roomy-step (Roomy.too_many full))
    ]
outcome-alone (Outcome.no_such_side r room d h) =
    ends-answer r (Seen.marking d) (pointed-step (Pointed.room room (Measured.no_side h)))
outcome-alone (Outcome.mark_beyond r room d h) =
    ends-answer r (Seen.marking d) (pointed-step (Pointed.room room (Measured.beyond h)))
outcome-alone (Outcome.tail r b h) = ends-answer r (Seen.end_then_more b h) refl
outcome-alone (Outcome.is_admitted r b h) = ends-answer r (Seen.end b h) refl

-- ---- the computed reading is an outcome that applies

-- what the reading goes on with behind a good command is an outcome that applies
abbrev Onward : List ℕ → ℕ → ℕ → ℕ → (ℕ → List Match → List Mark → Reading) → Type 0
Onward s p q at onward =
    (width : ℕ) (ms : List Match) (ks : List Mark) → Reach s p q (at + width) ms ks → 0 < width
    → Outcome s (reading_answer (onward width ms ks))

-- a command that is cut short, by whether there is room for it
short-stated : {s : List ℕ} (p q : ℕ) {at most count : ℕ} {full : Refusal} (ms : List Match) (ks : List Mark)
    {t : Result Step Refusal} → Roomy most count full (Err (CutShort at)) t
    → (onward : ℕ → List Match → List Mark → Reading)
    → (most ≤ count → Outcome s (reading_answer (refused full))) → (count < most → Short s at)
    → Outcome s (reading_answer (after_step p q ms ks t onward))
short-stated p q ms ks (Roomy.too_many h) onward crowded short = crowded h
short-stated p q ms ks (Roomy.room h) onward crowded short = Outcome.cut_short (short h)

match-stated : {s : List ℕ} {p q at : ℕ} {ms : List Match} {ks : List Mark} {m : Match} {t : Result Step Refusal}
    → Reach s p q at ms ks → MatchAt s at m → Judged p q (length ms) at m t
    → (onward : ℕ → List Match → List Mark → Reading) → Onward s p q at onward
    → Outcome s (reading_answer (after_step p q ms ks t onward))
match-stated r d (Judged.too_many f) onward next = Outcome.too_many_matches r (omega (arith, reach-place r)) d.code
match-stated r d (Judged.room room (Weighed.empty e)) onward next = Outcome.empty_match r room d e
match-stated r d (Judged.room room (Weighed.beyond_a k a)) onward next = Outcome.beyond_a r room d k a
match-stated r d (Judged.room room (Weighed.beyond_b k a b)) onward next = Outcome.beyond_b r room d k a b
match-stated {ms} {ks} {m} r d (Judged.room room (Weighed.sound w)) onward next =
    next match_width (ms ++ m ∷ []) ks (taken r room d w) (omega arith)

mark-stated : {s : List ℕ} {p q at : ℕ} {ms : List Match} {ks : List Mark} {k : Mark} {t : Result Step Refusal}
    → Reach s p q at ms ks → MarkAt s at k → Pointed p q (length ks) at k t
    → (onward : ℕ → List Match → List Mark → Reading) → Onward s p q at onward
    → Outcome s (reading_answer (after_step p q ms ks t onward))
mark-stated r d (Pointed.too_many f) onward next = Outcome.too_many_marks r (omega (arith, reach-place r)) d.code
mark-stated r d (Pointed.room room (Measured.no_side h)) onward next = Outcome.no_such_side r room d h
mark-stated r d (Pointed.room room (Measured.beyond h)) onward next = Outcome.mark_beyond r room d h
mark-stated {ms} {ks} {k} r d (Pointed.room room (Measured.sound o)) onward next =
    next mark_width ms (ks ++ k ∷ []) (marked r room d o) (omega arith)

step-stated : {s : List ℕ} {p q at : ℕ} {ms : List Match} {ks : List Mark} {c : Command} → Reach s p q at ms ks
    → Seen s at c → (onward : ℕ → List Match → List Mark → Reading) → Onward s p q at onward
    → Outcome s (reading_answer (after_step p q ms ks (step_of p q (length ms) (length ks) at c) onward))
step-stated r (Seen.missing h) onward next = Outcome.cut_short (Short.ran_out r (omega (arith, reach-inside r)))
step-stated r (Seen.unknown h n1 n2 n3 n4 n5) onward next = Outcome.unknown_command r h n1 n2 n3 n4 n5
step-stated r (Seen.lengths b _) onward next = Outcome.second_lengths r b
step-stated r (Seen.lengths_short b _) onward next = Outcome.second_lengths r b
step-stated {p} {q} {at} {ms} r (Seen.pairing {m} d) onward next =
    match-stated r d (judged p q (length ms) at m) onward next
step-stated {p} {q} {at} {ms} {ks} r (Seen.pairing_short b h) onward next =
    short-stated p q ms ks (roomy most_matches (length ms) (TooManyMatches at) (Err (CutShort at))) onward
    (λ full. Outcome.too_many_matches r (omega (arith, reach-place r)) b) (λ room. Short.pairing r room b h)
step-stated {p} {q} {at} {ks = ks} r (Seen.marking {k} d) onward next =
    mark-stated r d (pointed p q (length ks) at k) onward next
step-stated {p} {q} {at} {ms} {ks} r (Seen.marking_short b h) onward next =
    short-stated p q ms ks (roomy most_marks (length ks) (TooManyMarks at) (Err (CutShort at))) onward
    (λ full. Outcome.too_many_marks r (omega (arith, reach-place r)) b) (λ room. Short.marking r room b h)
step-stated r (Seen.end b h) onward next = Outcome.is_admitted r b h
step-stated r (Seen.end_then_more b h) onward next = Outcome.tail r b h

from-stated : {s : List ℕ} {p q : ℕ} (bytes : ℕ) {at : ℕ} {ms : List Match} {ks : List Mark} → Reach s p q at ms ks
    → length s < bytes + at → Outcome s (reading_answer (read_from bytes p q at ms ks (drop at s)))
unfolding read_from
from-stated zero r h = absurd (omega (arith, reach-inside r))
from-stated {s} (suc bytes) {at} r h =
    step-stated r (seen s at) _
    (λ width ms' ks' more some. rw (drop-drop width at s) (from-stated bytes more (omega (arith, some))))

-- a first byte with another code
other_byte : {s : List ℕ} {code : ℕ} → code ≢ 0x4C → Byte s 0 code → Outcome s (refusal 1 0)
other_byte n b = Outcome.headless (inr (λ e. n (sym b.is ∙ e)))

match-byte : {s : List ℕ} {way : Bool} → MatchByte s 0 way → Outcome s (refusal 1 0)
match-byte (MatchByte.direct b) = other_byte (omega arith) b
match-byte (MatchByte.backward b) = other_byte (omega arith) b

lengths-stated : {s : List ℕ} {p q : ℕ} {o : Result Lengths Refusal} → LengthsAt s p q → Opens p q o
    → Outcome s (reading_answer (after_opening o (behind_lengths s)))
lengths-stated {s} l (Opens.open_them a b) = from-stated (length s) (opened l a b) (omega arith)
lengths-stated l (Opens.out_of_range n) = Outcome.length_out_of_range l n

opening-stated : {s : List ℕ} {c : Command} → Seen s 0 c
    → Outcome s (reading_answer (after_opening (opening_of c) (behind_lengths s)))
opening-stated (Seen.missing h) = Outcome.headless (inl (omega arith))
opening-stated (Seen.unknown h n _ _ _ _) = Outcome.headless (inr n)
opening-stated {s} (Seen.lengths b w) =
    lengths-stated (record { code = b; whole = w; first = refl; second = refl }) (opens (number_at s 1) (number_at s 5))
opening-stated (Seen.lengths_short b h) = Outcome.cut_short (Short.lengths b h)
opening-stated (Seen.pairing d) = match-byte d.code
opening-stated (Seen.pairing_short b _) = match-byte b
opening-stated (Seen.marking d) = other_byte (omega arith) d.code
opening-stated (Seen.marking_short b _) = other_byte (omega arith) b
opening-stated (Seen.end b _) = other_byte (omega arith) b
opening-stated (Seen.end_then_more b _) = other_byte (omega arith) b

pub outcome-stated : (s : List ℕ) → Outcome s (reading_answer (read_script s))
unfolding read_script
outcome-stated s = opening-stated (seen s 0)

-- ---- the numbers

-- a script's own refusals are 1 to 10 and 19 to 21
pub own-number : {s : List ℕ} {number place : ℕ} → Outcome s (refusal number place)
    → (number ≤ 10) ⊎ ((19 ≤ number) × (number ≤ 21))
own-number (Outcome.headless _) = inl (omega arith)
own-number (Outcome.unknown_command _ _ _ _ _ _ _) = inl (omega arith)
own-number (Outcome.cut_short _) = inl (omega arith)
own-number (Outcome.second_lengths _ _) = inl (omega arith)
own-number (Outcome.length_out_of_range _ _) = inl (omega arith)
own-number (Outcome.too_many_matches _ _ _) = inl (omega arith)
own-number (Outcome.empty_match _ _ _ _) = inl (omega arith)
own-number (Outcome.beyond_a _ _ _ _ _) = inl (omega arith)
own-number (Outcome.beyond_b _ _ _ _ _ _) = inl (omega arith)
own-number (Outcome.tail _ _ _) = inl (omega arith)
own-number (Outcome.too_many_marks _ _ _) = inr (omega arith, omega arith)
own-number (Outcome.no_such_side _ _ _ _) = inr (omega arith, omega arith)
own-number (Outcome.mark_beyond _ _ _ _) = inr (omega arith, omega arith)

-- ---- from a reading to its outcome and back

pub read-outcome : {s : List ℕ} {r : Reading} → read_script s ≡ r → Outcome s (reading_answer r)
read-outcome {s} e = subst (λ (r : Reading). Outcome s (reading_answer r)) e (outcome-stated s)

pub outcome-admitted : {s : List ℕ} {ls : List ℕ} {ms : List Match} {ks : List Mark}
    → Outcome s (value (contents ls ms ks)) → read_script s ≡ admitted ls ms ks
outcome-admitted {s} {ls} {ms} {ks} o = go (read_script s) (outcome-alone o)
  where
    go : (r : Reading) → reading_answer r ≡ value (contents ls ms ks) → r ≡ admitted ls ms ks
    go (admitted ls' ms' ks') e = cc
    go (refused f) e = let z : ◌≡◌ {A = ℕ} 0 1 = cc in absurd (omega arith)

pub record RefusedAs (s : List ℕ) (number place : ℕ) : Type 0 where
  pub refusal : Refusal
  pub read : read_script s ≡ refused refusal
  pub number_is : number_of refusal ≡ number
  pub place_is : place_of refusal ≡ place

pub outcome-refused : {s : List ℕ} {number place : ℕ} → Outcome s (refusal number place) → RefusedAs s number place
outcome-refused {s} {number} {place} o = go (read_script s) refl (outcome-alone o)
  where
    go : (r : Reading) → read_script s ≡ r → reading_answer (read_script s) ≡ refusal number place
        → RefusedAs s number place
    go (admitted ls ms ks) is e = let z : ◌≡◌ {A = ℕ} 0 1 = cc (rw is at e) in absurd (omega arith)
    go (refused f) is e =
        let same : refusal (number_of f) (place_of f) ≡ refusal number place = rw is at e in
        record { refusal = f; read = is; number_is = cc; place_is = cc }
