-- What may come of writing, as the relation `WritingOutcome` states it, and the computed writing agree in both
-- directions, so that exactly one case applies.
--     Judging           the first fault of two lists, or their matches and marks, in the words of specs/Outcomes
--     judging           the computed judgement is of this kind
--     sound-directed, sound-sided     without a fault each direction is 0 or 1, and each side
--     writing-stated    the computed reply is an outcome that applies
--     writing-alone     any outcome that applies is the computed reply
-- Assumes nothing.
use Prim.Native.Nat.{ℕ, zero, suc, ◌+◌, ◌*◌, ◌/◌, ◌%◌, ◌≤◌, ◌<◌}
use mathlib.Core.Path.{◌≡◌, refl, ◌∙◌}
use mathlib.Core.Bool.{and-false}
use mathlib.Core.List.{List, [], ◌∷◌, ◌++◌}
use native.Mathlib.Omega.{arith}
use native.Mathlib.Decide.{dec_le, ℕ_discrete}
use native.Mathlib.Nat.{lt_of_not-le}
use borrow.Author.Tests.{eq-eqb, ne_eqb, lt-ltb, le-ltb}
use lib.ListN.{length, get_or, drop, length-append, drop_of_length-le}
use Rattle.std.specs.Prelude.{Result, Ok, Err}
use Rattle.script.specs.Refusals.{number_of, place_of}
use Rattle.script.specs.Answers.{Answer, refusal}
use Rattle.script.specs.Steps.{mark_judgement}
use Rattle.script.specs.Outcomes.{InRange, OnSequence}
use Rattle.script.specs.declared.command.Match.{Match}
use Rattle.script.specs.declared.command.Mark.{Mark}
use Rattle.script.specs.declared.refusal.Refusal.{Refusal}
use Rattle.script.specs.declared.refusal.Refusal.TheVariants.{LengthOutOfRange, TooManyMatches, MalformedRecords}
use Rattle.script.specs.declared.refusal.Refusal.TheVariants.{TooManyMarks}
use Rattle.script.specs.declared.step.Lengths.{Lengths}
use Rattle.script.proofs.Judged.{Weighed, weighed, weighed-judgement, Measured, measured, measured-judgement}
use Rattle.script.proofs.Judged.{Opens, opens, opens-step}
use Rattle.records.specs.Records.{records_of, no_record, record_at, match_of, matches_of, points_of, no_mark, point_at}
use Rattle.records.specs.Bytes.{bytes_of}
use Rattle.records.specs.Outcomes.{Says, SaysMark, Begun, Passed, begun, passed, Marked, records_passed, marked}
use Rattle.records.specs.Outcomes.{Malformed, WritingOutcome}
use Rattle.records.specs.Writing.{record_judgement, first_fault, judged_from, records_judgement, marks_judgement}
use Rattle.records.specs.Writing.{list_judgement, after_lengths, judgement_of, writing_of_judgement, writing_of}
use Rattle.records.specs.Demands.{written_answer}
use Rattle.records.proofs.Scripts.{bytes-length}
use Rattle.records.proofs.Lists.{records-length, record-held, points-length}
use Rattle.records.proofs.Passed.{says-judged, record-says, says-few, point-says, says-point, judged-here}
use Rattle.records.proofs.Passed.{passed-begun, passed-matches, passed-says}
use Rattle.records.proofs.Passed.{marked-passed, marked-points, marked-says}
use Rattle.records.proofs.Passed.{fault-judged, mark-judged, all-judged}

-- ---- the judgement

fault-assoc : (j later last : Result (Unit {0}) Refusal) → first_fault (first_fault j later) last ≡ first_fault j (first_fault later last)
fault-assoc (Ok _) later last = refl
fault-assoc (Err f) later last = refl

module _ (p q : ℕ) (ns zs : List ℕ) where
  pub data Judging : Result (Unit {0}) Refusal → Type 0 where
    faulty : {f : Refusal} → ((room : ℕ) → WritingOutcome p q ns zs room (refusal (number_of f) (place_of f)))
        → Judging (Err f)
    sound : {ms : List Match} {ks : List Mark} → Marked p q ns zs ms ks → length zs ≡ 2 * length ks → Judging (Ok tt)

  -- a record that says a match, by what the match comes to
  match-judging : {ms : List Match} {m : Match} {j later : Result (Unit {0}) Refusal} → Passed p q ns zs ms → Says ns (length ms) m
      → Weighed p q (length ms + 1) m j → (Passed p q ns zs (ms ++ m ∷ []) → Judging later)
      → Judging (first_fault j later)
  match-judging r s (Weighed.empty e) next = faulty (λ _. WritingOutcome.empty_match r s e)
  match-judging r s (Weighed.beyond_a k a) next = faulty (λ _. WritingOutcome.beyond_a r s k a)
  match-judging r s (Weighed.beyond_b k a b) next = faulty (λ _. WritingOutcome.beyond_b r s k a b)
  match-judging r s (Weighed.sound w) next = next (passed r s w)

  -- any record
  record-judging : {ms : List Match} {later : Result (Unit {0}) Refusal} → Passed p q ns zs ms → 4 * length ms + 4 ≤ length ns
      → ((m : Match) → Passed p q ns zs (ms ++ m ∷ []) → Judging later)
      → Judging (first_fault (record_judgement p q (length ms + 1) (record_at (records_of ns) (length ms))) later)
  record-judging {ms} r h next =
      let n = length ms in
      let r' = record_at (records_of ns) n in
      let held = record-held ns n h in
      elim (dec_le (get_or ns (4 * n + 3) 0) 1) [
        | yes few ↦ let s = record-says ns n h few in
            rw (says-judged p q (n + 1) s) (match-judging r s (weighed p q (n + 1) (match_of r')) (next (match_of r')))
        | no above ↦ let over : 1 < get_or ns (4 * n + 3) 0 = lt_of_not-le above in
            rw (held, lt-ltb 1 (get_or ns (4 * n + 3) 0) over)
            (faulty (λ _. WritingOutcome.malformed_records (Malformed.no_direction r h over)))
      ]

  -- all of them, from the one behind the matches passed on, and what comes behind
  records-judging : (left : ℕ) {ms : List Match} {later : Result (Unit {0}) Refusal} → Passed p q ns zs ms
      → length (records_of ns) ≡ length ms + left
      → ((all : List Match) → Passed p q ns zs all → length ns ≡ 4 * length all → Judging later)
      → Judging
      (first_fault (judged_from (record_judgement p q) (length ms + 1) (drop (length ms) (records_of ns))) later)
  unfolding judged_from
  records-judging zero {ms} r e next =
      let b = passed-begun r in
      rw (drop_of_length-le (records_of ns) {i = length ms} (omega arith))
      (next ms r (omega (arith, records-length ns, b.whole)))
  records-judging (suc left) {ms} r e next =
      let b = passed-begun r in
      let n = length ms in
      let here : 4 * n + 4 ≤ length ns = omega (arith, records-length ns, b.whole) in
      rw (judged-here (record_judgement p q) (n + 1) (records_of ns) no_record n (omega arith), fault-assoc)
      (record-judging r here (λ m r'.
      let snoc = length-append ms (m ∷ []) in
      rw snoc at (records-judging left r' (omega (arith, snoc)) next)))

  -- a mark, by what it comes to
  mark-judging : {ms : List Match} {ks : List Mark} {k : Mark} {j later : Result (Unit {0}) Refusal} → Marked p q ns zs ms ks
      → SaysMark zs (length ks) k → Measured p q (length ms + length ks + 1) k j
      → (Marked p q ns zs ms (ks ++ k ∷ []) → Judging later) → Judging (first_fault j later)
  mark-judging r s (Measured.no_side h) next = faulty (λ _. WritingOutcome.no_such_side r s h)
  mark-judging r s (Measured.beyond h) next = faulty (λ _. WritingOutcome.mark_beyond r s h)
  mark-judging r s (Measured.sound o) next = next (marked r s o)

  -- all of them, from the one behind the marks passed on
  marks-judging : (left : ℕ) {ms : List Match} {ks : List Mark} → Marked p q ns zs ms ks
      → length (points_of zs) ≡ length ks + left
      → Judging (judged_from (mark_judgement p q) (length ms + length ks + 1) (drop (length ks) (points_of zs)))
  unfolding judged_from
  marks-judging zero {ks = ks} r e =
      let b = passed-begun (marked-passed r).0 in
      rw (drop_of_length-le (points_of zs) {i = length ks} (omega arith))
      (sound r (omega (arith, points-length zs, b.whole_marks)))
  marks-judging (suc left) {ms} {ks} r e =
      let b = passed-begun (marked-passed r).0 in
      let n = length ks in
      let number = length ms + n + 1 in
      let k = point_at (points_of zs) n in
      let s = point-says zs n (omega (arith, points-length zs, b.whole_marks)) in
      rw (judged-here (mark_judgement p q) number (points_of zs) no_mark n (omega arith))
      (mark-judging r s (measured p q number k) (λ r'.
      let snoc = length-append ks (k ∷ []) in
      let next : length ms + length (ks ++ k ∷ []) + 1 ≡ number + 1 = omega arith in
      rw (next, snoc) at (marks-judging left r' (omega (arith, snoc)))))

  begun-judging : Begun p q ns zs
      → Judging (first_fault (records_judgement p q ns) (marks_judgement p q (length (records_of ns)) zs))
  begun-judging b =
      records-judging (length (records_of ns)) (begun b) (omega arith) (λ ms r e.
      let all : length ms + 0 + 1 ≡ length (records_of ns) + 1 = omega (arith, records-length ns) in
      rw all at (marks-judging (length (points_of zs)) (records_passed r e) (omega arith)))

  -- whole records and marks: how many there are, then each of them
  whole-judging : (n k : ℕ) → InRange p → InRange q → length ns ≡ 4 * n → length zs ≡ 2 * k
      → Judging (list_judgement p q ns zs)
  whole-judging n k a b whole whole_marks =
      rw (eq-eqb (length ns % 4) 0 (omega arith), eq-eqb (length zs % 2) 0 (omega arith))
      (elim (dec_le n 2048) [
        | no many ↦ let more = lt_of_not-le many in
            rw (lt-ltb 8192 (length ns) (omega arith))
            (faulty (λ _. WritingOutcome.too_many_matches k a b whole whole_marks more))
        | yes few ↦ rw (le-ltb 8192 (length ns) (omega arith)) (elim (dec_le k 512) [
          | no many ↦ let more = lt_of_not-le many in
              rw (lt-ltb 1024 (length zs) (omega arith))
              (faulty (λ _. WritingOutcome.too_many_marks a b whole whole_marks few more))
          | yes few_marks ↦ rw (le-ltb 1024 (length zs) (omega arith))
              (begun-judging (record {
                p_range = a;
                q_range = b;
                count = n;
                whole = whole;
                few = few;
                marks = k;
                whole_marks = whole_marks;
                few_marks = few_marks;
              }))
        ])
      ])

  -- lengths in range: the counts of numbers, then the lists
  list-judging : InRange p → InRange q → Judging (list_judgement p q ns zs)
  list-judging a b =
      elim (ℕ_discrete (length ns % 4) 0) [
        | no n ↦ rw (ne_eqb (length ns % 4) 0 n)
            (faulty (λ _. WritingOutcome.malformed_records (Malformed.broken_off a b (λ k e. n (omega arith)))))
        | yes e ↦ elim (ℕ_discrete (length zs % 2) 0) [
          | no n ↦ rw (eq-eqb (length ns % 4) 0 e, ne_eqb (length zs % 2) 0 n)
              (faulty (λ _. WritingOutcome.malformed_records (Malformed.odd a b (λ k e. n (omega arith)))))
          | yes e' ↦ let whole : length ns ≡ 4 * (length ns / 4) = omega arith in
              let whole_marks : length zs ≡ 2 * (length zs / 2) = omega arith in
              whole-judging (length ns / 4) (length zs / 2) a b whole whole_marks
        ]
      ]

  lengths-judging : {o : Result Lengths Refusal} → Opens p q o → Judging (after_lengths o (list_judgement p q ns zs))
  lengths-judging (Opens.open_them a b) = list-judging a b
  lengths-judging (Opens.out_of_range n) = faulty (λ _. WritingOutcome.length_out_of_range n)

  pub judging : Judging (judgement_of p q ns zs)
  judging = lengths-judging (opens p q)

  -- a sound judgement is of records and marks passed
  record SoundLists : Type 0 where
    matches : List Match
    marks : List Mark
    passed : Marked p q ns zs matches marks
    whole : length zs ≡ 2 * length marks

  sound-lists : judgement_of p q ns zs ≡ Ok tt → SoundLists
  sound-lists is = go judging is
    where
      go : {j : Result (Unit {0}) Refusal} → Judging j → j ≡ Ok tt → SoundLists
      go (faulty o) e = let z : ◌≡◌ {A = ℕ} 0 1 = cc in absurd (omega arith)
      go (sound {ms} {ks} r e) _ = record { matches = ms; marks = ks; passed = r; whole = e }

  -- of a list without a fault each record has direction 0 or 1
  pub sound-directed : judgement_of p q ns zs ≡ Ok tt → (k : ℕ) → k < length (records_of ns)
      → (record_at (records_of ns) k).direction ≤ 1
  sound-directed is k h =
      let l = sound-lists is in
      let r = marked-passed l.passed in
      says-few (passed-says r.0 k (omega (arith, records-length ns, r.1))).1

  -- and each mark side 0 or 1
  on-side : {k : Mark} → OnSequence p q k → k.side ≤ 1
  on-side (OnSequence.on_a e _) = omega arith
  on-side (OnSequence.on_b e _) = omega arith

  pub sound-sided : judgement_of p q ns zs ≡ Ok tt → (n : ℕ) → n < length (points_of zs)
      → (point_at (points_of zs) n).side ≤ 1
  sound-sided is n h =
      let l = sound-lists is in
      let s = marked-says l.passed n (omega (arith, points-length zs, l.whole)) in
      rw (says-point s.1.0) (on-side s.1.1)

  -- ---- the computed reply is an outcome that applies

  -- the bytes of lists without a fault
  written-length : {ms : List Match} {ks : List Mark} → Marked p q ns zs ms ks → length zs ≡ 2 * length ks
      → length (bytes_of p q (matches_of ns) (points_of zs)) ≡ 10 + 13 * length ms + 6 * length ks
  written-length r e =
      let x = marked-passed r in
      bytes-length p q (matches_of ns) (points_of zs)
      ∙ rw (passed-matches x.0 x.1, marked-points r e)

  module _ (out : List ℕ) where
    stated-by : {j : Result (Unit {0}) Refusal} → Judging j
        → WritingOutcome p q ns zs (length out)
        (written_answer (writing_of_judgement j (bytes_of p q (matches_of ns) (points_of zs)) out).reply)
    stated-by (faulty o) = o (length out)
    stated-by (sound {ms} {ks} r e) =
        let long = written-length r e in
        let bytes = bytes_of p q (matches_of ns) (points_of zs) in
        elim (dec_le (10 + 13 * length ms + 6 * length ks) (length out)) [
          | yes room ↦ rw (le-ltb (length out) (length bytes) (omega arith), long)
              (WritingOutcome.is_written r e room)
          | no short ↦ let less = lt_of_not-le short in
              rw (lt-ltb (length out) (length bytes) (omega arith))
              (WritingOutcome.buffer_too_short r e less)
        ]

    pub writing-stated : WritingOutcome p q ns zs (length out) (written_answer (writing_of p q ns zs out).reply)
    writing-stated = stated-by judging

    -- ---- any outcome that applies is the computed reply

    refused-alone : (f : Refusal) → judgement_of p q ns zs ≡ Err f
        → refusal (number_of f) (place_of f) ≡ written_answer (writing_of p q ns zs out).reply
    refused-alone f e = rw e

    opened-judged : InRange p → InRange q → judgement_of p q ns zs ≡ list_judgement p q ns zs
    opened-judged a b = rw (opens-step (Opens.open_them a b))

    malformed-alone : {place : ℕ} → Malformed p q ns zs place
        → refusal 15 place ≡ written_answer (writing_of p q ns zs out).reply
    malformed-alone (Malformed.broken_off a b n) =
        refused-alone (MalformedRecords 0)
        (opened-judged a b ∙ rw (ne_eqb (length ns % 4) 0 (λ e. n (length ns / 4) (omega arith))))
    malformed-alone (Malformed.odd a b n) =
        refused-alone (MalformedRecords 0)
        (opened-judged a b ∙ rw (ne_eqb (length zs % 2) 0 (λ e. n (length zs / 2) (omega arith)), and-false))
    malformed-alone (Malformed.no_direction {ms} r h over) =
        refused-alone (MalformedRecords (length ms + 1))
        (fault-judged r h (rw (record-held ns (length ms) h, lt-ltb 1 (get_or ns (4 * length ms + 3) 0) over)))

    match-alone : {ms : List Match} {m : Match} {f : Refusal} → Passed p q ns zs ms → Says ns (length ms) m
        → Weighed p q (length ms + 1) m (Err f)
        → refusal (number_of f) (place_of f) ≡ written_answer (writing_of p q ns zs out).reply
    match-alone {ms} {f = f} r s w =
        refused-alone f (fault-judged r s.whole (says-judged p q (length ms + 1) s ∙ weighed-judgement w))

    mark-alone : {ms : List Match} {ks : List Mark} {k : Mark} {f : Refusal} → Marked p q ns zs ms ks
        → SaysMark zs (length ks) k → Measured p q (length ms + length ks + 1) k (Err f)
        → refusal (number_of f) (place_of f) ≡ written_answer (writing_of p q ns zs out).reply
    mark-alone {f = f} r s w = refused-alone f (mark-judged r s (measured-judgement w))

    pub writing-alone : {a : Answer ℕ} → WritingOutcome p q ns zs (length out) a
        → a ≡ written_answer (writing_of p q ns zs out).reply
    writing-alone (WritingOutcome.length_out_of_range n) =
        refused-alone LengthOutOfRange (rw (opens-step (Opens.out_of_range n)))
    writing-alone (WritingOutcome.malformed_records x) = malformed-alone x
    writing-alone (WritingOutcome.too_many_matches k a b whole whole_marks many) =
        refused-alone (TooManyMatches 0) (opened-judged a b
        ∙ rw (
          eq-eqb (length ns % 4) 0 (omega arith),
          eq-eqb (length zs % 2) 0 (omega arith),
          lt-ltb 8192 (length ns) (omega arith),
        ))
    writing-alone (WritingOutcome.too_many_marks a b whole whole_marks few many) =
        refused-alone (TooManyMarks 0) (opened-judged a b
        ∙ rw (
          eq-eqb (length ns % 4) 0 (omega arith),
          eq-eqb (length zs % 2) 0 (omega arith),
          le-ltb 8192 (length ns) (omega arith),
          lt-ltb 1024 (length zs) (omega arith),
        ))
    writing-alone (WritingOutcome.empty_match r s e) = match-alone r s (Weighed.empty e)
    writing-alone (WritingOutcome.beyond_a r s k a) = match-alone r s (Weighed.beyond_a k a)
    writing-alone (WritingOutcome.beyond_b r s k a b) = match-alone r s (Weighed.beyond_b k a b)
    writing-alone (WritingOutcome.no_such_side r s h) = mark-alone r s (Measured.no_side h)
    writing-alone (WritingOutcome.mark_beyond r s h) = mark-alone r s (Measured.beyond h)
    writing-alone (WritingOutcome.buffer_too_short r e short) =
        rw (
          all-judged r e,
          lt-ltb (length out) (length (bytes_of p q (matches_of ns) (points_of zs))) (omega (arith, written-length r e)),
        )
    writing-alone (WritingOutcome.is_written r e room) =
        rw (
          all-judged r e,
          le-ltb (length out) (length (bytes_of p q (matches_of ns) (points_of zs))) (omega (arith, written-length r e)),
          written-length r e,
        )
