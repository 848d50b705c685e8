-- Records and marks passed without a fault: what they are, and that judging goes on behind them.
--     says-judged       a record that says a match is judged as the match is
--     record-says       a record with direction 0 or 1 says the match that they read
--     says-point, point-says     two numbers say the mark that they read, and no other
--     passed-begun, marked-passed     the lengths and the counts; the records before the marks
--     passed-good, marked-on     the matches' tracks and bounds; the marks lie on A or B
--     passed-says, says-few, marked-says     each says its match, and so has direction 0 or 1, or its mark, on A or B
--     passed-list, passed-matches, marked-list, marked-points     the numbers taken are the records of the matches, and
--                       the marks, and say these again
--     judged-here       judging comes to what the next record or mark does
--     fault-judged, mark-judged, all-judged     behind those passed it comes to the next one's fault, or ends
-- Assumes nothing.
use Prim.Native.Nat.{ℕ, ◌+◌, ◌*◌, ◌%◌, ◌≤◌, ◌<◌}
use mathlib.Core.Path.{◌≡◌, refl, sym, ap, subst, ◌∙◌}
use mathlib.Core.Logic.{⊎_elim}
use mathlib.Core.Bool.{Bool, false}
use mathlib.Core.List.Memᴰ
use mathlib.Core.List.{List, [], ◌∷◌, ◌++◌, flat_map, append_assoc, append-nil, Memᴰ}
use native.Mathlib.Omega.{arith}
use native.Mathlib.Decide.{ℕ_discrete, dec_lt}
use borrow.Author.Tests.{ltb-false, eq-eqb, le-ltb}
use lib.Dec.{ltb, eqb}
use lib.ListN.{length, get_or, drop, length-append, drop_of_length-le}
use Rattle.std.specs.Prelude.{Result, Ok, Err}
use Rattle.script.specs.Commands.{bit_of}
use Rattle.script.specs.Steps.{match_judgement, mark_judgement}
use Rattle.script.specs.Outcomes.{Within, OnSequence}
use Rattle.script.specs.declared.command.Match.{Match}
use Rattle.script.specs.declared.command.Mark.{Mark}
use Rattle.script.specs.declared.refusal.Refusal.{Refusal}
use Rattle.script.proofs.Judged.{Weighed, weighed-judgement, Measured, measured-judgement, Opens, opens-step}
use Rattle.records.specs.Records.{numbers_of, list_of, records_of, no_record, record_at, match_of, matches_of}
use Rattle.records.specs.Records.{point_numbers, point_list, points_of, no_mark, point_at}
use Rattle.records.specs.Outcomes.{WayAt, Says, SaysMark, Begun, Passed, begun, passed}
use Rattle.records.specs.Outcomes.{Marked, records_passed, marked}
use Rattle.records.specs.Writing.{record_judgement, first_fault, judged_from, records_judgement, marks_judgement}
use Rattle.records.specs.Writing.{judgement_of}
use Rattle.records.proofs.Bytes.{drop-one, drop-two, drop-four}
use Rattle.records.proofs.Scripts.{flat-snoc, Tracked}
use Rattle.records.proofs.Lists.{records-length, record-held, match-said, list_back}
use Rattle.records.proofs.Lists.{points-length, point-held, point-list-back}

-- ---- one record

way-bit : {ns : List ℕ} {at : ℕ} {way : Bool} → WayAt ns at way → get_or ns at 0 ≡ bit_of way
way-bit (WayAt.direct e) = e
way-bit (WayAt.backward e) = e

way-match : {ns : List ℕ} {at : ℕ} {way : Bool} → WayAt ns at way → eqb (get_or ns at 0) 1 ≡ way
way-match (WayAt.direct e) = rw e
way-match (WayAt.backward e) = rw e

way-good : {ns : List ℕ} {at : ℕ} {way : Bool} → WayAt ns at way → ltb 1 (get_or ns at 0) ≡ false
way-good (WayAt.direct e) = rw e
way-good (WayAt.backward e) = rw e

-- a record that says a match has direction 0 or 1
pub says-few : {ns : List ℕ} {n : ℕ} {m : Match} → Says ns n m → (record_at (records_of ns) n).direction ≤ 1
says-few {ns} {n} s = rw (record-held ns n s.whole) (ltb-false 1 _ (way-good s.way))

-- a record that says a match is judged as the match is
pub says-judged : (p q number : ℕ) {ns : List ℕ} {n : ℕ} {m : Match} → Says ns n m
    → record_judgement p q number (record_at (records_of ns) n) ≡ match_judgement p q number m
says-judged p q number {ns} {n} {m} s =
    let held = record-held ns n s.whole in
    let good : ltb 1 (record_at (records_of ns) n).direction ≡ false = rw held (way-good s.way) in
    let is : match_of (record_at (records_of ns) n) ≡ m =
    rw (held, s.left_a, s.left_b, s.letters, way-match s.way) (match-said (s.on_a, s.on_b)) in
    rw good (ap (match_judgement p q number) is)

way_at : (ns : List ℕ) (at : ℕ) → get_or ns at 0 ≤ 1 → WayAt ns at (eqb (get_or ns at 0) 1)
way_at ns at h =
    elim (ℕ_discrete (get_or ns at 0) 0) [
      | yes e ↦ rw e (WayAt.direct e)
      | no n ↦ let one : get_or ns at 0 ≡ 1 = omega arith in rw one (WayAt.backward one)
    ]

pub record-says : (ns : List ℕ) (n : ℕ) → 4 * n + 4 ≤ length ns → get_or ns (4 * n + 3) 0 ≤ 1
    → Says ns n (match_of (record_at (records_of ns) n))
record-says ns n h few =
    rw (record-held ns n h)
    (record {
      whole = h;
      on_a = refl;
      on_b = refl;
      left_a = refl;
      left_b = refl;
      letters = refl;
      way = way_at ns (4 * n + 3) few;
    })

says-numbers : {ns : List ℕ} {n : ℕ} {m : Match} → Says ns n m → drop (4 * n) ns ≡ numbers_of m ++ drop (4 * n + 4) ns
says-numbers {ns} {n} s = drop-four ns 0 (4 * n) s.whole ∙ rw (s.left_a, s.left_b, s.letters, way-bit s.way)

-- ---- one mark

pub says-point : {zs : List ℕ} {n : ℕ} {k : Mark} → SaysMark zs n k → point_at (points_of zs) n ≡ k
says-point {zs} {n} s = point-held zs n s.whole ∙ rw (s.side, s.position)

pub point-says : (zs : List ℕ) (n : ℕ) → 2 * n + 2 ≤ length zs → SaysMark zs n (point_at (points_of zs) n)
point-says zs n h = rw (point-held zs n h) (record { whole = h; side = refl; position = refl })

says_two : {zs : List ℕ} {n : ℕ} {k : Mark} → SaysMark zs n k → drop (2 * n) zs ≡ point_numbers k ++ drop (2 * n + 2) zs
says_two {zs} {n} s = drop-two zs 0 (2 * n) s.whole ∙ rw (s.side, s.position)

-- ---- one after the other

-- judging one by one
pub judged-here : {X : Type 0} (judge : ℕ → X → Result (Unit {0}) Refusal) (number : ℕ) (xs : List X) (blank : X) (n : ℕ)
    → n < length xs
    → judged_from judge number (drop n xs)
    ≡ first_fault (judge number (get_or xs n blank)) (judged_from judge (number + 1) (drop (n + 1) xs))
unfolding judged_from
judged-here judge number xs blank n h = rw (drop-one xs blank n (omega arith))

-- what holds of all and of one more
snoc-all : {X : Type 0} (P : X → Type 0) {xs : List X} {x y : X} → (Memᴰ y xs → P y) → P x
    → Memᴰ y (xs ++ x ∷ []) → P y
snoc-all P {xs} all one i =
    ⊎_elim all (λ j. subst P (sym (Memᴰ.eq_of_singleton j)) one) (Memᴰ.append_cases xs i)

-- numbers that begin with those of some items, each so many wide, and of one more
module _ {X : Type 0} (f : X → List ℕ) (width : ℕ) (l : List ℕ) where
  abbrev Front : List X → Type 0
  Front xs = l ≡ flat_map f xs ++ drop (width * length xs) l

  front-next : (xs : List X) (x : X) → Front xs → drop (width * length xs) l ≡ f x ++ drop (width * length xs + width) l
      → Front (xs ++ x ∷ [])
  front-next xs x e here =
      let next : width * length xs + width ≡ width * length (xs ++ x ∷ []) =
      rw (length-append xs (x ∷ [])) (omega arith) in
      e ∙ rw (here, next, flat-snoc f xs x) (simp append_assoc)

  front-all : (xs : List X) → Front xs → length l ≡ width * length xs → flat_map f xs ≡ l
  front-all xs e all =
      sym (e ∙ rw (drop_of_length-le l {i = width * length xs} (omega arith), append-nil))

-- ---- the records passed

module _ {p q : ℕ} {ns zs : List ℕ} where
  pub passed-begun : {ms : List Match} → Passed p q ns zs ms → Begun p q ns zs
  passed-begun (begun b) = b
  passed-begun (passed r _ _) = passed-begun r

  pub passed-good : {ms : List Match} → Passed p q ns zs ms → (m : Match) → Memᴰ m ms
      → Tracked m × Within p q m
  passed-good (begun b) m i = absurd (Memᴰ.not-nil i)
  passed-good (passed r s w) m i =
      snoc-all (λ n. Tracked n × Within p q n) (λ j. passed-good r m j) ((s.on_a, s.on_b), w) i

  -- each of them says its match
  pub passed-says : {ms : List Match} → Passed p q ns zs ms → (k : ℕ) → k < length ms → (m : Match) × Says ns k m
  passed-says (begun b) k h = absurd (omega arith)
  passed-says (passed {ms} {m} r s _) k h =
      elim (dec_lt k (length ms)) [
        | yes below ↦ passed-says r k below
        | no n ↦ let last : length ms ≡ k = omega (arith, length-append ms (m ∷ [])) in (m, rw last at s)
      ]

  passed-front : {ms : List Match} → Passed p q ns zs ms → Front numbers_of 4 ns ms
  unfolding flat_map
  passed-front (begun b) = refl
  passed-front (passed {ms} {m} r s _) = front-next numbers_of 4 ns ms m (passed-front r) (says-numbers s)

  pub passed-list : {ms : List Match} → Passed p q ns zs ms → length ns ≡ 4 * length ms → list_of ms ≡ ns
  passed-list {ms} r e = front-all numbers_of 4 ns ms (passed-front r) e

  pub passed-matches : {ms : List Match} → Passed p q ns zs ms → length ns ≡ 4 * length ms → matches_of ns ≡ ms
  passed-matches {ms} r e = ap matches_of (sym (passed-list r e)) ∙ list_back ms (λ m i. (passed-good r m i).0)

  -- ---- and the marks

  pub marked-passed : {ms : List Match} {ks : List Mark} → Marked p q ns zs ms ks
      → Passed p q ns zs ms × (length ns ≡ 4 * length ms)
  marked-passed (records_passed r e) = (r, e)
  marked-passed (marked r _ _) = marked-passed r

  pub marked-on : {ms : List Match} {ks : List Mark} → Marked p q ns zs ms ks → (k : Mark) → Memᴰ k ks
      → OnSequence p q k
  marked-on (records_passed _ _) k i = absurd (Memᴰ.not-nil i)
  marked-on (marked r _ o) k i = snoc-all (OnSequence p q) (λ j. marked-on r k j) o i

  -- each of them is said, and its side is 0 or 1
  pub marked-says : {ms : List Match} {ks : List Mark} → Marked p q ns zs ms ks → (n : ℕ) → n < length ks
      → (k : Mark) × (SaysMark zs n k × OnSequence p q k)
  marked-says (records_passed _ _) n h = absurd (omega arith)
  marked-says (marked {ks} {k} r s o) n h =
      elim (dec_lt n (length ks)) [
        | yes below ↦ marked-says r n below
        | no x ↦ let last : length ks ≡ n = omega (arith, length-append ks (k ∷ [])) in (k, (rw last at s, o))
      ]

  marked-front : {ms : List Match} {ks : List Mark} → Marked p q ns zs ms ks → Front point_numbers 2 zs ks
  unfolding flat_map
  marked-front (records_passed _ _) = refl
  marked-front (marked {ks} {k} r s _) = front-next point_numbers 2 zs ks k (marked-front r) (says_two s)

  pub marked-list : {ms : List Match} {ks : List Mark} → Marked p q ns zs ms ks → length zs ≡ 2 * length ks
      → point_list ks ≡ zs
  marked-list {ks = ks} r e = front-all point_numbers 2 zs ks (marked-front r) e

  pub marked-points : {ms : List Match} {ks : List Mark} → Marked p q ns zs ms ks → length zs ≡ 2 * length ks
      → points_of zs ≡ ks
  marked-points {ks = ks} r e = ap points_of (sym (marked-list r e)) ∙ point-list-back ks

  -- ---- judging them

  begun-judged : Begun p q ns zs
      → judgement_of p q ns zs ≡ first_fault (records_judgement p q ns) (marks_judgement p q (length (records_of ns)) zs)
  begun-judged b =
      let whole = b.whole in
      let few = b.few in
      let whole_marks = b.whole_marks in
      let few_marks = b.few_marks in
      rw (
        opens-step (Opens.open_them b.p_range b.q_range),
        eq-eqb (length ns % 4) 0 (omega arith),
        eq-eqb (length zs % 2) 0 (omega arith),
        le-ltb 8192 (length ns) (omega arith),
        le-ltb 1024 (length zs) (omega arith),
      )

  -- a sound record passes judging on to the next
  passed-judged : {ms : List Match} → Passed p q ns zs ms
      → records_judgement p q ns ≡ judged_from (record_judgement p q) (length ms + 1) (drop (length ms) (records_of ns))
  passed-judged (begun b) = refl
  passed-judged (passed {ms} {m} r s w) =
      let n = length ms in
      let next : n + 1 ≡ length (ms ++ m ∷ []) = sym (length-append ms (m ∷ [])) in
      passed-judged r
      ∙ judged-here (record_judgement p q) (n + 1) (records_of ns) no_record n
      (omega (arith, records-length ns, s.whole))
      ∙ rw (says-judged p q (n + 1) s ∙ weighed-judgement (Weighed.sound w), next)

  -- and a faulty one is the list's fault
  pub fault-judged : {ms : List Match} {f : Refusal} → Passed p q ns zs ms → 4 * length ms + 4 ≤ length ns
      → record_judgement p q (length ms + 1) (record_at (records_of ns) (length ms)) ≡ Err f
      → judgement_of p q ns zs ≡ Err f
  fault-judged {ms} {f} r h e =
      let here : records_judgement p q ns ≡ Err f =
      passed-judged r
      ∙ judged-here (record_judgement p q) (length ms + 1) (records_of ns) no_record (length ms)
      (omega (arith, records-length ns))
      ∙ rw e in
      begun-judged (passed-begun r) ∙ rw here

  -- behind the last record there is none
  records-judged : {ms : List Match} → Passed p q ns zs ms → length ns ≡ 4 * length ms
      → records_judgement p q ns ≡ Ok tt
  unfolding judged_from
  records-judged {ms} r e =
      passed-judged r
      ∙ rw (drop_of_length-le (records_of ns) {i = length ms} (omega (arith, records-length ns)))

  -- a sound mark passes judging on to the next
  marked-judged : {ms : List Match} {ks : List Mark} → Marked p q ns zs ms ks
      → judgement_of p q ns zs
      ≡ judged_from (mark_judgement p q) (length ms + length ks + 1) (drop (length ks) (points_of zs))
  marked-judged {ms} (records_passed r e) =
      let all : length (records_of ns) + 1 ≡ length ms + 0 + 1 = omega (arith, records-length ns) in
      begun-judged (passed-begun r)
      ∙ rw (records-judged r e, all)
  marked-judged {ms} (marked {ks} {k} r s o) =
      let n = length ms + length ks + 1 in
      let snoc = length-append ks (k ∷ []) in
      let next : n + 1 ≡ length ms + length (ks ++ k ∷ []) + 1 = omega arith in
      marked-judged r
      ∙ judged-here (mark_judgement p q) n (points_of zs) no_mark (length ks)
      (omega (arith, points-length zs, s.whole))
      ∙ rw (says-point s, measured-judgement (Measured.sound o), next, ← snoc)

  -- and a faulty one is the lists' fault
  pub mark-judged : {ms : List Match} {ks : List Mark} {k : Mark} {f : Refusal} → Marked p q ns zs ms ks
      → SaysMark zs (length ks) k → mark_judgement p q (length ms + length ks + 1) k ≡ Err f
      → judgement_of p q ns zs ≡ Err f
  mark-judged {ms} {ks} r s e =
      marked-judged r
      ∙ judged-here (mark_judgement p q) (length ms + length ks + 1) (points_of zs) no_mark (length ks)
      (omega (arith, points-length zs, s.whole))
      ∙ rw (says-point s, e)

  -- behind the last mark there is none
  pub all-judged : {ms : List Match} {ks : List Mark} → Marked p q ns zs ms ks → length zs ≡ 2 * length ks
      → judgement_of p q ns zs ≡ Ok tt
  unfolding judged_from
  all-judged {ks = ks} r e =
      marked-judged r
      ∙ rw (drop_of_length-le (points_of zs) {i = length ks} (omega (arith, points-length zs)))
