-- The two calls as `writing_of` and `listing_of` define them meet their demands.
--     writing-demand      of any reply and buffer that equal `writing_of`'s
--     listing-demand      likewise of `listing_of`, for a string of bytes
-- Each undoes the other: what is written is admitted and holds the matches of the records and the marks, the matches
-- first (`written-admitted`, `written-first`), and what is read is written from these, if its matches stand first
-- (`admitted-written`). Assumes nothing.
use Prim.Native.Nat.{ℕ, ◌+◌, ◌*◌, ◌%◌, ◌≤◌, ◌<◌}
use mathlib.Core.Path.{◌≡◌, refl, sym}
use mathlib.Core.Logic.{◌⊎◌, inl, inr}
use mathlib.Core.Bool.{Bool, true, false, or-true}
use mathlib.Core.List.Memᴰ
use mathlib.Core.List.{List, [], ◌∷◌, ◌++◌, flat_map, append_assoc, Memᴰ}
use mathlib.Core.List.Memᴰ.{head as here}
use mathlib.Core.List.Memᴰ.{tail as there}
use native.Mathlib.Omega.{arith}
use native.Mathlib.Decide.{dec_le}
use native.Mathlib.Nat.{lt_of_not-le}
use borrow.Author.Tests.{eq-eqb, lt-ltb, le-ltb}
use lib.Dec.{ltb}
use lib.ListN.{length, get_or, take, drop, length-append, length-drop}
use lib.Seq.{take_at, drop_at, get_or-append-add, get_or-append_seam}
use Rattle.std.specs.Prelude.{Result, Ok, Err}
use Rattle.script.specs.Refusals.{number_of, place_of}
use Rattle.script.specs.Commands.{bit_of}
use Rattle.script.specs.Steps.{match_judgement, mark_judgement}
use Rattle.script.specs.Reading.{Reading, admitted, refused, read_script}
use Rattle.script.specs.Answers.{Answer, value, refusal, contents}
use Rattle.script.specs.Outcomes.{Within, OnSequence, Outcome}
use Rattle.script.specs.Demands.{Counted, counted}
use Rattle.script.specs.declared.command.Match.{Match}
use Rattle.script.specs.declared.command.Mark.{Mark}
use Rattle.script.specs.declared.refusal.Refusal.{Refusal}
use Rattle.script.specs.declared.refusal.Refusal.TheVariants.{BufferTooShort}
use Rattle.script.proofs.Outcome.{reach-place, reach-range, reach-tracks, reach-within, reach-on}
use Rattle.script.proofs.Outcome.{read-outcome, outcome-admitted, outcome-refused}
use Rattle.script.proofs.Holding.{admitted-ended}
use Rattle.script.proofs.Judged.{Weighed, weighed-judgement, Measured, measured-judgement, Opens, opens-step}
use Rattle.records.specs.Records.{numbers_of, list_of, records_of, matches_of, point_numbers, point_list, points_of}
use Rattle.records.specs.Bytes.{bytes_of}
use Rattle.records.specs.Outcomes.{WayAt, Says, SaysMark, Marked, ListingOutcome}
use Rattle.records.specs.Writing.{record_judgement, judged_from, Writing, writing_of_judgement, writing_of}
use Rattle.records.specs.Listing.{Listing, listing_of_reading, listing_of}
use Rattle.records.specs.Demands.{written_answer, Back, WritingDemand, listed_answer, Again, ListingDemand}
use Rattle.records.specs.declared.Listed.{Listed}
use Rattle.records.proofs.Bytes.{Bytes}
use Rattle.records.proofs.Scripts.{flat_append, bytes-length, Tracked}
use Rattle.records.proofs.Scripts.{written-first, written-admitted, admitted-written}
use Rattle.records.proofs.Lists.{list_length, list_back, point-list-length, point-list-back}
use Rattle.records.proofs.Passed.{passed-begun, passed-good, passed-list, passed-matches}
use Rattle.records.proofs.Passed.{marked-passed, marked-on, marked-list, marked-points}
use Rattle.records.proofs.WritingOutcome.{Judging, faulty, sound, judging, writing-stated, writing-alone}

-- a refusal is no value
no_value : {X : Type 0} {n place : ℕ} {x : X} → refusal n place ≡ value x → ⊥
no_value e = let z : ◌≡◌ {A = ℕ} 0 1 = cc in omega arith

-- what stands at a buffer's start, and what was behind it
module _ (xs out : List ℕ) (room : length xs ≤ length out) where
  over-length : length (xs ++ drop (length xs) out) ≡ length out
  over-length = omega (arith, length-append xs (drop (length xs) out), length-drop (length xs) out)

  over-past : {n : ℕ} → n ≡ length xs → drop n (xs ++ drop (length xs) out) ≡ drop n out
  over-past e = rw e (drop_at xs _ (length xs) refl)

  over-front : {n : ℕ} → n ≡ length xs → take n (xs ++ drop (length xs) out) ≡ xs
  over-front e = rw e (take_at xs _ (length xs) refl)

-- ---- writing

module _ (p q : ℕ) (ns zs : List ℕ) where
  -- lists without a fault come back
  sound_back : {ms : List Match} {ks : List Mark} → Marked p q ns zs ms ks → length zs ≡ 2 * length ks
      → Back p q ns zs (bytes_of p q (matches_of ns) (points_of zs))
  sound_back {ms} {ks} r e =
      let r' = (marked-passed r).0 in
      let e' = (marked-passed r).1 in
      let b = passed-begun r' in
      let listed = passed-list r' e' in
      let listed_marks = marked-list r e in
      let few : length ms ≤ 2048 = omega (arith, b.whole, b.few) in
      let whole : Outcome (bytes_of p q ms ks) (value (contents (p ∷ q ∷ []) ms ks)) =
      written-admitted b.p_range b.q_range ms ks (passed-good r') few (marked-on r)
      (omega (arith, b.whole_marks, b.few_marks)) in
      rw (passed-matches r' e', marked-points r e) (record {
        matches = ms;
        marks = ks;
        admitted = whole;
        listed = listed;
        listed_marks = listed_marks;
        first = record {
          p = p;
          q = q;
          matches = ms;
          marks = ks;
          admitted = whole;
          at = 9 + 13 * length ms;
          first = written-first b.p_range b.q_range ms ks (passed-good r') few;
        };
        back = λ lent lent-marks room room-marks.
            rw (
              outcome-admitted whole,
              le-ltb (length lent) (4 * length ms) (omega arith),
              le-ltb (length lent-marks) (2 * length ks) (omega arith),
              listed,
              listed_marks,
              e,
              e',
            );
      })

  module _ (out : List ℕ) where
    -- what the demand says of the buffer
    record Leaves (w : Writing) : Type 0 where
      as_long : length w.script ≡ length out
      refused : {n place : ℕ} → written_answer w.reply ≡ refusal n place → w.script ≡ out
      past : {n : ℕ} → written_answer w.reply ≡ value n → drop n w.script ≡ drop n out
      undone : {n : ℕ} → written_answer w.reply ≡ value n → Back p q ns zs (take n w.script)

    refused-leaves : (f : Refusal) → Leaves (record { reply = Err f; script = out })
    refused-leaves f =
        record {
          as_long = refl;
          refused = λ _. refl;
          past = λ e. absurd (no_value e);
          undone = λ e. absurd (no_value e);
        }

    written-leaves : {bytes : List ℕ} → Back p q ns zs bytes → length bytes ≤ length out
        → Leaves (record { reply = Ok (length bytes); script = bytes ++ drop (length bytes) out })
    written-leaves {bytes} back room =
        record {
          as_long = over-length bytes out room;
          refused = λ e. absurd (no_value (sym e));
          past = λ {n} e. let is : n ≡ length bytes = cc in over-past bytes out room is;
          undone = λ {n} e. let is : n ≡ length bytes = cc in rw (over-front bytes out room is) back;
        }

    leaves_by : {j : Result (Unit {0}) Refusal} → Judging p q ns zs j
        → Leaves (writing_of_judgement j (bytes_of p q (matches_of ns) (points_of zs)) out)
    leaves_by (faulty {f} _) = refused-leaves f
    leaves_by (sound r e) =
        let bytes = bytes_of p q (matches_of ns) (points_of zs) in
        elim (dec_le (length bytes) (length out)) [
          | yes room ↦ rw (le-ltb (length out) (length bytes) room) (written-leaves (sound_back r e) room)
          | no short ↦ rw (lt-ltb (length out) (length bytes) (lt_of_not-le short)) (refused-leaves BufferTooShort)
        ]

    pub writing-demand : {reply : Result ℕ Refusal} {out' : List ℕ} → reply ≡ (writing_of p q ns zs out).reply
        → out' ≡ (writing_of p q ns zs out).script → WritingDemand p q ns zs out out' (written_answer reply)
    writing-demand is is' =
        let leaves = leaves_by (judging p q ns zs) in
        rw (is, is') (record {
          stated = writing-stated p q ns zs out;
          alone = λ _ o. writing-alone p q ns zs out o;
          as_long = leaves.as_long;
          refused = leaves.refused;
          past = leaves.past;
          undone = leaves.undone;
        })

-- ---- reading into lists

bit-few : (way : Bool) → ltb 1 (bit_of way) ≡ false
bit-few true = refl
bit-few false = refl

bit-way : (ns : List ℕ) (at : ℕ) (way : Bool) → get_or ns at 0 ≡ bit_of way → WayAt ns at way
bit-way ns at true e = WayAt.backward e
bit-way ns at false e = WayAt.direct e

-- a number behind others
at-behind : (before ns : List ℕ) {n : ℕ} → length before ≡ n → (i : ℕ)
    → get_or (before ++ ns) (n + i) 0 ≡ get_or ns i 0
at-behind before ns e i = rw (← e) (get_or-append-add before ns i 0)

says_at : (before behind : List ℕ) (m : Match) → Tracked m → {n : ℕ} → length before ≡ 4 * n
    → Says (before ++ (numbers_of m ++ behind)) n m
says_at before behind m tracked {n} e =
    let ns = numbers_of m ++ behind in
    let at = at-behind before ns e in
    record {
      whole = omega (arith, length-append before ns, length-append (numbers_of m) behind);
      on_a = tracked.0;
      on_b = tracked.1;
      left_a = rw (← e) (get_or-append_seam before m.left_a _ 0);
      left_b = at 1;
      letters = at 2;
      way = bit-way _ (4 * n + 3) m.reversed (at 3);
    }

-- the record behind n others stands n records on
list-says : (others rest : List Match) (m : Match) → Tracked m → (tail : List ℕ)
    → Says (list_of (others ++ m ∷ rest) ++ tail) (length others) m
unfolding flat_map
list-says others rest m tracked tail =
    rw (flat_append numbers_of others (m ∷ rest), append_assoc (list_of others), append_assoc (numbers_of m))
    (says_at (list_of others) _ m tracked (list_length others))

-- and likewise a mark
points-say : (others rest : List Mark) (k : Mark) (tail : List ℕ)
    → SaysMark (point_list (others ++ k ∷ rest) ++ tail) (length others) k
unfolding flat_map
points-say others rest k tail =
    let e = point-list-length others in
    let behind = flat_map point_numbers rest ++ tail in
    let zs = point_numbers k ++ behind in
    rw (flat_append point_numbers others (k ∷ rest), append_assoc (point_list others), append_assoc (point_numbers k))
    (record {
      whole = omega (arith, length-append (point_list others) zs, length-append (point_numbers k) behind);
      side = rw (← e) (get_or-append_seam (point_list others) k.side _ 0);
      position = at-behind (point_list others) zs e 1;
    })

-- matches within A and B, as records, have no fault
list-judged : (p q : ℕ) (ms : List Match) (number : ℕ) → ((m : Match) → Memᴰ m ms → Within p q m)
    → judged_from (record_judgement p q) number (records_of (list_of ms)) ≡ Ok tt
unfolding judged_from records_of flat_map
list-judged p q [] number within = refl
list-judged p q (m ∷ ms) number within =
    let judged : match_judgement p q number m ≡ Ok tt = weighed-judgement (Weighed.sound (within m (here refl))) in
    rw (bit-few m.reversed, judged) (list-judged p q ms (number + 1) (λ n i. within n (there i)))

-- nor have marks on them
points-judged : (p q : ℕ) (ks : List Mark) (number : ℕ) → ((k : Mark) → Memᴰ k ks → OnSequence p q k)
    → judged_from (mark_judgement p q) number ks ≡ Ok tt
unfolding judged_from
points-judged p q [] number on = refl
points-judged p q (k ∷ ks) number on =
    let judged : mark_judgement p q number k ≡ Ok tt = measured-judgement (Measured.sound (on k (here refl))) in
    rw judged (points-judged p q ks (number + 1) (λ n i. on n (there i)))

module _ (s : List ℕ) (bytes : Bytes s) where
  -- an admitted script comes back, if its matches stand first
  admitted-again : {p q : ℕ} {ms : List Match} {ks : List Mark} → Outcome s (value (contents (p ∷ q ∷ []) ms ks))
      → Again s p q (list_of ms) (point_list ks)
  admitted-again {p} {q} {ms} {ks} (Outcome.is_admitted r b e) =
      let o : Outcome s (value (contents (p ∷ q ∷ []) ms ks)) = Outcome.is_admitted r b e in
      let ranges = reach-range r in
      let place = reach-place r in
      let long = list_length ms in
      let long-marks = point-list-length ks in
      let as_long : length (bytes_of p q ms ks) ≡ length s = omega (arith, bytes-length p q ms ks) in
      record {
        script = bytes_of p q ms ks;
        written = λ lent room.
            rw (
              opens-step (Opens.open_them ranges.0 ranges.1),
              eq-eqb (length (list_of ms) % 4) 0 (omega arith),
              eq-eqb (length (point_list ks) % 2) 0 (omega arith),
              le-ltb 8192 (length (list_of ms)) (omega arith),
              le-ltb 1024 (length (point_list ks)) (omega arith),
              list-judged p q ms 1 (λ m i. reach-within r i),
              point-list-back ks,
              points-judged p q ks (length (records_of (list_of ms)) + 1) (λ k i. reach-on r i),
              list_back ms (λ m i. reach-tracks r i),
              as_long,
              le-ltb (length lent) (length s) room,
            );
        same = λ f.
            let x = outcome-admitted o in
            let y = outcome-admitted f.admitted in
            let p-is : f.p ≡ p = cc in
            let q-is : f.q ≡ q = cc in
            let ms-is : f.matches ≡ ms = cc in
            admitted-written s bytes o (rw (p-is, q-is, ms-is) at f.first);
        only = λ is.
            let first = written-first ranges.0 ranges.1 ms ks (λ m i. (reach-tracks r i, reach-within r i))
            (omega arith) in
            record {
              p = p;
              q = q;
              matches = ms;
              marks = ks;
              admitted = o;
              at = 9 + 13 * length ms;
              first = rw is at first;
            };
      }

  module _ (out points : List ℕ) where
    listing-alone : {a : Answer Counted} → ListingOutcome s (length out) (length points) a
        → a ≡ listed_answer (listing_of s out points).reply
    listing-alone (ListingOutcome.script_refused o) = let f = outcome-refused o in rw f.read (cc)
    listing-alone (ListingOutcome.buffer_too_short {ms = ms} o (inl short)) =
        rw (outcome-admitted o, lt-ltb (length out) (4 * length ms) short)
    listing-alone (ListingOutcome.buffer_too_short {ks = ks} o (inr short)) =
        rw (outcome-admitted o, lt-ltb (length points) (2 * length ks) short, or-true)
    listing-alone (ListingOutcome.is_listed {ms = ms} {ks = ks} o room room-marks) =
        rw (
          outcome-admitted o,
          le-ltb (length out) (4 * length ms) room,
          le-ltb (length points) (2 * length ks) room-marks,
        )

    -- what the demand says of the buffers, and of the answer
    record Lists (l : Listing) : Type 0 where
      stated : ListingOutcome s (length out) (length points) (listed_answer l.reply)
      as_long : length l.records ≡ length out
      marks_as_long : length l.marks ≡ length points
      refused : {n place : ℕ} → listed_answer l.reply ≡ refusal n place → l.records ≡ out
      marks_refused : {n place : ℕ} → listed_answer l.reply ≡ refusal n place → l.marks ≡ points
      past : {p q count marks : ℕ} → listed_answer l.reply ≡ value (counted p q count marks)
          → drop (4 * count) l.records ≡ drop (4 * count) out
      marks_past : {p q count marks : ℕ} → listed_answer l.reply ≡ value (counted p q count marks)
          → drop (2 * marks) l.marks ≡ drop (2 * marks) points
      held : {p q count marks : ℕ} → listed_answer l.reply ≡ value (counted p q count marks)
          → (others rest : List Match) (m : Match) → {ls : List ℕ} {ks : List Mark}
          → Outcome s (value (contents ls (others ++ m ∷ rest) ks)) → Says l.records (length others) m
      marks_held : {p q count marks : ℕ} → listed_answer l.reply ≡ value (counted p q count marks)
          → (others rest : List Mark) (k : Mark) → {ls : List ℕ} {ms : List Match}
          → Outcome s (value (contents ls ms (others ++ k ∷ rest))) → SaysMark l.marks (length others) k
      undone : {p q count marks : ℕ} → listed_answer l.reply ≡ value (counted p q count marks)
          → Again s p q (take (4 * count) l.records) (take (2 * marks) l.marks)

    refused-lists : (f : Refusal) → ListingOutcome s (length out) (length points) (refusal (number_of f) (place_of f))
        → Lists (record { reply = Err f; records = out; marks = points })
    refused-lists f o =
        record {
          stated = o;
          as_long = refl;
          marks_as_long = refl;
          refused = λ _. refl;
          marks_refused = λ _. refl;
          past = λ e. absurd (no_value e);
          marks_past = λ e. absurd (no_value e);
          held = λ e. absurd (no_value e);
          marks_held = λ e. absurd (no_value e);
          undone = λ e. absurd (no_value e);
        }

    listed-lists : {p q : ℕ} {ms : List Match} {ks : List Mark} → Outcome s (value (contents (p ∷ q ∷ []) ms ks))
        → 4 * length ms ≤ length out → 2 * length ks ≤ length points
        → Lists (record {
          reply = Ok (record { p = p; q = q; count = length ms; marks = length ks });
          records = list_of ms ++ drop (4 * length ms) out;
          marks = point_list ks ++ drop (2 * length ks) points;
        })
    listed-lists {p} {q} {ms} {ks} o room room-marks =
        let long = list_length ms in
        let long-marks = point-list-length ks in
        let fits : length (list_of ms) ≤ length out = omega arith in
        let fits-marks : length (point_list ks) ≤ length points = omega arith in
        rw (← long, ← long-marks) (record {
          stated = ListingOutcome.is_listed o room room-marks;
          as_long = over-length (list_of ms) out fits;
          marks_as_long = over-length (point_list ks) points fits-marks;
          refused = λ e. absurd (no_value (sym e));
          marks_refused = λ e. absurd (no_value (sym e));
          past = λ {count} e.
              let is : count ≡ length ms = cc in
              over-past (list_of ms) out fits {n = 4 * count} (omega arith);
          marks_past = λ {marks} e.
              let is : marks ≡ length ks = cc in
              over-past (point_list ks) points fits-marks {n = 2 * marks} (omega arith);
          held = λ e others rest m o'.
              let same : ms ≡ others ++ m ∷ rest = cc (outcome-admitted o, outcome-admitted o') in
              let reach = (admitted-ended (outcome-admitted o')).reach in
              let tracked = reach-tracks reach (Memᴰ.append_right others (here {xs = rest} refl)) in
              rw same (list-says others rest m tracked _);
          marks_held = λ e others rest k o'.
              let same : ks ≡ others ++ k ∷ rest = cc (outcome-admitted o, outcome-admitted o') in
              rw same (points-say others rest k _);
          undone = λ {p = p'} {q = q'} {count} {marks} e.
              let p-is : p' ≡ p = cc in
              let q-is : q' ≡ q = cc in
              let count-is : count ≡ length ms = cc in
              let marks-is : marks ≡ length ks = cc in
              rw (
                p-is,
                q-is,
                over-front (list_of ms) out fits {n = 4 * count} (omega arith),
                over-front (point_list ks) points fits-marks {n = 2 * marks} (omega arith),
              )
              (admitted-again o);
        })

    lists-by : (x : Reading) → read_script s ≡ x → Lists (listing_of_reading x out points)
    lists-by (refused f) e = refused-lists f (ListingOutcome.script_refused (read-outcome e))
    lists-by (admitted ls ms ks) e =
        let x = admitted-ended e in
        let lengths = x.lengths in
        let o : Outcome s (value (contents (x.p ∷ x.q ∷ []) ms ks)) = rw lengths at (read-outcome e) in
        let short : (length out < 4 * length ms) ⊎ (length points < 2 * length ks)
        → Lists (record { reply = Err BufferTooShort; records = out; marks = points }) =
        λ less. refused-lists BufferTooShort (ListingOutcome.buffer_too_short o less) in
        elim (dec_le (4 * length ms) (length out)) [
          | no less ↦ let h = lt_of_not-le less in rw (lt-ltb (length out) (4 * length ms) h) (short (inl h))
          | yes room ↦ rw (le-ltb (length out) (4 * length ms) room) (elim (dec_le (2 * length ks) (length points)) [
            | no less ↦ let h = lt_of_not-le less in rw (lt-ltb (length points) (2 * length ks) h) (short (inr h))
            | yes room-marks ↦ rw (le-ltb (length points) (2 * length ks) room-marks, lengths)
                (listed-lists o room room-marks)
          ])
        ]

    pub listing-demand : {reply : Result Listed Refusal} {out' points' : List ℕ} → reply ≡ (listing_of s out points).reply
        → out' ≡ (listing_of s out points).records → points' ≡ (listing_of s out points).marks
        → ListingDemand s out points out' points' (listed_answer reply)
    listing-demand is is' is'' =
        let lists = lists-by (read_script s) refl in
        rw (is, is', is'') (record {
          stated = lists.stated;
          alone = λ _ o. listing-alone o;
          as_long = lists.as_long;
          marks_as_long = lists.marks_as_long;
          refused = lists.refused;
          marks_refused = lists.marks_refused;
          past = lists.past;
          marks_past = lists.marks_past;
          held = lists.held;
          marks_held = lists.marks_held;
          undone = lists.undone;
        })
