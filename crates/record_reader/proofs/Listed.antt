-- What reading into lists brings: the walk over the commands puts the records of the matches, and the marks.
--     record-stored     the numbers of one match, stored one behind the other
--     progress-few      no more matches and marks are passed than the script has
--     Listing           what the walk keeps
--     listing_start, listing-taken, listing-kept, listing-ends     at the start, a match or a mark later, at the end
--     record-room, mark-room     where the next one is put, there is room for it
--     unread-listed, short-listed, whole-listed     the contract of the call, by its answer
-- Assumes nothing.
use Prim.Native.Nat.{ℕ, zero, suc, ◌+◌, ◌*◌, ◌≤◌, ◌<◌}
use mathlib.Core.Path.{◌≡◌, refl, sym, ap, ◌∙◌}
use mathlib.Core.Logic.{◌⊎◌, inl, inr}
use mathlib.Core.Bool.{or-true}
use mathlib.Core.List.{List, [], ◌∷◌, ◌++◌, flat_map}
use native.Mathlib.Omega.{arith}
use borrow.Author.Tests.{lt-ltb, le-ltb}
use lib.ListN.{length, drop, set, length-append}
use Rattle.std.specs.Prelude.{Result, Ok, Err}
use Rattle.script.specs.Commands.{lengths_width, match_width, mark_width, command_of, bit_of}
use Rattle.script.specs.Steps.{step_of}
use Rattle.script.specs.Reading.{admitted, after_step, read_from, read_script, verdict_of}
use Rattle.script.specs.Columns.{matches_read, marks_read}
use Rattle.script.specs.declared.refusal.Refusal.{Refusal}
use Rattle.script.specs.declared.refusal.Refusal.TheVariants.{BufferTooShort}
use Rattle.script.specs.declared.command.Match.{Match}
use Rattle.script.specs.declared.command.Mark.{Mark}
use Rattle.script.specs.declared.step.Step.{Step}
use Rattle.script.specs.declared.Admitted.{Admitted}
use Rattle.script.proofs.Outcome.{reach-read}
use Rattle.script.proofs.Holding.{holds-admitted, reading-refused}
use Rattle.reader.specs.Walking.{Admits, next_of}
use Rattle.reader.proofs.Progress.{Progress, progress_start, step-finished, step-taken, step_kept}
use Rattle.reader.proofs.Walks.{admits-reach, next-is}
use Rattle.records.specs.Records.{record_width, numbers_of, list_of, mark_numbers, point_numbers, point_list}
use Rattle.records.specs.Storing.{Stored}
use Rattle.records.specs.Listing.{Listing as Outcome, listing_of}
use Rattle.records.specs.Demands.{listed_answer, ListingDemand}
use Rattle.records.specs.declared.Listed.{Listed}
use Rattle.records.proofs.Bytes.{Bytes}
use Rattle.records.proofs.Scripts.{flat-snoc}
use Rattle.records.proofs.Lists.{list_length, point-list-length}
use Rattle.records.proofs.Laying.{four-stores, stored-behind, stored-front}
use Rattle.records.proofs.Demands.{listing-demand}

pub record-stored : (out : List ℕ) (at : ℕ) (m : Match) {way : ℕ} → way ≡ bit_of m.reversed
    → Stored out at (numbers_of m)
    (set (set (set (set out at m.left_a) (at + 1) m.left_b) (at + 2) m.length) (at + 3) way)
record-stored out at m is = rw is (four-stores out at _ _ _ _)

-- ---- how many there are

-- what is read from an offset on holds what was read before it
reads_more : (n p q at : ℕ) (ms : List Match) (ks : List Mark) (s : List ℕ) {ls : List ℕ} {all : List Match}
    {points : List Mark} → read_from n p q at ms ks s ≡ admitted ls all points
    → (length ms ≤ length all) × (length ks ≤ length points)
unfolding read_from
reads_more zero p q at ms ks s e = let z : ◌≡◌ {A = ℕ} 0 1 = cc in absurd (omega arith)
reads_more (suc n) p q at ms ks s {ls} {all} {points} e =
    go (λ at' ms' ks' s' x. reads_more n p q at' ms' ks' s' x) (step_of p q (length ms) (length ks) at (command_of s)) e
  where
    go : ((at' : ℕ) (ms' : List Match) (ks' : List Mark) (s' : List ℕ)
        → read_from n p q at' ms' ks' s' ≡ admitted ls all points
        → (length ms' ≤ length all) × (length ks' ≤ length points))
        → (t : Result Step Refusal)
        → after_step p q ms ks t (λ width ms' ks'. read_from n p q (at + width) ms' ks' (drop width s))
        ≡ admitted ls all points
        → (length ms ≤ length all) × (length ks ≤ length points)
    go more (Err r) e = let z : ◌≡◌ {A = ℕ} 0 1 = cc in absurd (omega arith)
    go more (Ok Step.Finish) e =
        let same : ms ≡ all = cc in
        let same-marks : ks ≡ points = cc in
        omega (arith, ap length same, ap length same-marks)
    go more (Ok (Step.Take m)) e =
        omega (
          arith,
          more (at + match_width) (ms ++ m ∷ []) ks (drop match_width s) e,
          length-append ms (m ∷ []),
        )
    go more (Ok (Step.Keep k)) e =
        omega (arith, more (at + mark_width) ms (ks ++ k ∷ []) (drop mark_width s) e, length-append ks (k ∷ []))

pub progress-few : {s : List ℕ} {count marked at : ℕ} (admits : Admits s)
    → Progress s admits.admitted.p admits.admitted.q count marked at
    → (count ≤ length (matches_read (read_script s))) × (marked ≤ length (marks_read (read_script s)))
progress-few {s} {at = at} admits progress =
    let read = (holds-admitted s admits.told refl).read in
    let n = progress.counted in
    let k = progress.counted_marks in
    rw read (omega (
      arith,
      reads_more _ admits.admitted.p admits.admitted.q at progress.matches progress.points _
          (sym (reach-read progress.reach) ∙ read),
    ))

-- ---- the walk

pub record Listing (s before before-marks out points : List ℕ) (count marked at : ℕ) : Type 0 where
  pub admits : Admits s
  pub progress : Progress s admits.admitted.p admits.admitted.q count marked at
  pub stored : Stored before 0 (list_of progress.matches) out
  pub stored_marks : Stored before-marks 0 (point_list progress.points) points

module _ {s before before-marks : List ℕ} where
  pub listing_start : Admits s → Listing s before before-marks before before-marks 0 0 lengths_width
  unfolding flat_map
  listing_start admits =
      record {
        admits = admits;
        progress = progress_start (admits-reach admits);
        stored = record { is = refl; as_long = refl };
        stored_marks = record { is = refl; as_long = refl };
      }

  module _ {out points : List ℕ} {count marked at : ℕ}
      (h : Listing s before before-marks out points count marked at) {t : Step}
      (en : t ≡ next_of s at) where
    -- the byte tells the step
    et : Ok t ≡ step_of h.admits.admitted.p h.admits.admitted.q count marked at (command_of (drop at s))
    et = next-is h.admits h.progress en

    pub record-room : {m : Match} → t ≡ Step.Take m
        → record_width * length (matches_read (read_script s)) ≤ length before
        → record_width * count + record_width ≤ length out
    record-room e room =
        omega (arith, (progress-few h.admits (step-taken h.progress et (ap Ok e))).0, h.stored.as_long)

    pub mark-room : {k : Mark} → t ≡ Step.Keep k → mark_numbers * length (marks_read (read_script s)) ≤ length before-marks
        → mark_numbers * marked + mark_numbers ≤ length points
    mark-room e room =
        omega (arith, (progress-few h.admits (step_kept h.progress et (ap Ok e))).1, h.stored_marks.as_long)

    pub listing-taken : {m : Match} {out' : List ℕ} → t ≡ Step.Take m
        → Stored out (record_width * count) (numbers_of m) out'
        → Listing s before before-marks out' points (count + 1) marked (at + match_width)
    unfolding step-taken
    listing-taken {m} e put =
        let ms = h.progress.matches in
        let n = h.progress.counted in
        record {
          admits = h.admits;
          progress = step-taken h.progress et (ap Ok e);
          stored = rw (flat-snoc numbers_of ms m) (stored-behind h.stored (omega (arith, list_length ms)) put);
          stored_marks = h.stored_marks;
        }

    pub listing-kept : {k : Mark} {points' : List ℕ} → t ≡ Step.Keep k
        → Stored points (mark_numbers * marked) (point_numbers k) points'
        → Listing s before before-marks out points' count (marked + 1) (at + mark_width)
    unfolding step_kept
    listing-kept {k} e put =
        let ks = h.progress.points in
        let n = h.progress.counted_marks in
        record {
          admits = h.admits;
          progress = step_kept h.progress et (ap Ok e);
          stored = h.stored;
          stored_marks =
              rw (flat-snoc point_numbers ks k)
              (stored-behind h.stored_marks (omega (arith, point-list-length ks)) put);
        }

    pub listing-ends : t ≡ Step.Finish
        → Stored before 0 (list_of (matches_read (read_script s))) out
        × Stored before-marks 0 (point_list (marks_read (read_script s))) points
    listing-ends e = rw (step-finished h.progress et (ap Ok e)) (h.stored, h.stored_marks)

-- ---- the call

module _ (s : List ℕ) (bytes : Bytes s) (out points : List ℕ) where
  -- what the contract says of a reply and the buffers
  abbrev Contract : Result Listed Refusal → List ℕ → List ℕ → Type 0
  Contract reply out' points' =
      (reply ≡ (listing_of s out points).reply)
      × ((out' ≡ (listing_of s out points).records)
      × ((points' ≡ (listing_of s out points).marks)
      × ListingDemand s out points out' points' (listed_answer reply)))

  contract : {reply : Result Listed Refusal} {out' points' : List ℕ}
      → record { reply = reply; records = out'; marks = points' } ≡ listing_of s out points
      → Contract reply out' points'
  contract e =
      let is = ap (λ (x : Outcome). x.reply) e in
      let is' = ap (λ (x : Outcome). x.records) e in
      let is'' = ap (λ (x : Outcome). x.marks) e in
      (is, (is', (is'', listing-demand s bytes out points is is' is'')))

  admitted-listed : {p q : ℕ} {ms : List Match} {ks : List Mark} {out' points' : List ℕ}
      → read_script s ≡ admitted (p ∷ q ∷ []) ms ks → record_width * length ms ≤ length out
      → mark_numbers * length ks ≤ length points → Stored out 0 (list_of ms) out'
      → Stored points 0 (point_list ks) points' → Contract (Ok (record { p = p; q = q; count = length ms; marks = length ks })) out' points'
  admitted-listed {ms = ms} {ks = ks} e room room-marks stored stored_marks =
      let long = list_length ms in
      let long-marks = point-list-length ks in
      contract (rw (
        e,
        le-ltb (length out) (record_width * length ms) room,
        le-ltb (length points) (mark_numbers * length ks) room-marks,
        ← long,
        ← long-marks,
        stored-front stored (omega arith),
        stored-front stored_marks (omega arith),
      ))

  module _ {told : Result Admitted Refusal} (reads : told ≡ verdict_of (read_script s)) where
    pub unread-listed : {f : Refusal} → told ≡ Err f → Contract (Err f) out points
    unread-listed v = contract (rw (reading-refused s reads v))

    module _ {a : Admitted} (v : told ≡ Ok a) where
      pub short-listed : (length out < record_width * a.count) ⊎ (length points < mark_numbers * a.marks)
          → Contract (Err BufferTooShort) out points
      short-listed (inl short) =
          let held = holds-admitted s reads v in
          contract (rw (held.read, held.counted, lt-ltb (length out) (record_width * a.count) short))
      short-listed (inr short) =
          let held = holds-admitted s reads v in
          contract (rw (
            held.read,
            held.counted_marks,
            lt-ltb (length points) (mark_numbers * a.marks) short,
            or-true,
          ))

      pub whole-listed : {out' points' : List ℕ} → record_width * a.count ≤ length out
          → mark_numbers * a.marks ≤ length points → Stored out 0 (list_of (matches_read (read_script s))) out'
          → Stored points 0 (point_list (marks_read (read_script s))) points'
          → Contract (Ok (record { p = a.p; q = a.q; count = a.count; marks = a.marks })) out' points'
      whole-listed room room-marks stored stored_marks =
          let held = holds-admitted s reads v in
          let n = held.counted in
          let k = held.counted_marks in
          rw (n, k) at (admitted-listed held.read (omega arith) (omega arith) (rw held.read at stored)
          (rw held.read at stored_marks))
