-- Through the doors each of writing and reading lists undoes the other.
--     write-then-read     the records and marks that were written are read back, with their lengths
--     read-then-write     of a script that was read a script is written, and it is this one, byte for byte, just if its
--                         matches stand before its marks
-- 02, #101: "Each undoes the other, bytes to records to bytes and records to bytes to records"; #106: "only scripts in
-- that order come back byte for byte". Assumes nothing.
use Prim.Native.Nat.{ℕ, ◌*◌, ◌≤◌}
use mathlib.Core.Path.{◌≡◌, refl, sym, ap, ◌∙◌}
use mathlib.Core.List.{List, ◌++◌}
use native.Mathlib.Omega.{arith}
use lib.ListN.{length, take, drop}
use Rattle.std.specs.Prelude.{Result, Ok, Err}
use Rattle.script.specs.declared.refusal.Refusal.{Refusal}
use Rattle.records.specs.Writing.{writing_of}
use Rattle.records.specs.Listing.{listing_of}
use Rattle.records.specs.Demands.{MatchesFirst}
use Rattle.records.specs.declared.Listed.{Listed}
use Rattle.records.proofs.Bytes.{Bytes}
use Rattle.records.proofs.Lists.{list_length, point-list-length}
use Rattle.records.proofs.Demands.{writing-demand, listing-demand}
use Rattle.doors.specs.Doors.{door, Read, write_door, of_listed, records_door}
use Rattle.doors.proofs.Agreement.{number-some}

-- ---- records to bytes to records

-- the reader's door on a script gives these lengths, records and marks, in any buffers that have room for them
record ReadBack (p q : ℕ) (ns zs script lent points : List ℕ) (place : ℕ) (was : Read) : Type 0 where
  count : ℕ
  marks : ℕ
  counted : 4 * count ≡ length ns
  counted_marks : 2 * marks ≡ length zs
  told :
      records_door script lent points place was
      ≡ record { number = 0; place = place; given = record { p = p; q = q; count = count; marks = marks } }
  held : (listing_of script lent points).records ≡ ns ++ drop (length ns) lent
  held_marks : (listing_of script lent points).marks ≡ zs ++ drop (length zs) points

write-then-read : (p q : ℕ) (ns zs out : List ℕ) (place was : ℕ) → let there = write_door p q ns zs out place was in
    there.number ≡ 0 → (lent points : List ℕ) (place' : ℕ) (was' : Read) → length ns ≤ length lent
    → length zs ≤ length points
    → ReadBack p q ns zs (take there.given (writing_of p q ns zs out).script) lent points place' was'
write-then-read p q ns zs out place was z lent points place' was' room spots =
    go (writing_of p q ns zs out).reply refl z
  where
    go : (a : Result ℕ Refusal) → (writing_of p q ns zs out).reply ≡ a
        → let there = door a place was in there.number ≡ 0
        → ReadBack p q ns zs (take there.given (writing_of p q ns zs out).script) lent points place' was'
    go (Err r) e z = absurd (omega (arith, number-some r))
    go (Ok n) e z =
        let back = (writing-demand p q ns zs out {reply = Ok n} (sym e) refl).undone refl in
        let again = back.back lent points room spots in
        record {
          count = length back.matches;
          marks = length back.marks;
          counted = sym (list_length back.matches) ∙ ap length back.listed;
          counted_marks = sym (point-list-length back.marks) ∙ ap length back.listed_marks;
          told = rw again;
          held = rw again;
          held_marks = rw again;
        }

-- ---- bytes to records to bytes

-- the writer's door on lengths, records and marks gives a script, in any buffer that has room for it
record WrittenBack (s : List ℕ) (p q : ℕ) (ns zs lent : List ℕ) (place was : ℕ) : Type 0 where
  told : write_door p q ns zs lent place was ≡ record { number = 0; place = place; given = length s }
  script : List ℕ
  held : (writing_of p q ns zs lent).script ≡ script ++ drop (length s) lent
  same : MatchesFirst s → script ≡ s
  only : script ≡ s → MatchesFirst s

read-then-write : (s : List ℕ) → Bytes s → (out points : List ℕ) (place : ℕ) (was : Read)
    → let there = records_door s out points place was in let given = there.given in
    there.number ≡ 0 → (lent : List ℕ) (place' was' : ℕ) → length s ≤ length lent
    → let x = listing_of s out points in
    WrittenBack s given.p given.q (take (4 * given.count) x.records) (take (2 * given.marks) x.marks) lent
    place' was'
read-then-write s bytes out points place was z lent place' was' room = go (listing_of s out points).reply refl z
  where
    go : (a : Result Listed Refusal) → (listing_of s out points).reply ≡ a
        → let there = door (of_listed a) place was in there.number ≡ 0
        → let given = there.given in let x = listing_of s out points in
        WrittenBack s given.p given.q (take (4 * given.count) x.records) (take (2 * given.marks) x.marks)
        lent place' was'
    go (Err r) e z = absurd (omega (arith, number-some r))
    go (Ok l) e z =
        let again = (listing-demand s bytes out points {reply = Ok l} (sym e) refl refl).undone refl in
        let back = again.written lent room in
        record {
          told = rw back;
          script = again.script;
          held = rw back;
          same = again.same;
          only = again.only;
        }
