-- The records of a list of numbers, and the matches that they say; the marks of another.
--     records-length     a record for each four numbers
--     record-held        a record is read off its four numbers
--     record-inside      and lies in the list
--     list_length        four numbers for each match
--     match-said         a match between the tracks 0 and 1 is told by its other fields
--     list_back          a list of matches, written as records, is read back
--     points-length, point-held, point-inside, point-list-length, point-list-back     the same of marks, with two
--                        numbers each
-- Assumes nothing.
use Prim.Native.Nat.{ℕ, zero, suc, ◌+◌, ◌*◌, ◌/◌, ◌≤◌, ◌<◌}
use mathlib.Core.Path.{◌≡◌, refl, sym, ap, ◌∙◌}
use mathlib.Core.List.{List, [], ◌∷◌, ◌++◌, flat_map, Memᴰ}
use mathlib.Core.List.Memᴰ.{head as here}
use mathlib.Core.List.Memᴰ.{tail as there}
use native.Mathlib.Omega.{arith}
use native.Mathlib.Nat.{add_assoc}
use lib.ListN.{length, get_or}
use lib.Seq.{get_or-append-add}
use Rattle.script.specs.declared.command.Match.{Match}
use Rattle.script.specs.declared.command.Mark.{Mark}
use Rattle.script.proofs.Laws.{bit-told}
use Rattle.records.specs.Records.{record_width, numbers_of, list_of, records_of, record_at, matches_of}
use Rattle.records.specs.Records.{mark_numbers, point_numbers, point_list, points_of, point_at}
use Rattle.records.specs.declared.Record.{Record}
use Rattle.records.proofs.Scripts.{flat-length, Tracked}

pub records-length : (ns : List ℕ) → length (records_of ns) ≡ length ns / record_width
unfolding records_of
records-length [] = omega arith
records-length (a ∷ []) = omega arith
records-length (a ∷ b ∷ []) = omega arith
records-length (a ∷ b ∷ d ∷ []) = omega arith
records-length (a ∷ b ∷ d ∷ way ∷ ns) = omega (arith, records-length ns)

-- the record that stands from an offset on
abbrev pub four_at : List ℕ → ℕ → Record
four_at ns at =
    record {
      left_a = get_or ns at 0;
      left_b = get_or ns (at + 1) 0;
      length = get_or ns (at + 2) 0;
      direction = get_or ns (at + 3) 0;
    }

four-later : (xs ns : List ℕ) (at : ℕ) → four_at (xs ++ ns) (length xs + at) ≡ four_at ns at
four-later xs ns at = simp (add_assoc, get_or-append-add)

pub record-held : (ns : List ℕ) (k : ℕ) → record_width * k + record_width ≤ length ns
    → record_at (records_of ns) k ≡ four_at ns (record_width * k)
unfolding records_of
record-held [] k h = absurd (omega arith)
record-held (a ∷ []) k h = absurd (omega arith)
record-held (a ∷ b ∷ []) k h = absurd (omega arith)
record-held (a ∷ b ∷ d ∷ []) k h = absurd (omega arith)
record-held (a ∷ b ∷ d ∷ way ∷ ns) zero h = refl
record-held (a ∷ b ∷ d ∷ way ∷ ns) (suc k) h =
    let later : 4 + record_width * k ≡ record_width * suc k = omega arith in
    record-held ns k (omega arith)
    ∙ sym (four-later (a ∷ b ∷ d ∷ way ∷ []) ns (record_width * k))
    ∙ ap (four_at (a ∷ b ∷ d ∷ way ∷ ns)) later

pub record-inside : (ns : List ℕ) {count k : ℕ} → count ≡ length (records_of ns) → k < count
    → record_width * k + record_width ≤ length ns
record-inside ns counted below = omega (arith, records-length ns)

pub list_length : (ms : List Match) → length (list_of ms) ≡ record_width * length ms
list_length ms = flat-length numbers_of record_width (λ m. refl) ms

pub match-said : {m : Match} → Tracked m
    → record {
      track_a = 0;
      track_b = 1;
      left_a = m.left_a;
      left_b = m.left_b;
      length = m.length;
      reversed = m.reversed;
    }
    ≡ m
match-said t = rw (← t.0, ← t.1)

pub list_back : (ms : List Match) → ((m : Match) → Memᴰ m ms → Tracked m) → matches_of (list_of ms) ≡ ms
unfolding records_of flat_map
list_back [] tracked = refl
list_back (m ∷ ms) tracked =
    rw (bit-told m.reversed, match-said {m = m} (tracked m (here refl)))
    (ap (λ (l : List Match). m ∷ l) (list_back ms (λ n i. tracked n (there i))))

-- ---- marks

pub points-length : (zs : List ℕ) → length (points_of zs) ≡ length zs / mark_numbers
unfolding points_of
points-length [] = omega arith
points-length (a ∷ []) = omega arith
points-length (a ∷ b ∷ zs) = omega (arith, points-length zs)

-- the mark that stands from an offset on
abbrev pub two_at : List ℕ → ℕ → Mark
two_at zs at = record { side = get_or zs at 0; position = get_or zs (at + 1) 0 }

two-later : (xs zs : List ℕ) (at : ℕ) → two_at (xs ++ zs) (length xs + at) ≡ two_at zs at
two-later xs zs at = simp (add_assoc, get_or-append-add)

pub point-held : (zs : List ℕ) (n : ℕ) → mark_numbers * n + mark_numbers ≤ length zs
    → point_at (points_of zs) n ≡ two_at zs (mark_numbers * n)
unfolding points_of
point-held [] n h = absurd (omega arith)
point-held (a ∷ []) n h = absurd (omega arith)
point-held (a ∷ b ∷ zs) zero h = refl
point-held (a ∷ b ∷ zs) (suc n) h =
    let later : 2 + mark_numbers * n ≡ mark_numbers * suc n = omega arith in
    point-held zs n (omega arith)
    ∙ sym (two-later (a ∷ b ∷ []) zs (mark_numbers * n))
    ∙ ap (two_at (a ∷ b ∷ zs)) later

pub point-inside : (zs : List ℕ) {count k : ℕ} → count ≡ length (points_of zs) → k < count
    → mark_numbers * k + mark_numbers ≤ length zs
point-inside zs counted below = omega (arith, points-length zs)

pub point-list-length : (ks : List Mark) → length (point_list ks) ≡ mark_numbers * length ks
point-list-length ks = flat-length point_numbers mark_numbers (λ k. refl) ks

pub point-list-back : (ks : List Mark) → points_of (point_list ks) ≡ ks
unfolding points_of flat_map
point-list-back [] = refl
point-list-back (k ∷ ks) = ap (λ (l : List Mark). k ∷ l) (point-list-back ks)
