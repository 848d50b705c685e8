-- From what the inner functions ensure to what the refining call ensures.
--     reaches, prefix-length, columns-fit
--                        the columns of an admitted script hold as many numbers as there are matches, and they fit
--     mark-reaches, mark-prefix     the columns of its marks, likewise
--     refining-met, read-refused, read-refined
--                        the contract, by one equation, which holds of a refused script and of an admitted one
--     straight-prefix, straight-in    a column in which no match is reversed
--     roomy-in           columns with room for the matches of a script
--     short-matches, short-marks   how many matches and marks a script of so many bytes has at most
-- Assumes nothing.
use Prim.Native.Nat.{ℕ, zero, suc, ◌+◌, ◌*◌, ◌≤◌, ◌<◌}
use mathlib.Core.Path.{◌≡◌, refl, sym, ap, ◌∙◌}
use mathlib.Core.Bool.{Bool, false}
use mathlib.Core.List.{List, ◌∷◌, map}
use native.Mathlib.Omega.{arith}
use lib.ListN.{length, take, replicate, length-take, length-map, length-replicate}
use Rattle.script.specs.Commands.{mark_width}
use Rattle.script.specs.Limits.{most_matches, most_marks}
use Rattle.script.specs.Reading.{read_script, verdict_of}
use Rattle.script.specs.Columns.{matches_read, marks_read, column_of, column_read, ColumnsRead, MarksRead}
use Rattle.script.specs.declared.Admitted.{Admitted}
use Rattle.script.specs.declared.refusal.Refusal.{Refusal}
use Rattle.script.specs.declared.command.Match.{Match as ScriptMatch}
use Rattle.refining.specs.Columns.{FitRead, columns_read}
use Rattle.refining.specs.Refining.{mark_place, held_in, refining_of}
use Rattle.refining.specs.Demands.{answer_of, Demand1, Demand2, Demand3}
use Rattle.refining_matches.specs.Tabling.{MatchesRefined}
use Rattle.refining_matches.proofs.MarksHeld.{marks_held}
use Rattle.tracks.specs.Tracks.{marks_of}
use Rattle.refine.specs.Calls.{ScriptRefined, Roomy, RoomyMarks, Straight, bytes_of}
use Rattle.std.specs.Prelude.{Result, Ok, Err}
use Rattle.script.proofs.Holding.{Holds, holds-admitted, reading-refused, matches-few, marks-few}
use Rattle.script.proofs.Columns.{column-length, column-filled}
use Rattle.refining.proofs.Numbered.{held-admitted, held-fit}
use Rattle.refining.proofs.Demands.{refining-contract}
use Rattle.refining.proofs.RefiningCases.{refining-refused, refining-admitted}

take-replicate : (k n : ℕ) → k ≤ n → take k (replicate n false) ≡ replicate k false
take-replicate zero n h = refl
take-replicate (suc k) zero h = absurd (omega arith)
take-replicate (suc k) (suc n) h = ap (λ (l : List Bool). false ∷ l) (take-replicate k n (omega arith))

-- a column stays as long as it was
pub column-kept : {X Y : Type 0} (read : List X) (field : X → Y) (before : List Y) {after : List Y}
    → after ≡ column_of read field before → length after ≡ length before
column-kept read field before is = ap length is ∙ column-length read field before

-- a column with room for all begins with their fields
module _ {X Y : Type 0} {xs read : List X} {count : ℕ} (same : read ≡ xs) (counted : length xs ≡ count) (field : X → Y)
    (before : List Y) {after : List Y} (is : after ≡ column_of read field before) (room : length read ≤ length before)
  where
    column-begins : take count after ≡ map field xs
    column-begins =
        ap (λ (n : ℕ). take n after) (sym counted) ∙ ap (take (length xs)) (is ∙ ap (λ l. column_of l field before) same)
        ∙ column-filled xs field before (rw same at room)

    column-reaches : count ≤ length after
    column-reaches =
        omega (arith, length-take count after, ap length column-begins ∙ length-map xs field, counted)

    column-prefix : count ≡ length (take count after)
    column-prefix = omega (arith, column-reaches, length-take count after)

-- the columns of an admitted script, by the reader's stated result
module _ (script : List ℕ) {told : Result Admitted Refusal} {a : Admitted} (e : told ≡ verdict_of (read_script script))
    (v : told ≡ Ok a) where
  held : Holds script a.p a.q a.count a.marks
  held = holds-admitted script e v

  matches-read : matches_read (read_script script) ≡ held.matches
  matches-read = rw held.read

  marks-read : marks_read (read_script script) ≡ held.points
  marks-read = rw held.read

  module _ {X : Type 0} (field : ScriptMatch → X) (before : List X) {after : List X}
      (is : after ≡ column_read script field before)
      (room : length (matches_read (read_script script)) ≤ length before) where
    begins : take a.count after ≡ map field held.matches
    begins = column-begins matches-read held.counted field before is room

    pub reaches : a.count ≤ length after
    reaches = column-reaches matches-read held.counted field before is room

    pub prefix-length : a.count ≡ length (take a.count after)
    prefix-length = column-prefix matches-read held.counted field before is room

  module _ {z x z' x' : List ℕ} (roomy : RoomyMarks script z x) (columns : MarksRead script z x z' x') where
    pub side-reaches : a.marks ≤ length z'
    side-reaches =
        column-reaches marks-read held.counted_marks (λ k. k.side) z columns.side roomy.side

    pub position-reaches : a.marks ≤ length x'
    position-reaches =
        column-reaches marks-read held.counted_marks (λ k. k.position) x columns.position roomy.position

    pub side-prefix : a.marks ≡ length (take a.marks z')
    side-prefix = omega (arith, side-reaches, length-take a.marks z')

    pub position-prefix : a.marks ≡ length (take a.marks x')
    position-prefix = omega (arith, position-reaches, length-take a.marks x')

    marks_begin : marks_of (take a.marks z') (take a.marks x') ≡ map mark_place held.points
    marks_begin =
        marks_held held.points
        (column-begins marks-read held.counted_marks (λ k. k.side) z columns.side roomy.side)
        (column-begins marks-read held.counted_marks (λ k. k.position) x columns.position roomy.position)

  -- a column with room for the matches has room for as many numbers as there are
  room-reaches : {n : ℕ} → length (matches_read (read_script script)) ≤ n → a.count ≤ n
  room-reaches room = omega (arith, rw held.read at room, held.counted)

  straight-reaches : {w : List Bool} → Straight script w → a.count ≤ length w
  straight-reaches s = room-reaches s.room

  pub straight-prefix : {w : List Bool} → Straight script w → a.count ≡ length (take a.count w)
  straight-prefix {w} s = omega (arith, straight-reaches s, length-take a.count w)

  straight-begins : {w : List Bool} → Straight script w → take a.count w ≡ replicate a.count false
  straight-begins {w} s =
      ap (take a.count) s.none ∙ take-replicate a.count (length w) (straight-reaches s)

  module _ {f g t u f' t' u' : List ℕ} {r r' : List Bool} (roomy : Roomy script f g t u r)
      (columns : ColumnsRead script f t u r f' t' u' r') where
    left-a-begins : take a.count f' ≡ map (λ m. m.left_a) held.matches
    left-a-begins = begins (λ m. m.left_a) f columns.left_a roomy.left_a

    left-b-begins : take a.count t' ≡ map (λ m. m.left_b) held.matches
    left-b-begins = begins (λ m. m.left_b) t columns.left_b roomy.left_b

    -- the lengths stand in the column of the right ends on B, as many as there are left ends on A
    on_a : length (take a.count f') ≡ a.count
    on_a = sym (prefix-length (λ m. m.left_a) f columns.left_a roomy.left_a)

    letters-begin : take (length (take a.count f')) u' ≡ map (λ m. m.length) held.matches
    letters-begin =
        ap (λ (n : ℕ). take n u') on_a ∙ begins (λ m. m.length) u columns.letters roomy.right_b

    reversed-begins : take a.count r' ≡ map (λ m. m.reversed) held.matches
    reversed-begins = begins (λ m. m.reversed) r columns.reversed roomy.reversed

    -- what the matches are read into fits, and there is room for the right ends
    pub columns-fit :
        {w : List Bool} {z x z' x' : List ℕ} → Straight script w → RoomyMarks script z x → MarksRead script z x z' x'
        → FitRead (take a.count f') (take a.count t') (take (length (take a.count f')) u') (take a.count r')
        × ((length (take a.count r') < 4294967296)
        × ((take a.count w ≡ replicate (length (take a.count r')) false)
        × ((length (take a.marks z') ≡ length (take a.marks x'))
        × ((length (take a.count f') ≤ length g) × (length (take a.count f') ≤ length u')))))
    columns-fit straight spots points =
        let ways = prefix-length (λ m. m.reversed) r columns.reversed roomy.reversed in
        let letters = reaches (λ m. m.length) u columns.letters roomy.right_b in (
          held-fit held left-a-begins left-b-begins letters-begin reversed-begins,
          (
            omega (arith, ways, held.few),
            (
              straight-begins straight ∙ ap (λ (n : ℕ). replicate n false) ways,
              (
                sym (side-prefix spots points) ∙ position-prefix spots points,
                (omega (arith, on_a, room-reaches roomy.right_a), omega (arith, on_a, letters)),
              ),
            ),
          ),
        )

    pub read-refined : {z x z' x' : List ℕ} → RoomyMarks script z x → MarksRead script z x z' x'
        → (table work : List ℕ) {reply : Result ℕ Refusal} {table' work' : List ℕ}
        → MatchesRefined
        (held_in (columns_read (take a.count f') (take a.count t') (take (length (take a.count f')) u') (take a.count r'))
        (marks_of (take a.marks z') (take a.marks x'))) table work reply table' work'
        → ScriptRefined script table work reply table' work'
    read-refined spots points table work refined =
        refined
        ∙ sym (refining-admitted script table work
        (held-admitted held left-a-begins left-b-begins letters-begin reversed-begins (marks_begin spots points)))

-- the contract of `refine`, by the one equation of what the call leaves
pub refining-met :
    {script table work : List ℕ} {reply : Result ℕ Refusal} {table' work' : List ℕ}
    → ScriptRefined script table work reply table' work'
    → (reply ≡ (refining_of script table work).reply)
    × ((table' ≡ (refining_of script table work).table)
    × ((work' ≡ (refining_of script table work).work)
    × (Demand1 script table work (answer_of reply) table' work'
    × (Demand2 script table work (answer_of reply) table'
    × Demand3 script table work (answer_of reply) table'))))
refining-met {script} {table} {work} e = refining-contract script table work (sym e)

pub read-refused :
    (script table work : List ℕ) {told : Result Admitted Refusal} {f : Refusal} {reply : Result ℕ Refusal}
    → told ≡ verdict_of (read_script script) → told ≡ Err f → reply ≡ Err f
    → ScriptRefined script table work reply table work
read-refused script table work e v is =
    rw is (sym (refining-refused script table work (reading-refused script e v)))

-- columns of n numbers have room for n matches
pub roomy-in :
    (n : ℕ) {s f g t u : List ℕ} {r : List Bool} → length (matches_read (read_script s)) ≤ n → length f ≡ n
    → length g ≡ n → length t ≡ n → length u ≡ n → length r ≡ n → Roomy s f g t u r
roomy-in n few ef eg et eu er = record {
  left_a = omega arith;
  right_a = omega arith;
  left_b = omega arith;
  right_b = omega arith;
  reversed = omega arith;
}

-- the same of a column in which no match is reversed
pub straight-in : (n : ℕ) {s : List ℕ} → length (matches_read (read_script s)) ≤ n → Straight s (replicate n false)
straight-in n few = record {
  room = omega (arith, length-replicate n false);
  none = ap (λ (k : ℕ). replicate k false) (sym (length-replicate n false));
}

-- a script with the bytes of n matches has no more, and no more marks than its bytes have room for
pub short-matches : (n : ℕ) (s : List ℕ) → length s ≤ bytes_of n → length (matches_read (read_script s)) ≤ n
short-matches n s short = omega (arith, matches-few s)

pub short-marks :
    (n k : ℕ) (s : List ℕ) → length s ≤ bytes_of n → bytes_of n < mark_width * (k + 1)
    → length (marks_read (read_script s)) ≤ k
short-marks n k s short room = omega (arith, marks-few s)
