-- What `refining_of_matches` and `refining_of` are in each of their cases, and that one of them applies.
--     written, written-sets                   rows over the start of a table, also as code stores them
--     fits-or-exceeds, fits-exceeds           12's condition and its contrary: one holds, and not both
--     exceeds-many                            under 12's condition the least table has no room either
--     matches-short, matches-crowded, matches-written
--                                             11, 12, and the rows of the least table
--     refining-refused, refining-admitted     the script's refusal, and its matches
--     MatchesCase, matches-case               the three as a data type, for proofs that go through them
--     Case, case                              the same of a script
-- Assumes nothing.
use Prim.Native.Nat.{ℕ, ◌≤◌, ◌<◌}
use mathlib.Core.Path.{◌≡◌, refl, ap, ◌∙◌}
use mathlib.Core.Logic.{◌⊎◌, inl, inr}
use mathlib.Core.List.{List, ◌++◌}
use native.Mathlib.Omega.{arith}
use native.Mathlib.Nat.{zero-add}
use native.Mathlib.Decide.{dec_lt}
use borrow.Author.Tests.{lt-ltb, le-ltb}
use lib.ListN.{length, drop}
use lib.Seq.{sets, sets-eq}
use Rattle.std.specs.Prelude.{Result, Ok, Err}
use Rattle.script.specs.Refusals.{number_of, place_of}
use Rattle.script.specs.Reading.{Reading, admitted, refused, read_script}
use Rattle.script.specs.Answers.{refusal}
use Rattle.script.specs.Outcomes.{Outcome}
use Rattle.script.specs.declared.refusal.Refusal.{Refusal}
use Rattle.script.specs.declared.refusal.Refusal.TheVariants.{WorkTooShort, TooManyPieces}
use Rattle.script.proofs.Outcome.{read-outcome, outcome-admitted}
use Rattle.refinement.specs.Match.{Match}
use Rattle.refinement.specs.Refinement.{Matches}
use Rattle.refinement.proofs.Theorem.{table_resolved, table-least}
use Rattle.refining.specs.Rows.{piece_numbers}
use Rattle.refining.specs.Refining.{Given, least_of, capacity_of, work_needed, zeroed}
use Rattle.refining.specs.Refining.{Refining, refining_of_matches, refining_of}
use Rattle.refining.specs.Demands.{Admitted, reads, Fits, EveryExceeds}
use Rattle.refining.proofs.Standing.{length-numbers}
use Rattle.refining.proofs.Numbered.{admitted_of, admitted-matches}

-- ---- room for some resolved refinement, or for none

module _ {g : Given} (M : Matches g.matches) where
  pub exceeds-many : {capacity : ℕ} → EveryExceeds g capacity → capacity < length (least_of g)
  exceeds-many exceeds = exceeds (least_of g) (table_resolved g.matches g.marks M)

  pub fits-or-exceeds : (capacity : ℕ) → Fits g capacity ⊎ EveryExceeds g capacity
  fits-or-exceeds capacity = go (dec_lt capacity (length (least_of g)))
    where
      go : Dec (capacity < length (least_of g)) → Fits g capacity ⊎ EveryExceeds g capacity
      go (yes many) = inr (λ rs R. omega (arith, (table-least g.matches g.marks M).fewest rs R))
      go (no few) =
          inl (record { rows = least_of g; resolved = table_resolved g.matches g.marks M; room = omega arith })

pub fits-exceeds : {g : Given} {capacity : ℕ} → Fits g capacity → EveryExceeds g capacity → ⊥
fits-exceeds f exceeds = omega (arith, exceeds f.rows f.resolved)

-- ---- matches

-- the numbers of rows over the start of a table
abbrev pub written : List Match → List ℕ → List ℕ
written rs table = piece_numbers rs ++ drop (length (piece_numbers rs)) table

pub written-sets :
    (rs : List Match) (table : List ℕ) → length rs ≤ capacity_of table
    → sets table 0 (piece_numbers rs) ≡ written rs table
written-sets rs table room =
    sets-eq (piece_numbers rs) table 0 (omega (arith, length-numbers rs))
    ∙ ap (λ (k : ℕ). piece_numbers rs ++ drop k table) (zero-add (length (piece_numbers rs)))

module _ (g : Given) (table work : List ℕ) where
  pub matches-short : length work < work_needed table
      → refining_of_matches g table work ≡ record { reply = Err WorkTooShort; table = table; work = work }
  unfolding refining_of_matches
  matches-short short = rw (lt-ltb (length work) (work_needed table) short)

  pub matches-crowded : work_needed table ≤ length work → capacity_of table < length (least_of g)
      → refining_of_matches g table work ≡ record { reply = Err TooManyPieces; table = table; work = zeroed work }
  unfolding refining_of_matches
  matches-crowded enough many =
      rw (
        le-ltb (length work) (work_needed table) enough,
        lt-ltb (capacity_of table) (length (least_of g)) many,
      )

  pub matches-written : work_needed table ≤ length work → length (least_of g) ≤ capacity_of table
      → refining_of_matches g table work ≡ record {
        reply = Ok (length (least_of g));
        table = written (least_of g) table;
        work = zeroed work;
      }
  unfolding refining_of_matches
  matches-written enough room =
      rw (
        le-ltb (length work) (work_needed table) enough,
        le-ltb (capacity_of table) (length (least_of g)) room,
      )

-- the reply and the buffers after the call, with the case that they are of
pub data MatchesCase (g : Given) (table work : List ℕ) : Result ℕ Refusal → List ℕ → List ℕ → Type 0 where
  short : length work < work_needed table → MatchesCase g table work (Err WorkTooShort) table work
  crowded :
      work_needed table ≤ length work → EveryExceeds g (capacity_of table)
      → MatchesCase g table work (Err TooManyPieces) table (zeroed work)
  writing :
      work_needed table ≤ length work → length (least_of g) ≤ capacity_of table
      → MatchesCase g table work (Ok (length (least_of g))) (written (least_of g) table) (zeroed work)

abbrev MatchesCaseOf : Given → List ℕ → List ℕ → Refining → Type 0
MatchesCaseOf g table work x = MatchesCase g table work x.reply x.table x.work

module _ {g : Given} (M : Matches g.matches) (table work : List ℕ) where
  pub matches-case : MatchesCaseOf g table work (refining_of_matches g table work)
  matches-case = by-work (dec_lt (length work) (work_needed table))
    where
      by-room : work_needed table ≤ length work → Fits g (capacity_of table) ⊎ EveryExceeds g (capacity_of table)
          → MatchesCaseOf g table work (refining_of_matches g table work)
      by-room enough (inl f) =
          let fewest = (table-least g.matches g.marks M).fewest f.rows f.resolved in
          let room : length (least_of g) ≤ capacity_of table = omega (arith, f.room) in
          rw (matches-written g table work enough room) (writing enough room)
      by-room enough (inr exceeds) =
          rw (matches-crowded g table work enough (exceeds-many M exceeds)) (crowded enough exceeds)

      by-work : Dec (length work < work_needed table) → MatchesCaseOf g table work (refining_of_matches g table work)
      by-work (yes h) = rw (matches-short g table work h) (short h)
      by-work (no h) = by-room (omega arith) (fits-or-exceeds M (capacity_of table))

-- ---- scripts

module _ (script table work : List ℕ) where
  pub refining-refused : {r : Refusal} → read_script script ≡ refused r
      → refining_of script table work ≡ record { reply = Err r; table = table; work = work }
  unfolding refining_of
  refining-refused e = rw e

  pub refining-admitted :
      {g : Given} → Admitted script g → refining_of script table work ≡ refining_of_matches g table work
  unfolding refining_of
  refining-admitted (reads o) = rw (outcome-admitted o)

pub data Case (script table work : List ℕ) : Result ℕ Refusal → List ℕ → List ℕ → Type 0 where
  refusing :
      {r : Refusal} → Outcome script (refusal (number_of r) (place_of r)) → Case script table work (Err r) table work
  matched :
      {g : Given} {reply : Result ℕ Refusal} {table' work' : List ℕ} → Admitted script g
      → MatchesCase g table work reply table' work' → Case script table work reply table' work'

abbrev CaseOf : List ℕ → List ℕ → List ℕ → Refining → Type 0
CaseOf script table work x = Case script table work x.reply x.table x.work

pub case : (script table work : List ℕ) → CaseOf script table work (refining_of script table work)
case script table work = by-reading (read_script script) refl
  where
    by-reading : (x : Reading) → read_script script ≡ x → CaseOf script table work (refining_of script table work)
    by-reading (refused r) e =
        rw (refining-refused script table work e) (refusing (read-outcome e))
    by-reading (admitted ls ms ks) e =
        let a = admitted_of e in
        rw (refining-admitted script table work a) (matched a (matches-case (admitted-matches a) table work))
