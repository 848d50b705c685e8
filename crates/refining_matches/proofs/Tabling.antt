-- From what the closure and the writing of the rows ensure to what refining the matches of a script ensures.
--     told-good, crowded-tabled
--                        what the closure's answer tells: a good set of cuts, or that no table has room
--     cuts-writable      a set that holds all cuts of A, joined into one run, is what writing the rows needs
--     rows-tabled        the rows written are the least table
--     short_refined      the work buffer is too short, which is the call's outcome
--     cleared-refined    the rows written and the work buffer cleared are the call's outcome
--     worked_fit, worked-refined
--                        the matches as they are read fit once their right ends are worked out, and it is they that are
--                        refined
-- Assumes nothing.
use Prim.Native.Nat.{ℕ, ◌≤◌, ◌<◌}
use mathlib.Core.Path.{◌≡◌, refl, sym, ap, subst, ◌∙◌}
use mathlib.Core.Logic.{◌↔◌}
use mathlib.Core.Bool.{Bool}
use mathlib.Core.List.{List}
use native.Mathlib.Omega.{arith}
use lib.ListN.{length, replicate}
use lib.Seq.{slice, sets}
use Rattle.script.specs.declared.refusal.Refusal.TheVariants.{TooManyPieces, WorkTooShort}
use Rattle.refinement.specs.declared.Side.{Side}
use Rattle.refinement.specs.Order.{◌∈◌}
use Rattle.refinement.specs.Match.{Match, Place}
use Rattle.refinement.specs.Cut.{end, left_end, right_end}
use Rattle.refinement.specs.Refinement.{Matches}
use Rattle.runs.specs.Runs.{In}
use Rattle.cut_set.specs.Store.{Good, Joined}
use Rattle.cut_set.specs.declared.CutSet.{CutSet}
use Rattle.reading_cuts.specs.Reading.{AllPlaces}
use Rattle.reading_cuts.specs.declared.Places.{Places}
use Rattle.refining.specs.Columns.{Columns, columns_of, columns_read, count_of, from_at, from_right_at}
use Rattle.refining.specs.Columns.{FitRead, RightEnds, Fit}
use Rattle.refining.proofs.RightEnds.{rights-alone, read-fit, right_at}
use Rattle.closing_two.specs.FirstEdition.{CutOn, AllCutsOfA, Closure}
use Rattle.refining.specs.Rows.{pieces_cut, piece_numbers}
use Rattle.refining.specs.Refining.{Given, held_in, least_of, capacity_of, work_needed, zeroed}
use Rattle.writing_rows.specs.Writing.{Writable, Written}
use Rattle.refining_matches.specs.Tabling.{Tabled, MatchesRefined}
use Rattle.carrying_group.specs.declared.TooMany.{TooMany}
use Rattle.std.specs.Prelude.{Result, Ok, Err}
use Rattle.script.specs.declared.refusal.Refusal.{Refusal}
use Rattle.closing_two.proofs.TwoTracks.{∈-matches, matches-good}
use Rattle.carrying_match.proofs.RunLists.{slice_in, in-slice, slice-rising}
use Rattle.refining_matches.proofs.RowsLeast.{rows-least}
use Rattle.refining.proofs.RefiningCases.{exceeds-many, written-sets, matches-short, matches-crowded, matches-written}

-- what the closure's answer tells
told_cuts :
    {g : Given} {cap : ℕ} {ys : List ℕ} {answer : Result CutSet TooMany} {s : CutSet} → Closure g cap ys answer
    → answer ≡ Ok s → AllCutsOfA g cap ys s
told_cuts {g} {cap} {ys} h e = subst (Closure g cap ys) e h

pub told-good :
    (g : Given) (cap : ℕ) (ys : List ℕ) {answer : Result CutSet TooMany} {s : CutSet} → answer ≡ Ok s
    → Closure g cap ys answer → Good ys s
told-good g cap ys e h = (told_cuts h e).good

pub crowded-tabled :
    (g : Given) (table ys : List ℕ) {answer : Result CutSet TooMany} → {e : TooMany} → answer ≡ Err e
    → Closure g (capacity_of table) ys answer → Tabled g table table (Err TooManyPieces)
crowded-tabled g table ys e h = (refl, subst (Closure g (capacity_of table) ys) e h, refl)

module _ {columns : Columns} (fit : Fit columns) (marks : List Place) (table : List ℕ) {xs ys : List ℕ}
    {s t : CutSet} {run : Places} {answer : Result CutSet TooMany} (told : answer ≡ Ok s)
    (joined : Joined xs s ys t) (places : AllPlaces ys t run)
    (closed : Closure (held_in columns marks) (capacity_of table) xs answer) where
  cuts : AllCutsOfA (held_in columns marks) (capacity_of table) xs s
  cuts = told_cuts closed told

  -- a cut of A stands in the run
  cut_in : (x : ℕ) → CutOn (held_in columns marks) Side.A x → In ys run.start run.end x
  cut_in x c = (places.all x).1 ((joined.kept.members x).1 ((cuts.cuts x).1 c))

  -- the numbers of the run are the cuts of A
  run-cuts : (x : ℕ) → (x ∈ slice run.start run.end ys) ↔ CutOn (held_in columns marks) Side.A x
  run-cuts x =
      let inside = places.run.within in
      let ordered = places.run.order in (
        λ i. (cuts.cuts x).0 ((joined.kept.members x).0 ((places.all x).0 (slice_in ys inside ordered i))),
        λ c. in-slice ys inside ordered (cut_in x c),
      )

  rows_are : pieces_cut columns (slice run.start run.end ys) (count_of columns) ≡ least_of (held_in columns marks)
  rows_are = let rises = slice-rising ys places.run.within places.run.order ◌<◌ places.run.rising in
      rows-least fit marks rises run-cuts

  pub cuts-writable : count_of columns < 4294967296 → Writable columns ys run.start run.end table
  cuts-writable few =
      record {
        run = places.run;
        left_in = λ k h. cut_in (from_at columns k) (end (∈-matches columns h) (left_end Side.A));
        right_in = λ k h.
            let i = ∈-matches columns h in
            cut_in (from_right_at columns k)
            (subst (CutOn (held_in columns marks) Side.A) (sym (right_at fit Side.A h)) (end i (right_end Side.A)));
        few = few;
        room = omega (arith, ap length rows_are, cuts.fits);
      }

  pub rows-tabled : {after : List ℕ} {n : ℕ} → Written columns (slice run.start run.end ys) table after n
      → Tabled (held_in columns marks) table after (Ok n)
  rows-tabled w = (
    w.count ∙ ap length rows_are,
    cuts.fits,
    w.table ∙ ap (λ (rs : List Match). sets table 0 (piece_numbers rs)) rows_are,
  )

tabled-refined :
    (g : Given) → Matches g.matches → (table table' work : List ℕ) (r : Result ℕ Refusal) → work_needed table ≤ length work
    → Tabled g table table' r
    → MatchesRefined g table work r table' (zeroed work)
tabled-refined g M table table' work (Ok n) room t =
    rw (t.0, t.2 ∙ written-sets (least_of g) table t.1) (sym (matches-written g table work room t.1))
tabled-refined g M table table' work (Err f) room t =
    rw (t.0, t.2) (sym (matches-crowded g table work room (exceeds-many M t.1)))

-- the work buffer is too short
pub short_refined :
    (g : Given) (table work : List ℕ) → length work < work_needed table
    → MatchesRefined g table work (Err WorkTooShort) table work
short_refined g table work short = sym (matches-short g table work short)

pub cleared-refined :
    {columns : Columns} → Fit columns → (marks : List Place) (table table' work work' : List ℕ)
    {ended : List ℕ} {r : Result ℕ Refusal}
    → work_needed table ≤ length work
    → Tabled (held_in columns marks) table table' r
    → length work' ≡ length work
    → ended ≡ zeroed work'
    → MatchesRefined (held_in columns marks) table work r table' ended
cleared-refined {columns} fit marks table table' work work' {r = r} room tabled same cleared =
    rw (cleared ∙ ap (λ (n : ℕ). replicate n 0) same)
    (tabled-refined (held_in columns marks) (matches-good columns fit) table table' work r room tabled)

-- the matches as they are read, once their right ends are worked out
module _ (f t d : List ℕ) (r : List Bool) {g u : List ℕ} (read : FitRead f t d r) (right_a : RightEnds f d g)
    (right_b : RightEnds t d u) where
  worked-columns : columns_of f g t u r ≡ columns_read f t d r
  worked-columns = rw (rights-alone read.on_a.same_length right_a, rights-alone read.on_b.same_length right_b)

  pub worked_fit : Fit (columns_of f g t u r)
  worked_fit = rw worked-columns (read-fit read)

  pub worked-refined :
      (marks : List Place) (table work : List ℕ) {reply : Result ℕ Refusal} {table' work' : List ℕ}
      → MatchesRefined (held_in (columns_of f g t u r) marks) table work reply table' work'
      → MatchesRefined (held_in (columns_read f t d r) marks) table work reply table' work'
  worked-refined marks table work refined = rw worked-columns at refined
