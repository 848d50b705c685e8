-- Wrong programs, each with a demand that is false of what it would answer or leave. The first six are 01's clause c.
--     single-letters-refused      the table of single letters: 16 rows where the least one has 8 (demand 3)
--     first-pass-refused          a first pass of carrying alone: 6 rows where the least one has 8 (demand 2)
--     twelve-with-room-refused, twelve-one-row-early-refused
--                                 12 where there is room, as before any carrying; with just enough room (demand 3)
--     made-up-count-refused       a table of zeros left untouched, whatever the count (demand 2)
--     fixed-table-refused         one table for two scripts, whatever the counts (demand 2)
--     refusal-with-room-refused   any refusal where there is room, as of a program that refuses all (demands 1 and 2)
--     other-refusal-refused       another refusal than 12 past the script and 11: neither of two things (demand 3)
--     twelve-for-eleven-refused   12 with too little work: 12 tested before 11, or the two swapped (demand 1)
--     eleven-for-twelve-refused   11 with enough work: the two swapped (demand 1)
--     table-touched-refused       a table altered under 12 (demand 1)
--     work-zeroed-refused         a work buffer zeroed under 11 (demand 1)
-- Assumes nothing.
use Prim.Native.Nat.{ℕ, ◌*◌, ◌≤◌, ◌<◌}
use mathlib.Core.Path.{◌≡◌, refl, sym, ap, ◌∙◌}
use mathlib.Core.Bool.{false}
use mathlib.Core.Logic.Dec
use mathlib.Core.Logic.{◌≢◌}
use mathlib.Core.List.Memᴰ
use mathlib.Core.List.Memᴰ.{head as here}
use mathlib.Core.List.{List, [], ◌∷◌, ◌++◌, flat_map}
use native.Mathlib.Omega.{arith}
use native.Mathlib.Decide.{dec_le, dec_lt, ℕ_discrete}
use lib.ListN.{length, get_or}
use lib.Seq.{get_or-take}
use Rattle.script.specs.Reading.{read_from, read_script}
use Rattle.script.specs.Answers.{Answer, value, refusal}
use Rattle.rows.specs.Rows.{row_width, numbers_of}
use Rattle.refinement.specs.declared.Side.TheVariants.{A}
use Rattle.refinement.specs.Order.{◌∈◌, insert_by, sort_by}
use Rattle.refinement.specs.Match.{Match, match_ab, left, right}
use Rattle.refinement.specs.Refinement.{Matches, Piece, Refines, rows_over}
use Rattle.refinement.specs.Least
use Rattle.refinement.proofs.Theorem.{table_resolved, table-least}
use Rattle.refining.specs.Rows.{piece_numbers}
use Rattle.refining.specs.Refining.{Given, least_of, capacity_of, work_needed, zeroed}
use Rattle.refining.specs.Demands.{Fits, EveryExceeds, MatchesOutcome, Stand, Pieces}
use Rattle.refining.specs.Demands.{Admitted, RefiningOutcome, Demand1, Demand2, Demand3}
use Rattle.refining.proofs.Numbered.{admitted_of, admitted-matches}
use Rattle.refining.proofs.RefiningCases.{fits-exceeds}

-- ---- the examples

-- a number below 256, in four bytes
small : ℕ → List ℕ
small n = n ∷ 0 ∷ 0 ∷ 0 ∷ []

-- a direct match
command : Match → List ℕ
command m = 0x44 ∷ small m.left_a ++ small m.left_b ++ small m.length

-- lengths 10 10, the matches, end
script : List Match → List ℕ
script ms = 0x4C ∷ small 10 ++ small 10 ++ flat_map command ms ++ 0x45 ∷ []

-- direct 0 0 8, direct 0 2 8: each comes in four pieces of two letters, whose middle cut later passes alone find
stairs : List Match
stairs = match_ab 1 0 0 8 false ∷ match_ab 2 0 2 8 false ∷ []

-- the letter behind the position h of both sides
letter : ℕ → List Match
letter h = match_ab 1 h h 1 false ∷ []

-- each script above gives its matches alone
abbrev markless : List Match → Given
markless ms = record { matches = ms; marks = [] }

-- the matches cut at their ends and where these are carried to, and no further
first_pass : List Match → List Match
first_pass ms = Least.table_from (Least.grow 1 ms (Least.add_new (Least.ends ms) [])) ms

-- what the laws need of the definitions, by one computation
record Computed : Type 0 where
  stairs_admitted : Admitted (script stairs) (markless stairs)
  least : length (least_of (markless stairs)) ≡ 8
  single : length (Least.single_letters stairs) ≡ 16
  first : length (first_pass stairs) ≡ 6
  letter_admitted : Admitted (script (letter 0)) (markless (letter 0))
  next_admitted : Admitted (script (letter 1)) (markless (letter 1))

computed : Computed
unfolding small command script stairs letter first_pass read_from read_script flat_map insert_by sort_by Dec.and dec_le
    dec_lt ℕ_discrete Least.spans? Least.spans_place? Least.same? Least.in? Least.ends Least.spanning Least.images
    Least.spanned_marks Least.add_new Least.grow Least.span_count Least.least_cuts Least.cuts_within Least.piece_of
    Least.pieces_between Least.pieces_of Least.table_from Least.least_table Least.spanned_from Least.spanned_places
    Least.single_letters
computed = record {
  stairs_admitted = admitted_of refl;
  least = refl;
  single = refl;
  first = refl;
  letter_admitted = admitted_of refl;
  next_admitted = admitted_of refl;
}

-- ---- wrong rows

matches : Matches stairs
matches = admitted-matches computed.stairs_admitted

module _ {table work table' : List ℕ} where
  single-letters-refused : ¬ Demand3 (script stairs) table work (value (length (Least.single_letters stairs))) table'
  single-letters-refused d =
      let L = (d.of_matches (markless stairs) computed.stairs_admitted).otherwise _ refl in
      let resolved = table_resolved stairs (markless stairs).marks matches in
      let fewest = L.least.fewest (least_of (markless stairs)) resolved in
      omega (arith, fewest, L.stand.count, computed.least, computed.single)

  first-pass-refused : ¬ Demand2 (script stairs) table work (value (length (first_pass stairs))) table'
  first-pass-refused d =
      let P = (d.of_matches (markless stairs) computed.stairs_admitted).pieces _ refl in
      let fewest = (table-least stairs (markless stairs).marks matches).fewest P.rows P.resolved in
      omega (arith, fewest, P.stand.count, computed.least, computed.first)

-- the first row of a table is a piece of some match
record FirstRow (ms : List Match) (table : List ℕ) : Type 0 where
  row : Match
  piece : (m : Match) × (m ∈ ms) × Piece m row
  left_at : get_or table 1 0 ≡ row.left_a
  length_at : get_or table 3 0 ≡ row.length

-- there is one where there is a match, for it has a letter
first-row : {g : Given} {m : Match} {table : List ℕ} {n : ℕ} → m ∈ g.matches → 1 ≤ m.length → Pieces g n table
    → FirstRow g.matches table
unfolding rows_over numbers_of
first-row {g} {m} {table} {n} i lettered P = go P.rows P.resolved.refines P.stand
  where
    go : (rs : List Match) → Refines g.matches rs → Stand rs n table → FirstRow g.matches table
    go [] R s =
        let once = R.once m i m.left_a (record { from_left = omega arith; before_right = omega arith }) in
        absurd (omega (arith, once))
    go (r ∷ rs) R s =
        let reaches : 3 < row_width * n = omega (arith, s.count) in
        let held : (k : ℕ) → k < row_width * n → get_or table k 0 ≡ get_or (piece_numbers (r ∷ rs)) k 0 =
        λ k inside. sym (get_or-take (row_width * n) table k 0 inside) ∙ ap (λ (l : List ℕ). get_or l k 0) s.numbers
        in
        record {
          row = r;
          piece = R.pieces r (here refl);
          left_at = held 1 (omega arith);
          length_at = held 3 reaches;
        }

-- a piece has a letter, so that its fourth number is not 0
made-up-count-refused : {bytes table work : List ℕ} {g : Given} {m : Match} → Admitted bytes g → m ∈ g.matches
    → ◌≡◌ {A = ℕ} (get_or table 3 0) 0 → (n : ℕ) → ¬ Demand2 bytes table work (value n) table
made-up-count-refused {g = g} {m = m} a i blank n d =
    let F = first-row i ((admitted-matches a).lettered m i) ((d.of_matches g a).pieces n refl) in
    omega (arith, F.length_at, F.piece.2.lettered)

fixed-table-refused : {table work table₂ work₂ fixed : List ℕ} {n n₂ : ℕ}
    → Demand2 (script (letter 0)) table work (value n) fixed
    → ¬ Demand2 (script (letter 1)) table₂ work₂ (value n₂) fixed
unfolding letter
fixed-table-refused {n = n} {n₂ = n₂} d d₂ =
    let P = (d.of_matches (markless (letter 0)) computed.letter_admitted).pieces n refl in
    let P₂ = (d₂.of_matches (markless (letter 1)) computed.next_admitted).pieces n₂ refl in
    let F = first-row (here refl) (omega arith) P in
    let S = first-row (here refl) (omega arith) P₂ in
    let ends = ap (λ (m : Match). right m A) (Memᴰ.eq_of_singleton F.piece.1) in
    let starts = ap (λ (m : Match). left m A) (Memᴰ.eq_of_singleton S.piece.1) in
    let low : F.row.left_a < 1 = omega (arith, F.piece.2.ends_within A, F.piece.2.lettered, ends) in
    let high : 1 ≤ S.row.left_a = omega (arith, S.piece.2.starts_within A, starts) in
    omega (arith, F.left_at, S.left_at)

-- ---- wrong refusals, and what they leave

refusal-value : {n number place : ℕ} → ◌≡◌ {A = Answer ℕ} (refusal number place) (value n) → ⊥
refusal-value e = let z : ◌≡◌ {A = ℕ} 0 1 = cc in omega arith

eleven-twelve : {place place' : ℕ} → ◌≡◌ {A = Answer ℕ} (refusal 11 place) (refusal 12 place') → ⊥
eleven-twelve e = let z : ◌≡◌ {A = ℕ} 11 12 = cc in omega arith

module _ {bytes table work table' : List ℕ} {g : Given} (a : Admitted bytes g)
    (enough : work_needed table ≤ length work) where
  twelve-with-room-refused : Fits g (capacity_of table) → ¬ Demand3 bytes table work (refusal 12 0) table'
  twelve-with-room-refused fits d = fits-exceeds fits (((d.of_matches g a).refuses enough).0 refl)

  twelve-one-row-early-refused :
      capacity_of table ≡ length (least_of g) → ¬ Demand3 bytes table work (refusal 12 0) table'
  twelve-one-row-early-refused just d =
      let resolved = table_resolved g.matches g.marks (admitted-matches a) in
      twelve-with-room-refused (record { rows = least_of g; resolved = resolved; room = omega arith }) d

  refusal-with-room-refused : {number place : ℕ} {work' : List ℕ} → Fits g (capacity_of table)
      → (¬ Demand1 bytes table work (refusal number place) table' work')
      × (¬ Demand2 bytes table work (refusal number place) table')
  refusal-with-room-refused fits =
      let M = admitted-matches a in
      let least = table-least g.matches g.marks M in
      let fewest = least.fewest fits.rows fits.resolved in
      let room : length (least_of g) ≤ capacity_of table = omega (arith, fewest, fits.room) in
      let rows = MatchesOutcome.least_rows enough (table_resolved g.matches g.marks M) least room in
      let outcome = RefiningOutcome.of_matches a rows in
      (λ d. refusal-value (sym (d.alone _ outcome)), λ d. refusal-value ((d.of_matches g a).gets enough fits).1)

  other-refusal-refused : {number place : ℕ} → number ≢ 12 → ¬ Demand3 bytes table work (refusal number place) table'
  other-refusal-refused {number} other d =
      refusal-value ((d.of_matches g a).or_value enough (λ e. let twelve : number ≡ 12 = cc in other twelve)).1

  eleven-for-twelve-refused : {place : ℕ} {work' : List ℕ} → EveryExceeds g (capacity_of table)
      → ¬ Demand1 bytes table work (refusal 11 place) table' work'
  eleven-for-twelve-refused exceeds d =
      let outcome = RefiningOutcome.of_matches a (MatchesOutcome.too_many_pieces enough exceeds) in
      eleven-twelve (sym (d.alone (refusal 12 0) outcome))

module _ {bytes table work table' work' : List ℕ} {place : ℕ} where
  twelve-for-eleven-refused : {g : Given} → Admitted bytes g → length work < work_needed table
      → ¬ Demand1 bytes table work (refusal 12 place) table' work'
  twelve-for-eleven-refused a short d =
      eleven-twelve (d.alone (refusal 11 0) (RefiningOutcome.of_matches a (MatchesOutcome.work_too_short short)))

  table-touched-refused : table' ≢ table → ¬ Demand1 bytes table work (refusal 12 place) table' work'
  table-touched-refused touched d = touched (d.leaves.refused_table 12 place refl)

  work-zeroed-refused :
      zeroed work ≢ work → work' ≡ zeroed work → ¬ Demand1 bytes table work (refusal 11 place) table' work'
  work-zeroed-refused altered is d = altered (sym is ∙ d.leaves.refused_work 11 place refl (λ e. omega arith))
