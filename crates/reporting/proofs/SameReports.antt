-- Inputs that the program prints alike have the same answer.
--     rows_in              the rows that a success of the refining call counts
--     Says                what there is to say of an input: the call's refusal, or its rows with p, q and the count
--     says-something      of every input there is something to say ..
--     says-printed        .. and it is what is printed
--     reports-read-back   inputs that print alike say the same
-- Assumes nothing.
use Prim.Native.Nat.{ℕ, suc, ◌+◌, ◌*◌, ◌^◌, ◌≤◌, ◌<◌}
use mathlib.Core.Path.{◌≡◌, refl, sym, ap, subst, ◌∙◌}
use mathlib.Core.Logic.{⊎_elim}
use mathlib.Core.Bool.{Bool, true, false}
use mathlib.Core.List.Memᴰ
use mathlib.Core.List.{List, [], ◌∷◌}
use mathlib.Core.List.Memᴰ.{head as here}
use mathlib.Core.List.Memᴰ.{tail as there}
use native.Mathlib.Omega.{arith}
use lib.ListN.{length, take}
use Rattle.std.specs.Prelude.{Result, Ok, Err}
use Rattle.script.specs.Commands.{bit_of}
use Rattle.script.specs.Refusals.{number_of, place_of}
use Rattle.script.specs.Reading.{Reading, admitted, refused, read_script, letters}
use Rattle.script.specs.Answers.{value, refusal, contents}
use Rattle.script.specs.Outcomes.{Within, Short, Outcome}
use Rattle.script.specs.declared.refusal.Refusal.{Refusal}
use Rattle.script.specs.declared.refusal.Refusal.TheVariants.{WorkTooShort, TooManyPieces}
use Rattle.script.specs.declared.command.Match.{Match as ScriptMatch}
use Rattle.script.specs.declared.command.Mark.{Mark}
use Rattle.script.proofs.Outcome.{reach-place, reach-range, reach-within, read-outcome}
use Rattle.script.proofs.Holding.{admitted-ended}
use Rattle.refinement.specs.declared.Side.TheVariants.{A, B}
use Rattle.refinement.specs.Order.{◌∈◌}
use Rattle.refinement.specs.Match.{Match}
use Rattle.refinement.specs.Refinement.{Piece}
use Rattle.refinement.proofs.Theorem.{table_resolved}
use Rattle.rows.specs.Rows.{row_width, rows_of}
use Rattle.rows.specs.declared.Row.{Row}
use Rattle.refining.specs.Rows.{row_of_piece}
use Rattle.refining.specs.Refining.{Given, numbered, given_by, least_of, Refining, refining_of_matches}
use Rattle.refining.specs.Refining.{refining_of_reading, refining_of}
use Rattle.refining.proofs.Numbered.{admitted_of, admitted-matches}
use Rattle.refining.proofs.RefiningCases.{refining-refused, MatchesCase, short, crowded, writing, Case, refusing, matched}
use Rattle.refining.proofs.RefiningCases.{case}
use Rattle.reporting.specs.Lines.{refusal_text}
use Rattle.reporting.specs.Reporting.{lent_table, lent_work, report_of_reply, report_of_reading, report_of}
use Rattle.reporting.proofs.LeastRows.{least_rows}
use Rattle.reporting.proofs.ReadBack.{Printable, Said, text_of, Sayable, text-read-back}

-- the rows that a success counts
abbrev pub rows_in : Refining → ℕ → List Row
rows_in x n = rows_of (take (row_width * n) x.table)

-- what the program's call of refining answers and leaves
abbrev pub refined : List ℕ → Refining
refined script = refining_of script lent_table lent_work

pub data Says (script : List ℕ) : Said → Type 0 where
  -- the refusal's number and place
  refuses : {r : Refusal} → (refined script).reply ≡ Err r → Says script (Said.refusal (number_of r) (place_of r))
  -- p and q, the count of matches, and the rows
  lists :
      {p q n : ℕ} {ms : List ScriptMatch} {ks : List Mark} → read_script script ≡ admitted (p ∷ q ∷ []) ms ks
      → (refined script).reply ≡ Ok n
      → Says script (Said.table p q (length ms) (rows_in (refined script) n))

-- ---- the numbers of refusals

short-place : {s : List ℕ} {at : ℕ} → Short s at → at < 2 ^ 64
short-place (Short.lengths _ _) = omega arith
short-place (Short.pairing r _ _ _) = omega (arith, reach-place r)
short-place (Short.marking r _ _ _) = omega (arith, reach-place r)
short-place (Short.ran_out r _) = omega (arith, reach-place r)

outcome-sayable : {s : List ℕ} {number place : ℕ} → Outcome s (refusal number place)
    → Sayable (Said.refusal number place)
outcome-sayable (Outcome.headless _) = omega arith
outcome-sayable (Outcome.unknown_command r _ _ _ _ _ _) = omega (arith, reach-place r)
outcome-sayable (Outcome.cut_short h) = omega (arith, short-place h)
outcome-sayable (Outcome.second_lengths r _) = omega (arith, reach-place r)
outcome-sayable (Outcome.length_out_of_range _ _) = omega arith
outcome-sayable (Outcome.too_many_matches r _ _) = omega (arith, reach-place r)
outcome-sayable (Outcome.empty_match r _ _ _) = omega (arith, reach-place r)
outcome-sayable (Outcome.beyond_a r _ _ _ _) = omega (arith, reach-place r)
outcome-sayable (Outcome.beyond_b r _ _ _ _ _) = omega (arith, reach-place r)
outcome-sayable (Outcome.tail r _ _) = omega (arith, reach-place r)
outcome-sayable (Outcome.too_many_marks r _ _) = omega (arith, reach-place r)
outcome-sayable (Outcome.no_such_side r _ _ _) = omega (arith, reach-place r)
outcome-sayable (Outcome.mark_beyond r _ _ _) = omega (arith, reach-place r)

refusal-sayable : (script table work : List ℕ) {r : Refusal} → (refining_of script table work).reply ≡ Err r
    → Sayable (Said.refusal (number_of r) (place_of r))
refusal-sayable script table work {r} e = go (case script table work) e
  where
    matched-sayable : (g : Given) {reply : Result ℕ Refusal} {table' work' : List ℕ} → MatchesCase g table work reply table' work'
        → reply ≡ Err r → Sayable (Said.refusal (number_of r) (place_of r))
    matched-sayable g (short _) e = let same : r ≡ WorkTooShort = cc in rw same (omega arith)
    matched-sayable g (crowded _ _) e = let same : r ≡ TooManyPieces = cc in rw same (omega arith)
    matched-sayable g (writing _ _) e = let z : ◌≡◌ {A = ℕ} 0 1 = cc in absurd (omega arith)

    go : {reply : Result ℕ Refusal} {table' work' : List ℕ} → Case script table work reply table' work' → reply ≡ Err r
        → Sayable (Said.refusal (number_of r) (place_of r))
    go (refusing {r = r'} o) e = let same : r ≡ r' = cc in rw same (outcome-sayable o)
    go (matched {g = g} _ c) e = matched-sayable g c e

-- ---- the numbers of rows

numbered-fits :
    {p q : ℕ} {m : Match} (n : ℕ) (ms : List ScriptMatch) → ((x : ScriptMatch) → x ∈ ms → Within p q x)
    → m ∈ numbered n ms
    → (m.number < n + length ms) × (m.left_a + m.length ≤ p) × (m.left_b + m.length ≤ q)
numbered-fits n [] h i = absurd (Memᴰ.not-nil i)
numbered-fits n (x ∷ ms) h i =
    ⊎_elim
    (λ e. rw e (omega (arith, (h x (here refl)).in_a, (h x (here refl)).in_b)))
    (λ j. omega (arith, numbered-fits (suc n) ms (λ y k. h y (there k)) j))
    (Memᴰ.cases_cons i)

direction-few : (b : Bool) → bit_of b < 2
direction-few false = omega arith
direction-few true = omega arith

piece-printable :
    {m r : Match} → Piece m r → m.number < 2 ^ 64 → m.left_a + m.length < 2 ^ 64 → m.left_b + m.length < 2 ^ 64
    → Printable (row_of_piece r)
piece-printable {r = r} piece number on_a on_b = record {
  number_fits = omega (arith, piece.same_number);
  left_a_fits = omega (arith, piece.ends_within A);
  left_b_fits = omega (arith, piece.ends_within B);
  length_fits = omega (arith, piece.ends_within A);
  a_direction = direction-few r.reversed;
}

table-sayable :
    (script table work : List ℕ) {p q n : ℕ} {ms : List ScriptMatch} {ks : List Mark}
    → read_script script ≡ admitted (p ∷ q ∷ []) ms ks
    → (refining_of script table work).reply ≡ Ok n
    → Sayable (Said.table p q (length ms) (rows_in (refining_of script table work) n))
table-sayable script table work {p} {q} {n} {ms} {ks} read e = go (read-outcome read)
  where
    go : Outcome script (value (contents (p ∷ q ∷ []) ms ks))
        → Sayable (Said.table p q (length ms) (rows_in (refining_of script table work) n))
    go (Outcome.is_admitted r _ _) = (
      omega (arith, (reach-range r).0.few),
      omega (arith, (reach-range r).1.few),
      omega (arith, reach-place r),
      rw (least_rows script table work (admitted_of read) e).rows (λ x i.
          let resolved = table_resolved (numbered 1 ms) (given_by ms ks).marks (admitted-matches (admitted_of read)) in
          let f = Memᴰ.of_map row_of_piece (least_of (given_by ms ks)) i in
          let o = resolved.refines.pieces f.0 f.1 in
          let m = numbered-fits 1 ms (λ y k. reach-within r k) o.1 in
          subst Printable f.2
          (piece-printable o.2 (omega (arith, m.0, reach-place r)) (omega (arith, m.1, (reach-range r).0.few))
          (omega (arith, m.2, (reach-range r).1.few)))),
    )

-- ---- the laws

refused-no-rows : (script table work : List ℕ) {r : Refusal} {n : ℕ} → read_script script ≡ refused r
    → (refining_of script table work).reply ≡ Ok n → ⊥
refused-no-rows script table work read e =
    let replied = refining-refused script table work read in
    let z : ◌≡◌ {A = ℕ} 0 1 = cc in
    omega arith

pub says-something : (script : List ℕ) → (a : Said) × Says script a
says-something script = go (read_script script) refl (refined script).reply refl
  where
    go : (x : Reading) → read_script script ≡ x → (y : Result ℕ Refusal) → (refined script).reply ≡ y
        → (a : Said) × Says script a
    go x read (Err r) e = (Said.refusal (number_of r) (place_of r), refuses e)
    go (admitted ls ms ks) read (Ok n) e =
        (_, lists (read ∙ ap (λ l. admitted l ms ks) (admitted-ended read).lengths) e)
    go (refused r) read (Ok n) e = absurd (refused-no-rows script lent_table lent_work read e)

pub says-printed : {script : List ℕ} {a : Said} → Says script a → report_of script ≡ text_of a
unfolding report_of refining_of
says-printed {script} (refuses {r} e) = go (read_script script) e
  where
    go : (x : Reading) → (refining_of_reading x lent_table lent_work).reply ≡ Err r → report_of_reading x ≡ refusal_text r
    go (refused r') e = let same : r' ≡ r = cc in ap refusal_text same
    go (admitted ls ms ks) e =
        let x = refining_of_matches (given_by ms ks) lent_table lent_work in
        ap (report_of_reply (letters ls 0) (letters ls 1) (length ms) x.table) e
says-printed (lists {p} {q} {ms = ms} {ks = ks} read e) =
    rw read
    (ap (report_of_reply p q (length ms) (refining_of_matches (given_by ms ks) lent_table lent_work).table) (rw read at e))

says-sayable : {script : List ℕ} {a : Said} → Says script a → Sayable a
says-sayable {script} (refuses e) = refusal-sayable script lent_table lent_work e
says-sayable {script} (lists read e) = table-sayable script lent_table lent_work read e

pub reports-read-back : {script script' : List ℕ} {a b : Said} → Says script a → Says script' b
    → report_of script ≡ report_of script' → a ≡ b
reports-read-back {a = a} {b = b} s s' e =
    text-read-back a b (says-sayable s) (says-sayable s') (sym (says-printed s) ∙ e ∙ says-printed s')
