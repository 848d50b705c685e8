-- The summary of a table that refining made, by the script's matches, and line two of the text that has it.
--     covered-matched    its rows cover just the letters of the matches
--     covers_kept        so the letters covered are those in at least one match, each counted once
--     pieces-counted     its pieces are the rows counted
--     classes-full       and each of them is in a class
--     line_two, line-two-printed     line two of the text has the number of distinct pieces, and ends in the numbers of
--                                    these letters, also in a lent buffer
-- Assumes nothing.
use Prim.Native.Nat.{ℕ, suc, ◌*◌, ◌^◌, ◌≤◌}
use mathlib.Core.Path.{◌≡◌, refl, sym, ap, ◌∙◌}
use mathlib.Core.Logic.{◌↔◌, ⊎_elim}
use mathlib.Core.Bool.{Bool, true}
use mathlib.Core.List.Memᴰ
use mathlib.Core.List.{List, [], ◌∷◌, ◌++◌, map, append_assoc}
use mathlib.Core.List.Memᴰ.{head as here}
use mathlib.Core.List.Memᴰ.{tail as there}
use native.Mathlib.Omega.{arith}
use native.Mathlib.Decide.{dec_le}
use borrow.Author.Tests.{lt-ltb, le-ltb, le-leb}
use lib.ListN.{length, take, drop, length-map}
use lib.Seq.{take_at}
use Rattle.std.specs.Prelude.{Result, Ok, Err}
use Rattle.script.specs.Limits.{longest}
use Rattle.script.specs.Reading.{admitted, read_script}
use Rattle.script.specs.Answers.{value, contents}
use Rattle.script.specs.Outcomes.{Outcome}
use Rattle.script.specs.declared.command.Match.{Match as ScriptMatch}
use Rattle.script.specs.declared.command.Mark.{Mark}
use Rattle.script.proofs.Outcome.{reach-range, reach-within, read-outcome}
use Rattle.refinement.specs.declared.Side.{Side}
use Rattle.refinement.specs.declared.Side.TheVariants.{A, B}
use Rattle.refinement.specs.Order.{◌∈◌}
use Rattle.refinement.specs.Match.{Match}
use Rattle.refinement.specs.Refinement.{Matches, Holds, ResolvedRefinement}
use Rattle.refinement.proofs.Theorem.{table_resolved}
use Rattle.refinement.proofs.Letters.{letter-of-row, letter-on-row}
use Rattle.rows.specs.Rows.{row_width, rows_of}
use Rattle.table.specs.Covering.{cover_of, CountedOnce, InStretch, Covered}
use Rattle.table.specs.Summing.{total, count, class_count, summary_of, summary_of_rows}
use Rattle.rows.specs.declared.Row.{Row}
use Rattle.table.proofs.OneOfEach.{distinct-counted}
use Rattle.table.proofs.Covers.{cover-counted, counted-alike}
use Rattle.table.proofs.Laws.{sum_of, between, classes-sum}
use Rattle.refining.specs.Rows.{row_of_piece}
use Rattle.refining.specs.Refining.{with_number, numbered, given_by, least_of, refining_of}
use Rattle.refining.proofs.Numbered.{admitted_of, admitted-matches}
use Rattle.reporting.specs.Lines.{lengths_line, summary_line, row_lines, class_lines}
use Rattle.reporting.specs.Reporting.{lent_rows, lent_table, lent_work, report_of}
use Rattle.reporting.specs.Reporting.{reporting_of_text, reporting_of}
use Rattle.reporting.specs.declared.TextTooShort.{TextTooShort}
use Rattle.reporting.specs.LineTwo.{Matched, LineTwo, LineTwoPrinted}
use Rattle.reporting.proofs.LeastRows.{LeastRows, least_rows, report-rows}
use Rattle.reporting.proofs.Lent.{lent_rows-lengths}

-- ---- the matches

-- a match of the theory is one of the script with a number
numbered_of : {m : Match} (n : ℕ) (ms : List ScriptMatch) → m ∈ numbered n ms
    → (x : ScriptMatch) × (k : ℕ) × (x ∈ ms) × (m ≡ with_number k x)
numbered_of n [] i = absurd (Memᴰ.not-nil i)
numbered_of n (x ∷ ms) i =
    ⊎_elim (λ e. (x, n, here refl, e)) (λ j. let o = numbered_of (suc n) ms j in (o.0, o.1, there o.2, o.3))
    (Memᴰ.cases_cons i)

of-numbered : {x : ScriptMatch} (n : ℕ) {ms : List ScriptMatch} → x ∈ ms → (k : ℕ) × (with_number k x ∈ numbered n ms)
of-numbered n (here e) = (n, rw e (here refl))
of-numbered n (there i) = let o = of-numbered (suc n) i in (o.0, there o.1)

numbered-short : {most : ℕ} {m : Match} (n : ℕ) (ms : List ScriptMatch)
    → ((x : ScriptMatch) → x ∈ ms → x.length ≤ most) → m ∈ numbered n ms → m.length ≤ most
numbered-short n ms h i =
    let o = numbered_of n ms i in
    omega (arith, ap (λ (z : Match). z.length) o.3, h o.0 o.2)

-- what the reader grants: no match is longer than p can be
short : (script : List ℕ) {p q : ℕ} {ms : List ScriptMatch} {ks : List Mark}
    → read_script script ≡ admitted (p ∷ q ∷ []) ms ks → (m : ScriptMatch) → m ∈ ms → m.length ≤ longest
short script {p} {q} {ms} {ks} e = go (read-outcome e)
  where
    go : Outcome script (value (contents (p ∷ q ∷ []) ms ks)) → (m : ScriptMatch) → m ∈ ms → m.length ≤ longest
    go (Outcome.is_admitted r _ _) m i = omega (arith, (reach-within r i).in_a, (reach-range r).0.few)

-- ---- the rows

count-all : (p : Row → Bool) (rs : List Row) → ((r : Row) → r ∈ rs → p r ≡ true) → count p rs ≡ length rs
unfolding total
count-all p [] h = refl
count-all p (r ∷ rs) h = rw (h r (here refl)) (omega (arith, count-all p rs (λ r' i. h r' (there i))))

module _ (script : List ℕ) {p q : ℕ} {ms : List ScriptMatch} {ks : List Mark}
    (read : read_script script ≡ admitted (p ∷ q ∷ []) ms ks) where
  admitted-ones : Matches (numbered 1 ms)
  admitted-ones = admitted-matches (admitted_of read)

  resolved : ResolvedRefinement (numbered 1 ms) (given_by ms ks).marks (least_of (given_by ms ks))
  resolved = table_resolved (numbered 1 ms) (given_by ms ks).marks admitted-ones

  covered_of : (s : Side) (h : ℕ) → Covered s (map row_of_piece (least_of (given_by ms ks))) h → Matched s ms h
  covered_of s h c =
      let f = Memᴰ.of_map row_of_piece (least_of (given_by ms ks)) c.among in
      let inside : InStretch s (row_of_piece f.0) h = rw f.2 c.inside in
      let held : Holds f.0 s h = record { from_left = inside.from_left; before_right = inside.before_right } in
      let o = letter-of-row admitted-ones resolved.refines s h f.1 held in
      let x = numbered_of 1 ms o.1 in
      let owned : Holds (with_number x.1 x.0) s h = rw x.3 at o.2 in
      record {
        which = x.0;
        listed = x.2;
        from_left = owned.from_left;
        before_right = owned.before_right;
      }

  covered-by : (s : Side) (h : ℕ) → Matched s ms h → Covered s (map row_of_piece (least_of (given_by ms ks))) h
  covered-by s h m =
      let x = of-numbered 1 m.listed in
      let owned : Holds (with_number x.0 m.which) s h =
      record { from_left = m.from_left; before_right = m.before_right } in
      let o = letter-on-row admitted-ones resolved.refines s h x.1 owned in
      record {
        row = row_of_piece o.0;
        among = Memᴰ.map row_of_piece o.1;
        inside = record { from_left = o.2.from_left; before_right = o.2.before_right };
      }

  pub covered-matched : (s : Side) (h : ℕ) → Covered s (map row_of_piece (least_of (given_by ms ks))) h ↔ Matched s ms h
  covered-matched s h = (covered_of s h, covered-by s h)

  matched-counted : (s : Side) → CountedOnce (Matched s ms) (cover_of s (map row_of_piece (least_of (given_by ms ks))))
  matched-counted s = counted-alike (covered-matched s) (cover-counted s (map row_of_piece (least_of (given_by ms ks))))

  -- a row has a letter, and no more than its match
  classed : (r : Row) → r ∈ map row_of_piece (least_of (given_by ms ks)) → between 1 (2 ^ class_count) r ≡ true
  classed r i =
      let f = Memᴰ.of_map row_of_piece (least_of (given_by ms ks)) i in
      let o = resolved.refines.pieces f.0 f.1 in
      let piece = o.2 in
      let few = numbered-short 1 ms (short script read) o.1 in
      rw (← f.2)
      rw (
        le-leb 1 f.0.length piece.lettered,
        lt-ltb f.0.length (2 ^ class_count) (omega (arith, piece.starts_within A, piece.ends_within A)),
      )

  -- ---- the summary

  module _ (table work : List ℕ) {n : ℕ} (success : (refining_of script table work).reply ≡ Ok n) where
    made : LeastRows (given_by ms ks) n (refining_of script table work).table
    made = least_rows script table work (admitted_of read) success

    pub covers_kept : (s : Side)
        → CountedOnce (Matched s ms) (cover_of s (rows_of (take (row_width * n) (refining_of script table work).table)))
    covers_kept s = rw made.rows (matched-counted s)

    pub pieces-counted : (summary_of (take (row_width * n) (refining_of script table work).table)).pieces ≡ n
    pieces-counted = rw made.rows (length-map (least_of (given_by ms ks)) row_of_piece ∙ sym made.count)

    pub classes-full : sum_of (summary_of (take (row_width * n) (refining_of script table work).table)).classes ≡ n
    classes-full =
        let rows = map row_of_piece (least_of (given_by ms ks)) in
        classes-sum (take (row_width * n) (refining_of script table work).table)
        ∙ rw made.rows (count-all (between 1 (2 ^ class_count)) rows classed)
        ∙ pieces-counted

  -- ---- the text

  pub line_two : length (least_of (given_by ms ks)) ≤ lent_rows → LineTwo p q ms ks (report_of script)
  unfolding report_of
  line_two room =
      let rows = map row_of_piece (least_of (given_by ms ks)) in
      let s = summary_of_rows rows in
      record {
        all = s.pieces;
        different = s.distinct;
        on_a = cover_of A rows;
        on_b = cover_of B rows;
        below = row_lines rows ++ class_lines 0 s.classes;
        line_two =
            rw read
            (report-rows p q (length ms) (given_by ms ks) lent_table lent_work (omega (arith, lent_rows-lengths))
            (omega (arith, lent_rows-lengths.0))
            ∙ append_assoc (lengths_line p q ++ summary_line (length ms) s) (row_lines rows) (class_lines 0 s.classes));
        counted_different = distinct-counted rows;
        counted_a = matched-counted A;
        counted_b = matched-counted B;
      }

-- a text that is printed stands at the buffer's start
printed-whole : (printed text : List ℕ) {n : ℕ} → (reporting_of_text printed text).reply ≡ Ok n
    → take n (reporting_of_text printed text).text ≡ printed
printed-whole printed text {n} e =
    elim (dec_le (length printed) (length text)) [
      | yes room ↦
          let told = le-ltb (length text) (length printed) room in
          let size : length printed ≡ n = cc (rw told at e) in
          rw told (take_at printed (drop (length printed) text) n size)
      | no short ↦
          let told = lt-ltb (length text) (length printed) (omega arith) in
          absurd (other (rw told at e))
    ]
  where
    other : {e : TextTooShort} → ◌≡◌ {A = Result ℕ TextTooShort} (Err e) (Ok n) → ⊥
    other e = let z : ◌≡◌ {A = ℕ} 0 1 = cc in omega arith

pub line-two-printed : (script text : List ℕ)
    → LineTwoPrinted script (reporting_of script text).reply (reporting_of script text).text
line-two-printed script text =
    record {
      line_two = λ replied read room. rw (printed-whole (report_of script) text replied) (line_two script read room);
    }
