-- What a crate above learns of a script from the reader's stated result alone.
--     Ended, admitted-ended     good commands up to the end
--     Holds s p q count marks   the bytes s hold this many matches and marks: the lists of them, the matches within p
--                               and q, the marks on A or B
--     holds-admitted            of an admitted script
--     reading-refused           a refused one was refused by its bytes
--     admitted-short            an admitted script has at most 29,706 bytes
--     matches-few, marks-few    and no more matches and marks than its bytes have room for
-- Assumes nothing.
use Prim.Native.Nat.{ℕ, ◌+◌, ◌*◌, ◌≤◌}
use mathlib.Core.Path.{◌≡◌, refl, sym, ap, subst, ◌∙◌}
use mathlib.Core.List.{List, [], ◌∷◌, Memᴰ}
use native.Mathlib.Omega.{arith}
use lib.ListN.{length}
use Rattle.std.specs.Prelude.{Result, Ok, Err}
use Rattle.script.specs.Limits.{most_matches, most_marks, longest_script}
use Rattle.script.specs.Commands.{match_width, mark_width}
use Rattle.script.specs.Reading.{Reading, admitted, refused, read_script, verdict_of}
use Rattle.script.specs.Columns.{matches_read, marks_read}
use Rattle.script.specs.Answers.{value, contents}
use Rattle.script.specs.Outcomes.{InRange, Within, OnSequence, Reach, Outcome}
use Rattle.script.specs.declared.refusal.Refusal.{Refusal}
use Rattle.script.specs.declared.command.Match.{Match}
use Rattle.script.specs.declared.command.Mark.{Mark}
use Rattle.script.specs.declared.Admitted.{Admitted}
use Rattle.script.proofs.Outcome.{reach-place, reach-tracks, reach-within, reach-on, reach-range, read-outcome}

-- the end behind the good commands of an admitted script
pub record Ended (s ls : List ℕ) (ms : List Match) (ks : List Mark) : Type 0 where
  pub p : ℕ
  pub q : ℕ
  pub lengths : ls ≡ p ∷ q ∷ []
  pub at : ℕ
  pub reach : Reach s p q at ms ks
  pub end : at + 1 ≡ length s

ended : {s ls : List ℕ} {ms : List Match} {ks : List Mark} → Outcome s (value (contents ls ms ks)) → Ended s ls ms ks
ended (Outcome.is_admitted {p} {q} {at} r b e) =
    record { p = p; q = q; lengths = refl; at = at; reach = r; end = e }

pub admitted-ended : {s ls : List ℕ} {ms : List Match} {ks : List Mark} → read_script s ≡ admitted ls ms ks
    → Ended s ls ms ks
admitted-ended e = ended (read-outcome e)

pub admitted-short : (s : List ℕ) {ls : List ℕ} {ms : List Match} {ks : List Mark} → read_script s ≡ admitted ls ms ks
    → length s ≤ longest_script
admitted-short s e = let x = admitted-ended e in omega (arith, reach-place x.reach, x.end)

-- each match takes its bytes behind the lengths
pub matches-few : (s : List ℕ)
    → (match_width * length (matches_read (read_script s)) ≤ length s)
    × (length (matches_read (read_script s)) ≤ most_matches)
matches-few s = go (read_script s) refl
  where
    go : (x : Reading) → read_script s ≡ x
        → (match_width * length (matches_read x) ≤ length s) × (length (matches_read x) ≤ most_matches)
    go (refused f) e = omega arith
    go (admitted ls ms ks) e = let x = admitted-ended e in omega (arith, reach-place x.reach, x.end)

-- and so does each mark
pub marks-few : (s : List ℕ)
    → (mark_width * length (marks_read (read_script s)) ≤ length s) × (length (marks_read (read_script s)) ≤ most_marks)
marks-few s = go (read_script s) refl
  where
    go : (x : Reading) → read_script s ≡ x
        → (mark_width * length (marks_read x) ≤ length s) × (length (marks_read x) ≤ most_marks)
    go (refused f) e = omega arith
    go (admitted ls ms ks) e = let x = admitted-ended e in omega (arith, reach-place x.reach, x.end)

pub record Holds (s : List ℕ) (p q count marks : ℕ) : Type 0 where
  pub matches : List Match
  pub points : List Mark
  pub read : read_script s ≡ admitted (p ∷ q ∷ []) matches points
  pub counted : length matches ≡ count
  pub counted_marks : length points ≡ marks
  pub few : count ≤ most_matches
  pub few_marks : marks ≤ most_marks
  pub p_range : InRange p
  pub q_range : InRange q
  pub tracks : {m : Match} → Memᴰ m matches → (m.track_a ≡ 0) × (m.track_b ≡ 1)
  pub within : {m : Match} → Memᴰ m matches → Within p q m
  pub on_sequence : {k : Mark} → Memᴰ k points → OnSequence p q k

holds : {s : List ℕ} {p q : ℕ} (ms : List Match) (ks : List Mark) → read_script s ≡ admitted (p ∷ q ∷ []) ms ks
    → {at : ℕ} → Reach s p q at ms ks → Holds s p q (length ms) (length ks)
holds ms ks e reach =
    record {
      matches = ms;
      points = ks;
      read = e;
      counted = refl;
      counted_marks = refl;
      few = (reach-place reach).1.0;
      few_marks = (reach-place reach).1.1;
      p_range = (reach-range reach).0;
      q_range = (reach-range reach).1;
      tracks = λ x. reach-tracks reach x;
      within = λ x. reach-within reach x;
      on_sequence = λ x. reach-on reach x;
    }

module _ (s : List ℕ) {told : Result Admitted Refusal} (reads : told ≡ verdict_of (read_script s)) where
  -- the verdict is the reading's own
  verdict-of : {v : Result Admitted Refusal} {reading : Reading} → told ≡ v → read_script s ≡ reading
      → verdict_of reading ≡ v
  verdict-of v x = sym (ap verdict_of x) ∙ sym reads ∙ v

  pub holds-admitted : {a : Admitted} → told ≡ Ok a → Holds s a.p a.q a.count a.marks
  holds-admitted {a} v = go (read_script s) refl
    where
      go : (reading : Reading) → read_script s ≡ reading → Holds s a.p a.q a.count a.marks
      go (refused f) x = let d = verdict-of v x in let z : ◌≡◌ {A = ℕ} 0 1 = cc in absurd (omega arith)
      go (admitted ls ms ks) x =
          let end = admitted-ended x in
          let x' : read_script s ≡ admitted (end.p ∷ end.q ∷ []) ms ks = x ∙ ap (λ l. admitted l ms ks) end.lengths in
          let d = verdict-of v x' in
          let same : record { p = end.p; q = end.q; count = length ms; marks = length ks } ≡ a = cc in
          subst (λ (a : Admitted). Holds s a.p a.q a.count a.marks) same (holds ms ks x' end.reach)

  pub reading-refused : {f : Refusal} → told ≡ Err f → read_script s ≡ refused f
  reading-refused {f} v = go (read_script s) refl
    where
      go : (reading : Reading) → read_script s ≡ reading → read_script s ≡ refused f
      go (refused g) x = let d = verdict-of v x in let ef : g ≡ f = cc in x ∙ ap refused ef
      go (admitted ls ms ks) x = let d = verdict-of v x in let z : ◌≡◌ {A = ℕ} 0 1 = cc in absurd (omega arith)
