-- The walk over the commands of an admitted script: its bytes alone tell what each does.
--     Stands, stands      what stands at an offset, by what the command there does
--     admits-reach        behind the lengths of an admitted script
--     never-refused       a script that was admitted is not refused on a second walk
--     next-asks, next-is  the byte at an offset tells the step, and the command's bytes are there
--     Begun, begun        the matches of an admitted script begin with those that were passed
-- Assumes nothing.
use Prim.Native.Nat.{ℕ, zero, suc, ◌+◌, ◌≤◌, ◌<◌}
use mathlib.Core.Path.{◌≡◌, refl, sym, ap, ◌∙◌}
use mathlib.Core.Logic.{◌≢◌}
use mathlib.Core.Bool.{Bool}
use mathlib.Core.List.{List, [], ◌∷◌, ◌++◌, append_assoc, append-nil}
use native.Mathlib.Omega.{arith}
use borrow.Author.Tests.{ne_eqb}
use lib.Dec.{eqb}
use lib.ListN.{length, get_or, drop}
use Rattle.std.specs.Prelude.{Result, Ok, Err}
use Rattle.script.specs.Limits.{most_matches, most_marks}
use Rattle.script.specs.Commands.{lengths_width, match_width, mark_width, command_of}
use Rattle.script.specs.Steps.{step_of}
use Rattle.script.specs.Reading.{Reading, admitted, after_step, read_from, read_script}
use Rattle.script.specs.Outcomes.{Byte, MatchByte, MatchAt, MarkAt, Reach, opened, taken, marked}
use Rattle.script.specs.declared.command.Match.{Match}
use Rattle.script.specs.declared.command.Mark.{Mark}
use Rattle.script.specs.declared.command.Command.{Command}
use Rattle.script.specs.declared.refusal.Refusal.{Refusal}
use Rattle.script.specs.declared.refusal.Refusal.TheVariants.{CutShort, TooManyMatches, TooManyMarks}
use Rattle.script.specs.declared.step.Step.{Step}
use Rattle.script.proofs.Seen.{Seen, seen}
use Rattle.script.proofs.Outcome.{reach-read}
use Rattle.script.proofs.Holding.{Ended, holds-admitted, admitted-ended}
use Rattle.script.proofs.Judged.{Weighed, Judged, judged, Measured, Pointed, pointed, Roomy, roomy}
use Rattle.reader.specs.Walking.{Admits, match_seen, mark_seen, next_of}
use Rattle.reader.proofs.Progress.{Progress, step-refused}

-- ---- what stands at an offset

data Stands (s : List ℕ) (at : ℕ) : Result Step Refusal → Type 0 where
  match_here : {m : Match} → MatchAt s at m → Stands s at (Ok (Step.Take m))
  mark_here : {k : Mark} → MarkAt s at k → Stands s at (Ok (Step.Keep k))
  end_here : Byte s at 0x45 → Stands s at (Ok Step.Finish)
  refused_here : {f : Refusal} → Stands s at (Err f)

match-stands : {s : List ℕ} {p q count at : ℕ} {m : Match} {t : Result Step Refusal} → MatchAt s at m
    → Judged p q count at m t → Stands s at t
match-stands d (Judged.too_many _) = refused_here
match-stands d (Judged.room _ (Weighed.empty _)) = refused_here
match-stands d (Judged.room _ (Weighed.beyond_a _ _)) = refused_here
match-stands d (Judged.room _ (Weighed.beyond_b _ _ _)) = refused_here
match-stands d (Judged.room _ (Weighed.sound _)) = match_here d

mark-stands : {s : List ℕ} {p q marks at : ℕ} {k : Mark} {t : Result Step Refusal} → MarkAt s at k
    → Pointed p q marks at k t → Stands s at t
mark-stands d (Pointed.too_many _) = refused_here
mark-stands d (Pointed.room _ (Measured.no_side _)) = refused_here
mark-stands d (Pointed.room _ (Measured.beyond _)) = refused_here
mark-stands d (Pointed.room _ (Measured.sound _)) = mark_here d

short-stands : {s : List ℕ} {at most count : ℕ} {full : Refusal} {t : Result Step Refusal}
    → Roomy most count full (Err (CutShort at)) t → Stands s at t
short-stands (Roomy.too_many _) = refused_here
short-stands (Roomy.room _) = refused_here

stands : {s : List ℕ} (p q count marks : ℕ) {at : ℕ} {c : Command} → Seen s at c
    → Stands s at (step_of p q count marks at c)
stands p q count marks (Seen.missing _) = refused_here
stands p q count marks (Seen.unknown _ _ _ _ _ _) = refused_here
stands p q count marks (Seen.lengths _ _) = refused_here
stands p q count marks (Seen.lengths_short _ _) = refused_here
stands p q count marks {at} (Seen.pairing {m} d) = match-stands d (judged p q count at m)
stands p q count marks {at} (Seen.pairing_short _ _) =
    short-stands (roomy most_matches count (TooManyMatches at) (Err (CutShort at)))
stands p q count marks {at} (Seen.marking {k} d) = mark-stands d (pointed p q marks at k)
stands p q count marks {at} (Seen.marking_short _ _) =
    short-stands (roomy most_marks marks (TooManyMarks at) (Err (CutShort at)))
stands p q count marks (Seen.end b _) = end_here b
stands p q count marks (Seen.end_then_more _ _) = refused_here

-- ---- by its byte

-- the byte of a match tells its direction, and is no other command's
record Told (code : ℕ) (way : Bool) : Type 0 where
  direction : eqb code 0x52 ≡ way
  no_end : code ≢ 0x45
  no_mark : code ≢ 0x4D

told : {s : List ℕ} {at : ℕ} {way : Bool} → MatchByte s at way → Told (get_or s at 0) way
told (MatchByte.direct b) =
    let is = b.is in record { direction = rw is; no_end = omega arith; no_mark = omega arith }
told (MatchByte.backward b) =
    let is = b.is in record { direction = rw is; no_end = omega arith; no_mark = omega arith }

pub match-seen : {s : List ℕ} {at : ℕ} {m : Match} → MatchAt s at m → match_seen s at ≡ m
match-seen d = λ i. record {
  track_a = sym d.on_a i;
  track_b = sym d.on_b i;
  left_a = sym d.left_a i;
  left_b = sym d.left_b i;
  length = sym d.letters i;
  reversed = (told d.code).direction i;
}

mark-seen : {s : List ℕ} {at : ℕ} {k : Mark} → MarkAt s at k → mark_seen s at ≡ k
mark-seen d = λ i. record { side = sym d.side i; position = sym d.position i }

next-by : {s : List ℕ} {at : ℕ} {t : Result Step Refusal} → Stands s at t → ((f : Refusal) → t ≡ Err f → ⊥)
    → Ok (next_of s at) ≡ t
next-by {s} {at} (match_here d) go =
    rw (ne_eqb (get_or s at 0) 0x45 (told d.code).no_end, ne_eqb (get_or s at 0) 0x4D (told d.code).no_mark)
    (ap (λ m. Ok (Step.Take m)) (match-seen d))
next-by {s} {at} (mark_here d) go = rw d.code.is (ap (λ k. Ok (Step.Keep k)) (mark-seen d))
next-by (end_here b) go = rw b.is
next-by (refused_here {f}) go = absurd (go f refl)

-- what reading the command asks of the bytes
abbrev Asked : List ℕ → ℕ → Type 0
Asked s at =
    (at < length s)
    × ((get_or s at 0 ≡ 0x4D → at + mark_width ≤ length s)
    × (get_or s at 0 ≢ 0x45 → get_or s at 0 ≢ 0x4D → at + match_width ≤ length s))

asked_by : {s : List ℕ} {at : ℕ} {t : Result Step Refusal} → Stands s at t → ((f : Refusal) → t ≡ Err f → ⊥)
    → Asked s at
asked_by (match_here d) go =
    let whole = d.whole in (omega arith, (λ is. absurd ((told d.code).no_mark is), λ _ _. whole))
asked_by (mark_here d) go =
    let whole = d.whole in (omega arith, (λ _. whole, λ _ other. absurd (other d.code.is)))
asked_by (end_here b) go =
    (b.inside, (λ is. absurd (omega (arith, b.is)), λ other _. absurd (other b.is)))
asked_by (refused_here {f}) go = absurd (go f refl)

-- ---- where the walk begins

first_reach : {s : List ℕ} {p q at : ℕ} {ms : List Match} {ks : List Mark} → Reach s p q at ms ks
    → Reach s p q lengths_width [] []
first_reach (opened l a b) = opened l a b
first_reach (taken r _ _ _) = first_reach r
first_reach (marked r _ _ _) = first_reach r

ended-reach : {s ls : List ℕ} {ms : List Match} {ks : List Mark} {p q : ℕ} → Ended s ls ms ks → ls ≡ p ∷ q ∷ []
    → Reach s p q lengths_width [] []
ended-reach {p = p} {q = q} end e =
    let lengths = end.lengths in
    let ep : p ≡ end.p = cc in
    let eq : q ≡ end.q = cc in
    rw (ep, eq) (first_reach end.reach)

pub admits-reach : {s : List ℕ} (admits : Admits s) → Reach s admits.admitted.p admits.admitted.q lengths_width [] []
admits-reach {s} a = ended-reach (admitted-ended (holds-admitted s a.told refl).read) refl

-- ---- how it goes on

module _ {s : List ℕ} (admits : Admits s) {count marks at : ℕ}
    (h : Progress s admits.admitted.p admits.admitted.q count marks at) where
  abbrev step : Result Step Refusal
  step = step_of admits.admitted.p admits.admitted.q count marks at (command_of (drop at s))

  pub never-refused : (f : Refusal) → step ≡ Err f → ⊥
  never-refused f e =
      let read = (holds-admitted s admits.told refl).read in
      let both = sym (step-refused h refl e) ∙ read in
      let z : ◌≡◌ {A = ℕ} 0 1 = cc in omega arith

  stands_here : Stands s at step
  stands_here = stands admits.admitted.p admits.admitted.q count marks (seen s at)

  pub next-asks : Asked s at
  next-asks = asked_by stands_here never-refused

  pub next-is : {t : Step} → t ≡ next_of s at → Ok t ≡ step
  next-is e = ap Ok e ∙ next-by stands_here never-refused

-- ---- what it passes

-- the matches of an admitted script begin with those that were passed
pub record Begun (ms all : List Match) : Type 0 where
  pub rest : List Match
  pub is : all ≡ ms ++ rest

from-begun : (bytes p q at : ℕ) (ms : List Match) (ks : List Mark) (s : List ℕ) {ls : List ℕ} {all : List Match}
    {points : List Mark} → read_from bytes p q at ms ks s ≡ admitted ls all points → Begun ms all
unfolding read_from
from-begun zero p q at ms ks s e = let z : ◌≡◌ {A = ℕ} 0 1 = cc in absurd (omega arith)
from-begun (suc bytes) p q at ms ks s {ls} {all} {points} e =
    go (step_of p q (length ms) (length ks) at (command_of s)) e
    (λ width ms' ks'. from-begun bytes p q (at + width) ms' ks' (drop width s))
  where
    onward : ℕ → List Match → List Mark → Reading
    onward width ms' ks' = read_from bytes p q (at + width) ms' ks' (drop width s)

    go : (t : Result Step Refusal) → after_step p q ms ks t onward ≡ admitted ls all points
        → ((width : ℕ) (ms' : List Match) (ks' : List Mark) → onward width ms' ks' ≡ admitted ls all points
        → Begun ms' all)
        → Begun ms all
    go (Err r) e next = let z : ◌≡◌ {A = ℕ} 0 1 = cc in absurd (omega arith)
    go (Ok Step.Finish) e next =
        let same : ms ≡ all = cc in record { rest = []; is = sym same ∙ sym (append-nil ms) }
    go (Ok (Step.Take m)) e next =
        let more = next match_width (ms ++ m ∷ []) ks e in
        record { rest = m ∷ more.rest; is = more.is ∙ append_assoc ms (m ∷ []) more.rest }
    go (Ok (Step.Keep k)) e next = next mark_width ms (ks ++ k ∷ []) e

pub begun : {s : List ℕ} {p q at : ℕ} {ms : List Match} {ks : List Mark} {ls : List ℕ} {all : List Match}
    {points : List Mark} → Reach s p q at ms ks → read_script s ≡ admitted ls all points → Begun ms all
begun {s} {at = at} {ms} {ks} r e = from-begun _ _ _ at ms ks (drop at s) (sym (reach-read r) ∙ e)
