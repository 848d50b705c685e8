-- What a walk over the commands keeps: the commands passed are good, and as many matches and marks as are counted.
--     further             what a step takes leads one good command further
--     opens-script, refuses-script     what the two calls on the first command bring
--     Progress            what holds between two commands
--     progress_start      behind the lengths
--     inside, small       the offset of the next command
--     stepped             the two calls on a command compute the step at its offset
--     step-refused, step-finished, step-taken, step_kept     what this step brings
-- Assumes nothing.
use Prim.Native.Nat.{ℕ, ◌+◌, ◌-◌, ◌≤◌, ◌<◌}
use mathlib.Core.Path.{◌≡◌, refl, sym, ap, subst, ◌∙◌}
use mathlib.Core.List.{List, [], ◌∷◌, ◌++◌}
use native.Mathlib.Omega.{arith}
use lib.ListN.{length, take, drop, length-drop, length-append}
use lib.Seq.{take_all}
use Rattle.std.specs.Prelude.{Result, Ok, Err}
use Rattle.script.specs.Limits.{most_matches, most_marks}
use Rattle.script.specs.Commands.{lengths_width, match_width, mark_width, number_at, command_of}
use Rattle.script.specs.Steps.{opening_of, step_of}
use Rattle.script.specs.Reading.{admitted, refused, read_script}
use Rattle.script.specs.Outcomes.{MatchAt, MarkAt, LengthsAt, Reach, opened, taken, marked}
use Rattle.script.specs.declared.refusal.Refusal.{Refusal}
use Rattle.script.specs.declared.refusal.Refusal.TheVariants.{CutShort, TooManyMatches, TooManyMarks}
use Rattle.script.specs.declared.command.Match.{Match}
use Rattle.script.specs.declared.command.Mark.{Mark}
use Rattle.script.specs.declared.command.Command.{Command}
use Rattle.script.specs.declared.step.Lengths.{Lengths}
use Rattle.script.specs.declared.step.Step.{Step}
use Rattle.script.proofs.Seen.{Seen, seen}
use Rattle.script.proofs.Outcome.{reach-place, reach-inside, reach-ends, opening-at}
use Rattle.script.proofs.Judged.{Weighed, Judged, judged, Measured, Pointed, pointed, Roomy, roomy, Opens, opens}

rest-drop : (s : List ℕ) (at : ℕ) → take (length s - at) (drop at s) ≡ drop at s
rest-drop s at = take_all (length s - at) (drop at s) (omega (arith, length-drop at s))

-- ---- the commands passed

-- what holds of the match or the mark that a step takes, if it takes one
abbrev Next : (Match → Type 0) → (Mark → Type 0) → Result Step Refusal → Type 0
Next P R (Err r) = Unit
Next P R (Ok Step.Finish) = Unit
Next P R (Ok (Step.Take m)) = P m
Next P R (Ok (Step.Keep k)) = R k

-- one good command further
abbrev Further : List ℕ → ℕ → ℕ → ℕ → List Match → List Mark → Result Step Refusal → Type 0
Further s p q at ms ks t =
    Next (λ m. Reach s p q (at + match_width) (ms ++ m ∷ []) ks)
    (λ k. Reach s p q (at + mark_width) ms (ks ++ k ∷ [])) t

match-next : {s : List ℕ} {p q at : ℕ} {ms : List Match} {ks : List Mark} {m : Match} {t : Result Step Refusal}
    → Reach s p q at ms ks → MatchAt s at m → Judged p q (length ms) at m t → Further s p q at ms ks t
match-next r d (Judged.too_many _) = tt
match-next r d (Judged.room _ (Weighed.empty _)) = tt
match-next r d (Judged.room _ (Weighed.beyond_a _ _)) = tt
match-next r d (Judged.room _ (Weighed.beyond_b _ _ _)) = tt
match-next r d (Judged.room room (Weighed.sound w)) = taken r room d w

mark-next : {s : List ℕ} {p q at : ℕ} {ms : List Match} {ks : List Mark} {k : Mark} {t : Result Step Refusal}
    → Reach s p q at ms ks → MarkAt s at k → Pointed p q (length ks) at k t → Further s p q at ms ks t
mark-next r d (Pointed.too_many _) = tt
mark-next r d (Pointed.room _ (Measured.no_side _)) = tt
mark-next r d (Pointed.room _ (Measured.beyond _)) = tt
mark-next r d (Pointed.room room (Measured.sound o)) = marked r room d o

-- a command that is cut short leads nowhere
short-next : {s : List ℕ} {p q at most count : ℕ} {full : Refusal} {ms : List Match} {ks : List Mark}
    {t : Result Step Refusal} → Reach s p q at ms ks → Roomy most count full (Err (CutShort at)) t → Further s p q at ms ks t
short-next r (Roomy.too_many _) = tt
short-next r (Roomy.room _) = tt

step-next : {s : List ℕ} {p q at : ℕ} {ms : List Match} {ks : List Mark} {c : Command} → Reach s p q at ms ks
    → Seen s at c → Further s p q at ms ks (step_of p q (length ms) (length ks) at c)
step-next r (Seen.missing _) = tt
step-next r (Seen.unknown _ _ _ _ _ _) = tt
step-next r (Seen.lengths _ _) = tt
step-next r (Seen.lengths_short _ _) = tt
step-next {p} {q} {at} {ms} r (Seen.pairing {m} d) = match-next r d (judged p q (length ms) at m)
step-next {at} {ms} r (Seen.pairing_short _ _) =
    short-next r (roomy most_matches (length ms) (TooManyMatches at) (Err (CutShort at)))
step-next {p} {q} {at} {ks = ks} r (Seen.marking {k} d) = mark-next r d (pointed p q (length ks) at k)
step-next {at} {ks = ks} r (Seen.marking_short _ _) =
    short-next r (roomy most_marks (length ks) (TooManyMarks at) (Err (CutShort at)))
step-next r (Seen.end _ _) = tt
step-next r (Seen.end_then_more _ _) = tt

pub further : {s : List ℕ} {p q at : ℕ} {ms : List Match} {ks : List Mark} {t : Result Step Refusal}
    → Reach s p q at ms ks → step_of p q (length ms) (length ks) at (command_of (drop at s)) ≡ t → Further s p q at ms ks t
further {s} {p} {q} {at} {ms} {ks} r e = subst (Further s p q at ms ks) e (step-next r (seen s at))

-- ---- the first command

-- what holds of the lengths that open a script, if they do
abbrev Begins : (ℕ → ℕ → Type 0) → Result Lengths Refusal → Type 0
Begins P (Err r) = Unit
Begins P (Ok l) = P l.p l.q

lengths-begin : {s : List ℕ} {p q : ℕ} {o : Result Lengths Refusal} → LengthsAt s p q → Opens p q o
    → Begins (λ p q. Reach s p q lengths_width [] []) o
lengths-begin l (Opens.open_them a b) = opened l a b
lengths-begin l (Opens.out_of_range _) = tt

opening-begins : {s : List ℕ} {c : Command} → Seen s 0 c
    → Begins (λ p q. Reach s p q lengths_width [] []) (opening_of c)
opening-begins (Seen.missing _) = tt
opening-begins (Seen.unknown _ _ _ _ _ _) = tt
opening-begins {s} (Seen.lengths b w) =
    lengths-begin (record { code = b; whole = w; first = refl; second = refl }) (opens (number_at s 1) (number_at s 5))
opening-begins (Seen.lengths_short _ _) = tt
opening-begins (Seen.pairing _) = tt
opening-begins (Seen.pairing_short _ _) = tt
opening-begins (Seen.marking _) = tt
opening-begins (Seen.marking_short _ _) = tt
opening-begins (Seen.end _ _) = tt
opening-begins (Seen.end_then_more _ _) = tt

opening-reach : {s : List ℕ} {l : Lengths} → opening_of (command_of s) ≡ Ok l → Reach s l.p l.q lengths_width [] []
opening-reach {s} e = subst (Begins (λ p q. Reach s p q lengths_width [] [])) e (opening-begins (seen s 0))

-- the two calls on the first command compute what it opens, and refuse what it refuses
module _ (s : List ℕ) {c : Command} {o : Result Lengths Refusal} (ec : c ≡ command_of s) (eo : o ≡ opening_of c) where
  opening-is : {o' : Result Lengths Refusal} → o ≡ o' → opening_of (command_of s) ≡ o'
  opening-is e = rw (← ec) (sym eo ∙ e)

  pub opens-script : {l : Lengths} → o ≡ Ok l → Reach s l.p l.q 9 [] []
  opens-script e = opening-reach (opening-is e)

  pub refuses-script : {f : Refusal} → o ≡ Err f → read_script s ≡ refused f
  refuses-script e = opening-at s (seen s 0) (opening-is e)

-- ---- between two commands

pub stepped : (s : List ℕ) (p q count marks at : ℕ) {c : Command} {t : Result Step Refusal}
    → c ≡ command_of (take (length s - at) (drop at s)) → t ≡ step_of p q count marks at c
    → t ≡ step_of p q count marks at (command_of (drop at s))
stepped s p q count marks at ec et =
    et ∙ ap (step_of p q count marks at) (ec ∙ ap command_of (rest-drop s at))

pub record Progress (s : List ℕ) (p q count marks at : ℕ) : Type 0 where
  pub matches : List Match
  pub points : List Mark
  pub reach : Reach s p q at matches points
  pub counted : length matches ≡ count
  pub counted_marks : length points ≡ marks

abbrev pub progress_start : {s : List ℕ} {p q : ℕ} → Reach s p q lengths_width [] [] → Progress s p q 0 0 lengths_width
progress_start r = record { matches = []; points = []; reach = r; counted = refl; counted_marks = refl }

module _ {s : List ℕ} {p q count marks at : ℕ} (h : Progress s p q count marks at) where
  pub inside : at ≤ length s
  inside = reach-inside h.reach

  pub small : (count ≤ most_matches) × ((marks ≤ most_marks) × (at < 4294967296))
  small =
      let place = reach-place h.reach in
      let n = h.counted in
      let k = h.counted_marks in
      omega (arith, place)

  -- from what the call on the command ensures
  module _ {t : Result Step Refusal} (et : t ≡ step_of p q count marks at (command_of (drop at s))) where
    -- it computes the step at the offset
    pub comes : {t' : Result Step Refusal} → t ≡ t'
        → step_of p q (length h.matches) (length h.points) at (command_of (drop at s)) ≡ t'
    comes e = rw (h.counted, h.counted_marks) (sym et ∙ e)

    pub step-refused : {f : Refusal} → t ≡ Err f → read_script s ≡ refused f
    step-refused e = reach-ends h.reach (seen s at) (comes e)

    pub step-finished : t ≡ Ok Step.Finish → read_script s ≡ admitted (p ∷ q ∷ []) h.matches h.points
    step-finished e = reach-ends h.reach (seen s at) (comes e)

    unfoldable pub step-taken : {m : Match} → t ≡ Ok (Step.Take m) → Progress s p q (count + 1) marks (at + match_width)
    step-taken {m} e =
        record {
          matches = h.matches ++ m ∷ [];
          points = h.points;
          reach = further h.reach (comes e);
          counted = length-append h.matches (m ∷ []) ∙ ap (λ (n : ℕ). n + 1) h.counted;
          counted_marks = h.counted_marks;
        }

    unfoldable pub step_kept : {k : Mark} → t ≡ Ok (Step.Keep k) → Progress s p q count (marks + 1) (at + mark_width)
    step_kept {k} e =
        record {
          matches = h.matches;
          points = h.points ++ k ∷ [];
          reach = further h.reach (comes e);
          counted = h.counted;
          counted_marks = length-append h.points (k ∷ []) ∙ ap (λ (n : ℕ). n + 1) h.counted_marks;
        }
