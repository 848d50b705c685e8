-- What the walk to the match of a number keeps, and what is found.
--     Seeking       good commands alone were passed, and fewer matches than the number
--     seeking-start, seeking-taken, seeking-kept     at the start, and behind one more match or mark
--     sought        the match with which there are as many is the match of the number
--     not-ended     the script does not end before it
--     zero-finding, above-finding, found-finding     by the number: 0, above the count, or one of a match
--     placed-inside, placed-match     without a mark it stands at a fixed offset
-- Assumes nothing.
use Prim.Native.Nat.{ℕ, suc, ◌+◌, ◌*◌, ◌-◌, ◌≤◌, ◌<◌}
use mathlib.Core.Path.{◌≡◌, refl, sym, ap, ◌∙◌}
use mathlib.Core.Logic.{◌≢◌}
use mathlib.Core.List.{List, [], ◌∷◌, ◌++◌, append_assoc}
use native.Mathlib.Omega.{arith}
use lib.ListN.{length, get_or, drop}
use lib.Seq.{get_or_at}
use Rattle.script.specs.Commands.{lengths_width, match_width, mark_width, command_of}
use Rattle.script.specs.Steps.{step_of}
use Rattle.script.specs.Outcomes.{MatchAt}
use Rattle.script.specs.Reading.{read_script, verdict_of}
use Rattle.script.specs.Columns.{matches_read}
use Rattle.script.specs.Finding.{found_in, finding_of}
use Rattle.std.specs.Prelude.{Ok, Err}
use Rattle.script.specs.declared.command.Match.{Match}
use Rattle.script.specs.declared.command.Mark.{Mark}
use Rattle.script.specs.declared.step.Step.{Step}
use Rattle.script.specs.declared.refusal.Refusal.TheVariants.{NoSuchMatch}
use Rattle.script.specs.declared.Admitted.{Admitted}
use Rattle.script.proofs.Holding.{Holds, holds-admitted}
use Rattle.script.proofs.Found.{found-zero, found-above, found_at}
use Rattle.script.proofs.Places.{match-placed}
use Rattle.reader.specs.Walking.{Admits, match_seen, next_of, no_match, numbered_match}
use Rattle.reader.proofs.Progress.{Progress, progress_start, step-finished, step-taken, step_kept}
use Rattle.reader.proofs.Walks.{match-seen, admits-reach, next-is, begun}

-- ---- the walk

pub record Seeking (s : List ℕ) (number count at : ℕ) : Type 0 where
  pub admits : Admits s
  pub marks : ℕ
  pub progress : Progress s admits.admitted.p admits.admitted.q count marks at
  pub short : count < number

module _ {s : List ℕ} {number : ℕ} where
  pub seeking-start : Admits s → 0 < number → Seeking s number 0 lengths_width
  seeking-start admits some =
      record { admits = admits; marks = 0; progress = progress_start (admits-reach admits); short = some }

  module _ {count at : ℕ} (h : Seeking s number count at) {t : Step} (en : t ≡ next_of s at) where
    -- the byte tells the step
    et : Ok t ≡ step_of h.admits.admitted.p h.admits.admitted.q count h.marks at (command_of (drop at s))
    et = next-is h.admits h.progress en

    -- the match that is taken has the number
    pub sought : {m : Match} → t ≡ Step.Take m → count + 1 ≡ number → m ≡ numbered_match s number
    unfolding step-taken
    sought {m} e is =
        let next = step-taken h.progress et (ap Ok e) in
        let more = begun next.reach (holds-admitted s h.admits.told refl).read in
        let place : length h.progress.matches ≡ number - 1 = omega (arith, h.progress.counted) in
        let whole : matches_read (read_script s) ≡ h.progress.matches ++ m ∷ more.rest =
        rw ((holds-admitted s h.admits.told refl).read)
        (more.is ∙ append_assoc h.progress.matches (m ∷ []) more.rest) in
        rw whole (sym (get_or_at h.progress.matches m more.rest no_match (number - 1) place))

    -- or another
    pub seeking-taken : {m : Match} → t ≡ Step.Take m → count + 1 ≢ number
        → Seeking s number (count + 1) (at + match_width)
    seeking-taken e other =
        let short = h.short in
        record {
          admits = h.admits;
          marks = h.marks;
          progress = step-taken h.progress et (ap Ok e);
          short = omega (arith, other);
        }

    pub seeking-kept : {k : Mark} → t ≡ Step.Keep k → Seeking s number count (at + mark_width)
    seeking-kept e =
        record {
          admits = h.admits;
          marks = h.marks + 1;
          progress = step_kept h.progress et (ap Ok e);
          short = h.short;
        }

    -- a script with as many matches does not end before
    pub not-ended : t ≡ Step.Finish → number ≤ length (matches_read (read_script s)) → ⊥
    not-ended e few =
        let read = step-finished h.progress et (ap Ok e) in
        let held : number ≤ length h.progress.matches = rw read at few in
        omega (arith, h.progress.counted, h.short)

-- ---- what is found

module _ (s : List ℕ) {a : Admitted} (told : Ok a ≡ verdict_of (read_script s)) where
  held : Holds s a.p a.q a.count a.marks
  held = holds-admitted s told refl

  pub here : Admits s
  here = record { admitted = a; told = told }

  pub matches-all : (number : ℕ) → number ≤ a.count → number ≤ length (matches_read (read_script s))
  matches-all number h = rw held.read (omega (arith, held.counted))

  module _ (number : ℕ) where
    pub zero-finding : number ≡ 0 → Err NoSuchMatch ≡ finding_of (read_script s) number
    zero-finding z = rw (held.read, z) (sym (found-zero held.matches))

    pub above-finding : a.count < number → Err NoSuchMatch ≡ finding_of (read_script s) number
    above-finding h =
        rw held.read (sym (found-above held.matches number (omega (arith, held.counted))))

    pub found-finding : {m : Match} → number ≢ 0 → number ≤ a.count → m ≡ numbered_match s number
        → Ok m ≡ finding_of (read_script s) number
    found-finding some few is =
        let ms = held.matches in
        let index : ℕ = number - 1 in
        let one_more : number ≡ suc index = omega (arith, some) in
        let same : numbered_match s number ≡ get_or ms index no_match = rw held.read in
        rw held.read
        (ap Ok (is ∙ same) ∙ sym (found_at ms index no_match (omega (arith, some, held.counted)))
        ∙ ap (found_in ms) (sym one_more))

    -- the command of a script without marks
    placed : a.marks ≡ 0 → number ≢ 0 → number ≤ a.count
        → MatchAt s (lengths_width + match_width * (number - 1)) (get_or held.matches (number - 1) no_match)
    placed none some few =
        match-placed s held.read (held.counted_marks ∙ none) (number - 1) (omega (arith, some, held.counted))
        no_match

    pub placed-inside : a.marks ≡ 0 → number ≢ 0 → number ≤ a.count
        → lengths_width + match_width * (number - 1) + match_width ≤ length s
    placed-inside none some few = (placed none some few).whole

    pub placed-match : {m : Match} → a.marks ≡ 0 → number ≢ 0 → number ≤ a.count
        → m ≡ match_seen s (lengths_width + match_width * (number - 1)) → m ≡ numbered_match s number
    placed-match none some few is =
        let same : numbered_match s number ≡ get_or held.matches (number - 1) no_match = rw held.read in
        is ∙ match-seen (placed none some few) ∙ sym same
