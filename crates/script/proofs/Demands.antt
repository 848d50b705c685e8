-- The reader and the finder as `verdict_of` and `finding_of` define them meet their demands: of the outcomes exactly one
-- applies, and it is the reply.
--     reading-demand, reading-contract     of any reply that equals `verdict_of`; with the equation before it
--     finding-demand, finding-contract     likewise of `finding_of`
-- Assumes nothing.
use Prim.Native.Nat.{ℕ}
use mathlib.Core.Path.{◌≡◌, refl, ap, subst, ◌∙◌}
use mathlib.Core.Logic.{inl, inr}
use mathlib.Core.List.{List}
use native.Mathlib.Numerals.{add-one}
use Rattle.std.specs.Prelude.{Result}
use Rattle.script.specs.Reading.{Reading, admitted, refused, read_script, verdict_of}
use Rattle.script.specs.Answers.{Answer, value, contents}
use Rattle.script.specs.Outcomes.{Outcome}
use Rattle.script.specs.Finding.{finding_of}
use Rattle.script.specs.Demands.{Counted, verdict_answer, ReadingOutcome, ReadingDemand}
use Rattle.script.specs.Demands.{finding_answer, FindingOutcome, FindingDemand}
use Rattle.script.specs.declared.refusal.Refusal.{Refusal}
use Rattle.script.specs.declared.command.Match.{Match}
use Rattle.script.specs.declared.command.Mark.{Mark}
use Rattle.script.specs.declared.Admitted.{Admitted}
use Rattle.script.proofs.Outcome.{read-outcome, outcome-admitted, outcome-refused}
use Rattle.script.proofs.Holding.{admitted-ended}
use Rattle.script.proofs.Found.{Numbered, none, behind, numbered, found-zero, found-above, found-behind}

-- ---- reading

module _ (s : List ℕ) where
  reading-alone : {a : Answer Counted} → ReadingOutcome s a → a ≡ verdict_answer (verdict_of (read_script s))
  reading-alone (ReadingOutcome.script_refused o) = let f = outcome-refused o in rw f.read (cc)
  reading-alone (ReadingOutcome.script_admitted o) = rw (outcome-admitted o)

  reading-stated : ReadingOutcome s (verdict_answer (verdict_of (read_script s)))
  reading-stated = by-reading (read_script s) refl
    where
      by-reading : (x : Reading) → read_script s ≡ x → ReadingOutcome s (verdict_answer (verdict_of x))
      by-reading (refused f) e = ReadingOutcome.script_refused (read-outcome e)
      by-reading (admitted ls ms ks) e =
          let lengths = (admitted-ended e).lengths in
          rw lengths (ReadingOutcome.script_admitted (read-outcome (e ∙ ap (λ l. admitted l ms ks) lengths)))

  module _ {v : Result Admitted Refusal} (is : v ≡ verdict_of (read_script s)) where
    pub reading-demand : ReadingDemand s (verdict_answer v)
    reading-demand = rw is (record { stated = reading-stated; alone = λ _ o. reading-alone o })

    pub reading-contract : (v ≡ verdict_of (read_script s)) × ReadingDemand s (verdict_answer v)
    reading-contract = (is, reading-demand)

-- ---- finding

module _ (s : List ℕ) (number : ℕ) where
  outcome-finding : {a : Answer Match} → FindingOutcome s number a → a ≡ finding_answer (finding_of (read_script s) number)
  outcome-finding (FindingOutcome.script_refused o) = let f = outcome-refused o in rw f.read (cc)
  outcome-finding (FindingOutcome.no_such_match {ms = ms} o (inl e)) = rw (outcome-admitted o, e, found-zero ms)
  outcome-finding (FindingOutcome.no_such_match {ms = ms} o (inr h)) = rw (outcome-admitted o, found-above ms number h)
  outcome-finding (FindingOutcome.found before after {m = m} o e) =
      rw (outcome-admitted o, e, add-one, found-behind before after m)

  finding-stated : FindingOutcome s number (finding_answer (finding_of (read_script s) number))
  finding-stated = by-reading (read_script s) refl
    where
      by_number : {ls : List ℕ} {ms : List Match} {ks : List Mark} {f : Result Match Refusal}
          → Outcome s (value (contents ls ms ks)) → Numbered ms number f → FindingOutcome s number (finding_answer f)
      by_number o (none h) = FindingOutcome.no_such_match o h
      by_number {ls} {ks = ks} o (behind before after e n) =
          FindingOutcome.found before after (subst (λ (l : List Match). Outcome s (value (contents ls l ks))) e o) n

      by-reading : (x : Reading) → read_script s ≡ x → FindingOutcome s number (finding_answer (finding_of x number))
      by-reading (refused f) e = FindingOutcome.script_refused (read-outcome e)
      by-reading (admitted ls ms ks) e = by_number (read-outcome e) (numbered ms number)

  module _ {f : Result Match Refusal} (is : f ≡ finding_of (read_script s) number) where
    pub finding-demand : FindingDemand s number (finding_answer f)
    finding-demand = rw is (record { stated = finding-stated; alone = λ _ o. outcome-finding o })

    pub finding-contract : (f ≡ finding_of (read_script s) number) × FindingDemand s number (finding_answer f)
    finding-contract = (is, finding-demand)
