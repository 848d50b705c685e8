-- What carrying a list of positions together does, on every script, number, side, list and lent buffer. TO READ:
-- contracts mean what stands here.
--     every test xs          whether each number passes the test
--     CarryingAll            the reply, and what the lent buffer holds after the call
--     carrying_all_of ..       both, by what the script, the list and the buffer are before it
-- 02, #107; SCOPE, "Carrying together" and "Order of carrying together". Assumes nothing.
use Rattle.std.specs.Prelude.{ℕ, Bool, true, cond, ◌&&◌, List, [], ◌∷◌, map, length, eqb}
use Rattle.std.specs.Prelude.{Result, Ok, Err}
use Rattle.script.specs.Reading.{read_script}
use Rattle.script.specs.Finding.{finding_of}
use Rattle.script.specs.declared.command.Match.{Match as ScriptMatch}
use Rattle.script.specs.declared.refusal.Refusal.{Refusal}
use Rattle.script.specs.declared.refusal.Refusal.TheVariants.{OffTheMatch, CountsDiffer}
use Rattle.refinement.specs.declared.Side.{Side}
use Rattle.refinement.specs.Match.{Match, left, spanned, carry}
use Rattle.refining.specs.Refining.{with_number}

-- an empty list passes
abbrev pub every : (ℕ → Bool) → List ℕ → Bool
every test [] = true
every test (x ∷ xs) = test x && every test xs

pub record CarryingAll : Type 0 where
  pub reply : Result (Unit {0}) Refusal
  pub carried : List ℕ

-- SCOPE, "Kept when refused": "writes none of it"
abbrev pub kept_by : Refusal → List ℕ → CarryingAll
kept_by r lent = record { reply = Err r; carried = lent }

-- SCOPE, "Carrying together": "each as the single call would"
abbrev pub carried_by : Match → Side → List ℕ → CarryingAll
carried_by m side positions = record { reply = Ok tt; carried = map (carry m side) positions }

-- SCOPE, "Order of carrying together": over one match 22, then 14
abbrev pub carrying_all_over : Match → Side → List ℕ → List ℕ → CarryingAll
carrying_all_over m side positions lent =
    cond (eqb (length positions) (length lent))
    (cond (every (spanned (left m side) m.length) positions) (carried_by m side positions) (kept_by OffTheMatch lent))
    (kept_by CountsDiffer lent)

-- the script's refusals and 13 come before: they are the finding's
abbrev pub carrying_all_of_finding : Result ScriptMatch Refusal → ℕ → Side → List ℕ → List ℕ → CarryingAll
carrying_all_of_finding (Err r) number side positions lent = kept_by r lent
carrying_all_of_finding (Ok m) number side positions lent =
    carrying_all_over (with_number number m) side positions lent

unfoldable pub carrying_all_of : List ℕ → ℕ → Side → List ℕ → List ℕ → CarryingAll
carrying_all_of script number side positions lent =
    carrying_all_of_finding (finding_of (read_script script) number) number side positions lent
