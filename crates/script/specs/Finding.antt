-- One match of a script, by its number. TO READ: contracts mean what stands here.
--     finding_of r number     the match, or the refusal: the script's own, or "no such match"
-- 01, "The script"; SCOPE, "Numbering": from 1, in the order of the script. Assumes nothing.
use Rattle.std.specs.Prelude.{ℕ, zero, suc, List, [], ◌∷◌, Result, Ok, Err}
use Rattle.script.specs.Reading.{Reading, admitted, refused}
use Rattle.script.specs.declared.refusal.Refusal.{Refusal}
use Rattle.script.specs.declared.refusal.Refusal.TheVariants.{NoSuchMatch}
use Rattle.script.specs.declared.command.Match.{Match}

abbrev pub found_in : List Match → ℕ → Result Match Refusal
found_in [] number = Err NoSuchMatch
found_in (m ∷ ms) zero = Err NoSuchMatch
found_in (m ∷ ms) (suc zero) = Ok m
found_in (m ∷ ms) (suc (suc number)) = found_in ms (suc number)

abbrev pub finding_of : Reading → ℕ → Result Match Refusal
finding_of (refused r) number = Err r
finding_of (admitted ls ms ks) number = found_in ms number
