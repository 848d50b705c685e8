-- The match of a number, in the list of matches.
--     Numbered, numbered                    what is found under a number, as 01 counts; one of two cases applies
--     found-zero, found-above               number 0 and numbers above the count have none
--     found-behind                          the match behind n others has the number n + 1
--     found_at                              any other number has the match at one less
-- Assumes nothing.
use Prim.Native.Nat.{ℕ, zero, suc, ◌+◌, ◌<◌}
use mathlib.Core.Path.{◌≡◌, refl, ap}
use mathlib.Core.Logic.{◌⊎◌, inl, inr}
use mathlib.Core.List.{List, [], ◌∷◌, ◌++◌}
use native.Mathlib.Omega.{arith}
use lib.ListN.{length, get_or}
use Rattle.std.specs.Prelude.{Result, Ok, Err}
use Rattle.script.specs.Finding.{found_in}
use Rattle.script.specs.declared.refusal.Refusal.{Refusal}
use Rattle.script.specs.declared.refusal.Refusal.TheVariants.{NoSuchMatch}
use Rattle.script.specs.declared.command.Match.{Match}

-- the finding is the match behind one less than the number, or there is none
pub data Numbered (ms : List Match) (number : ℕ) : Result Match Refusal → Type 0 where
  none : (number ≡ 0) ⊎ (length ms < number) → Numbered ms number (Err NoSuchMatch)
  behind :
      (before after : List Match) {m : Match} → ms ≡ before ++ m ∷ after → number ≡ length before + 1
      → Numbered ms number (Ok m)

numbered-later : {ms : List Match} {number : ℕ} {f : Result Match Refusal} (m : Match) → Numbered ms (suc number) f
    → Numbered (m ∷ ms) (suc (suc number)) f
numbered-later m (none (inl e)) = absurd (omega arith)
numbered-later m (none (inr h)) = none (inr (omega arith))
numbered-later m (behind before after e n) = behind (m ∷ before) after (ap (λ (l : List Match). m ∷ l) e) (omega arith)

pub numbered : (ms : List Match) (number : ℕ) → Numbered ms number (found_in ms number)
numbered [] zero = none (inl refl)
numbered [] (suc number) = none (inr (omega arith))
numbered (m ∷ ms) zero = none (inl refl)
numbered (m ∷ ms) (suc zero) = behind [] ms refl refl
numbered (m ∷ ms) (suc (suc number)) = numbered-later m (numbered ms (suc number))

pub found-behind : (before after : List Match) (m : Match)
    → found_in (before ++ m ∷ after) (suc (length before)) ≡ Ok m
found-behind [] after m = refl
found-behind (x ∷ before) after m = found-behind before after m

pub found-zero : (ms : List Match) → found_in ms 0 ≡ Err NoSuchMatch
found-zero [] = refl
found-zero (m ∷ ms) = refl

pub found-above : (ms : List Match) (number : ℕ) → length ms < number → found_in ms number ≡ Err NoSuchMatch
found-above [] number h = refl
found-above (m ∷ ms) zero h = absurd (omega arith)
found-above (m ∷ ms) (suc zero) h = absurd (omega arith)
found-above (m ∷ ms) (suc (suc number)) h = found-above ms (suc number) (omega arith)

pub found_at : (ms : List Match) (index : ℕ) (blank : Match) → index < length ms
    → found_in ms (suc index) ≡ Ok (get_or ms index blank)
found_at [] index blank h = absurd (omega arith)
found_at (m ∷ ms) zero blank h = refl
found_at (m ∷ ms) (suc index) blank h = found_at ms index blank (omega arith)
