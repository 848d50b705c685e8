-- What it is to put bytes into a text. TO READ: contracts mean what stands here.
--     Put bytes before at after next     the bytes stand from the place `at` on, as far as the text reaches
-- Assumes nothing.
use Rattle.std.specs.Prelude.{ℕ, ◌+◌, ◌≡◌, List, length}
use Rattle.std.proofs.lemmas.List.Edits.{sets}

-- before, after: the whole text, then and now; `sets` passes over what lies past its end
pub record Put (bytes before : List ℕ) (at : ℕ) (after : List ℕ) (next : ℕ) : Type 0 where
  -- the place behind the bytes, whether or not the text reaches there
  pub place : next ≡ at + length bytes
  pub stored : after ≡ sets before at bytes
