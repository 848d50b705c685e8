-- What storing values from a place on leaves in a buffer; for functions that no user calls.
--     Stored out at vs out'     out' is out with vs stored in it from the place at on
-- Assumes nothing.
use Rattle.std.specs.Prelude.{ℕ, ◌≡◌, List, length}
use Rattle.std.proofs.lemmas.List.Edits.{sets}

pub record Stored (out : List ℕ) (at : ℕ) (vs out' : List ℕ) : Type 0 where
  pub is : out' ≡ sets out at vs
  pub as_long : length out' ≡ length out
