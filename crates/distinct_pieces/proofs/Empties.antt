-- Slots that nothing is stored in.
--     empty-zeros     slots of zeros are empty
-- Assumes nothing.
use Rattle.std.proofs.Common.{ℕ, replicate, arith}
use native.Mathlib.Decide.{dec_lt}
use lib.ListN.{length-replicate, get_or-replicate, get_or-eq_default}
use Rattle.distinct_store.specs.Store.{Empty}

pub empty-zeros : (n : ℕ) → Empty (replicate n 0)
empty-zeros n =
    record {
      empty = λ j.
          elim (dec_lt j n) [
            | yes below ↦ get_or-replicate {A = ℕ} n j 0 0 below
            | no above ↦
                get_or-eq_default (replicate n 0) 0 (omega (arith, length-replicate {A = ℕ} n 0))
          ];
    }
