-- What writing into the book does, step by step. No contract of the crates above cites this file.
--     FourPut             four numbers written at places that follow one another
-- Assumes nothing.
use Rattle.std.specs.Prelude.{ℕ, ◌+◌, ◌≤◌, ◌<◌, ◌≡◌, List, ◌⊎◌, get_or}

-- the places from at on are a, b, c and d now, and the others are as they were
pub record FourPut (xs : List ℕ) (at a b c d : ℕ) (ys : List ℕ) : Type 0 where
  pub first : get_or ys at 0 ≡ a
  pub second : get_or ys (at + 1) 0 ≡ b
  pub third : get_or ys (at + 2) 0 ≡ c
  pub fourth : get_or ys (at + 3) 0 ≡ d
  pub others : (k : ℕ) → (k < at) ⊎ (at + 4 ≤ k) → get_or ys k 0 ≡ get_or xs k 0
