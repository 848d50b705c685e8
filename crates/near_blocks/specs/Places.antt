-- Places of an index that are passed over.
--     Short xs at end x k r       of the numbers from place `at` on, none from number k up to r is x or more
--     TooLate xs n x j            from some place on, at j or before it, every match begins behind x
--     PassedPlaces xs n x k r     no match from place k of the order up to r spans x
-- Assumes nothing.
use Rattle.std.specs.Prelude.{ℕ, ◌+◌, ◌≤◌, ◌<◌, List, ◌⊎◌, get_or}
use Rattle.arrangement.specs.Index.{starts_at, ends_at}

pub record Short (xs : List ℕ) (at end x k r : ℕ) : Type 0 where
  pub from : k ≤ r
  pub to : r ≤ end
  pub past : (j : ℕ) → k ≤ j → j < r → get_or xs (at + j) 0 < x

pub record TooLate (xs : List ℕ) (n x j : ℕ) : Type 0 where
  pub place : ℕ
  pub before : place ≤ j
  pub behind : x < get_or xs (starts_at n + place) 0

-- each of them ends too early or begins too late
pub record PassedPlaces (xs : List ℕ) (n x k r : ℕ) : Type 0 where
  pub from : k ≤ r
  pub to : r ≤ n
  pub past : (j : ℕ) → k ≤ j → j < r → (get_or xs (ends_at n + j) 0 < x) ⊎ TooLate xs n x j
