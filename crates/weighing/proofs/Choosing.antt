-- Which of two rows `better_of` is, by facts.
--     against                         the score of a row, with the price of the letters left of the other one
--     first-none, second_none         where there is but one row
--     second-better, first-better     the row that has more
--     first-lower, second-lower       of equal ones the row of the lower number
-- Assumes nothing.
use Prim.Native.Nat.{ℕ, ◌+◌, ◌≤◌, ◌<◌}
use mathlib.Core.Path.{◌≡◌, ◌∙◌}
use mathlib.Core.Logic.{dite}
use mathlib.Core.Bool.{cond}
use mathlib.Core.List.{List}
use native.Mathlib.Decide.{dec_lt}
use native.Mathlib.Omega.{arith}
use lib.Dec.{ltb}
use borrow.Author.Tests.{lt-ltb, le-ltb, eq-eqb, ne_eqb}
use Rattle.rows.specs.declared.Row.{Row}
use Rattle.weighing.specs.Weighing.{score_at, far_at, better_of}

-- what stands on either side of a comparison of two rows
abbrev pub against : ℕ → List Row → List ℕ → ℕ → ℕ → ℕ
against price rs scores j k = score_at scores j + far_at price rs k

module _ (price : ℕ) (rs : List Row) (scores : List ℕ) (j k : ℕ) where
  pub first-none : j ≡ 0 → k ≡ better_of price rs scores j k
  unfolding better_of
  first-none e = rw (eq-eqb j 0 e)

  pub second_none : 1 ≤ j → k ≡ 0 → j ≡ better_of price rs scores j k
  unfolding better_of
  second_none some e = rw (ne_eqb j 0 (λ z. omega arith), eq-eqb k 0 e)

  module _ (some-j : 1 ≤ j) (some-k : 1 ≤ k) where
    abbrev first : ℕ
    first = against price rs scores j k

    abbrev second : ℕ
    second = against price rs scores k j

    -- the tests that are left
    tests :
        better_of price rs scores j k
        ≡ cond (ltb first second) k (cond (ltb second first) j (cond (ltb j k) j k))
    unfolding better_of
    tests = rw (ne_eqb j 0 (λ z. omega arith), ne_eqb k 0 (λ z. omega arith))

    pub second-better : first < second → k ≡ better_of price rs scores j k
    second-better l = rw (tests, lt-ltb first second l)

    pub first-better : second < first → j ≡ better_of price rs scores j k
    first-better l = rw (tests, le-ltb first second (omega arith), lt-ltb second first l)

    -- equal ones
    numbers : first ≡ second → better_of price rs scores j k ≡ cond (ltb j k) j k
    numbers e = rw (tests, le-ltb first second (omega arith), le-ltb second first (omega arith))

    pub second-lower : first ≡ second → k ≤ j → k ≡ better_of price rs scores j k
    second-lower e l = rw (numbers e, le-ltb j k l)

    pub first-lower : first ≡ second → j ≤ k → j ≡ better_of price rs scores j k
    first-lower e l =
        dite (dec_lt j k) (λ h. rw (numbers e, lt-ltb j k h))
        (λ h. let same : j ≡ k = omega arith in same ∙ second-lower e (omega arith))
