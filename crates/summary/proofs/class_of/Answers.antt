-- `class_of` meets its contract: the power of two below a length tells its class. Assumes nothing.
use Rattle.std.proofs.Common.{◌≡◌, ℕ, ◌^◌, ◌+◌, ◌≤◌, ◌<◌, false, eqb, ltb, arith, lt-ltb, le-ltb, ne_eqb, ◌∙◌}
use Rattle.std.specs.Prelude.{MatchOption}
use Rattle.std.specs.Bool.{then_some}
use Rattle.std.proofs.Math.Nat.{pow-suc}
use native.Mathlib.Numerals.{add-one}
use native.Mathlib.Decide.{dec_lt}
use Rattle.table.specs.Summing.{class_count, length_in_class}
use Rattle.table.proofs.Sums.{class-only, class-of-none}
use Rattle.summary.proofs.class_of.Goals as goal

classed : (letters j : ℕ) → 2 ^ j ≤ letters → letters < 2 ^ (j + 1)
    → MatchOption (then_some (ltb j class_count) j)
    ((c : ℕ) → c < class_count → length_in_class c letters ≡ false)
    (λ i. (i < class_count) × ((c : ℕ) → c < class_count → length_in_class c letters ≡ eqb c i))
classed letters j low high =
    elim (dec_lt j class_count) [
      | yes l ↦ rw (lt-ltb j class_count l) (l, λ c h. class-only letters j low high c)
      | no a ↦
          rw (le-ltb j class_count (omega arith))
          (λ c h. class-only letters j low high c ∙ ne_eqb c j (λ e. omega arith))
    ]

pub returns-then-length-eq0 : goal.returns-then-length-eq0
returns-then-length-eq0 c = rw c.if-length-eq0.true (λ d h. class-of-none d)

pub returns : goal.returns
returns c =
    let told = c.ilog2-class.ensures in
    let high : c.args.length < 2 ^ (c.ilog2-class.result + 1) = rw (add-one, pow-suc) (omega (arith, told.next_power_gt)) in
    rw c.then_some.ensures (classed c.args.length c.ilog2-class.result told.power_le high)
