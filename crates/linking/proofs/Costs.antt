-- What a link costs, and what the link is by that.
--     made_none, made-lost, made-gained
--                      the link of a row that no other may follow, that gains nothing, and that gains
-- Assumes nothing.
use Prim.Native.Nat.{ℕ, ◌+◌, ◌-◌, ◌*◌, ◌^◌, ◌≤◌, ◌<◌}
use mathlib.Core.Path.{◌≡◌, refl}
use mathlib.Core.List.{List}
use native.Mathlib.Nat.{mul-le-mul}
use native.Mathlib.Omega.{arith}
use Rattle.rows.specs.declared.Row.{Row}
use Rattle.refinement.specs.declared.Side.TheVariants.{A, B}
use Rattle.table.specs.Covering.{left_of}
use Rattle.backbone.specs.Chains.{row_numbered, skipped}
use Rattle.weighing.specs.Weighing.{score_at}
use Rattle.linking.specs.Linking.{cost_of, Extended}
use Rattle.linking.specs.declared.Link.{Link}

module _ (rs : List Row) (scores : List ℕ) (price k j : ℕ) {row : Row} (read : row ≡ row_numbered rs k) where
  -- the row's letters
  long : row.length ≡ (row_numbered rs k).length
  long = rw read

  pub made_none : j ≡ 0 → Extended rs scores price k j (record { next = 0; score = row.length })
  made_none none = Extended.none none refl long

  module _ {other : Row} {cost : ℕ} (read-other : other ≡ row_numbered rs j) (costs : cost ≡ price * skipped row other)
      (some : 1 ≤ j) where
    -- the link's price
    priced : cost ≡ cost_of price rs k j
    priced = rw (read, read-other) at costs

    pub made-lost : score_at scores j ≤ cost → Extended rs scores price k j (record { next = 0; score = row.length })
    made-lost low = Extended.lost some (omega (arith, priced)) refl long

    pub made-gained : cost < score_at scores j
        → Extended rs scores price k j (record { next = j; score = row.length + (score_at scores j - cost) })
    made-gained more =
        let made : Link = record { next = j; score = row.length + (score_at scores j - cost) } in
        Extended.gained {r = made} some (omega (arith, priced)) refl (omega (arith, priced, long))
