-- Rows counted share by share.
--     below_share by s r               r is in a share before s
--     Below                           the pieces of the shares before one are counted
--     below-starts, below_more        before the first share, and after one more
--     below-bound, below_all          no more than rows; behind the last share
--     one-share                       where there is only one, its count is the count of all
-- Assumes nothing.
use Rattle.std.proofs.Common.{◌≡◌, ℕ, ◌+◌, ◌*◌, ◌/◌, ◌<◌, ◌≤◌, Bool, true, false, cond, eqb, ltb, List, [], length, sym, ◌∙◌, zero-le, mul_comm, div-lt_iff_lt-mul, mul-lt-mul_of_pos_right, arith, lit<, le-ltb, lt-ltb, eq-eqb, ne_eqb}
use native.Mathlib.Decide.{dec_lt, ℕ_discrete}
use Rattle.table.specs.Distinct.{first_of_each}
use Rattle.table.specs.Summing.{count}
use Rattle.distinct_store.specs.Store.{scattered, mixed, spot, share_of, in_share, Sharing}
use Rattle.rows.specs.declared.Row.{Row}
use Rattle.distinct_store.specs.declared.Dealing.{Dealing}
use Rattle.distinct_store.specs.declared.Counted.{Counted}
use Rattle.distinct_store.specs.declared.GaveUp.{GaveUp}
use Rattle.std.proofs.Common.{Result, Ok, Err}
use Rattle.distinct_pieces.specs.Attempts.{Attempt}
use Rattle.table.proofs.Counting.{count-inside, count-agrees, count-every, count-no-one, count-joined}
use Rattle.table.proofs.Pieces.{firsts-inside}

abbrev pub below_share : Dealing → ℕ → Row → Bool
below_share by share r = ltb (share_of by r) share

next-share : (x s : ℕ) → cond (ltb x s) 1 0 + cond (eqb x s) 1 0 ≡ cond (ltb x (s + 1)) 1 0
next-share x s =
    elim (dec_lt x s) [
      | yes below ↦ rw (lt-ltb x s below, ne_eqb x s (λ e. omega arith), lt-ltb x (s + 1) (omega arith))
      | no above ↦
          elim (ℕ_discrete x s) [
            | yes here ↦ rw (le-ltb x s (omega arith), eq-eqb x s here, lt-ltb x (s + 1) (omega arith))
            | no apart ↦ rw (le-ltb x s (omega arith), ne_eqb x s apart, le-ltb x (s + 1) (omega arith))
          ]
    ]

share-below : (mixed shares : ℕ) → mixed < 0x1_0000_0000 → 0 < shares → mixed * shares / 0x1_0000_0000 < shares
share-below mixed shares h some =
    (div-lt_iff_lt-mul (lit< tt)).1 (rw (mul_comm shares 0x1_0000_0000) (mul-lt-mul_of_pos_right h some))

-- all shares before `share` are counted
pub record Below (by : Dealing) (rs : List Row) (all share : ℕ) : Type 0 where
  pub reached : share ≤ by.shares
  pub counted : all ≡ count (below_share by share) (first_of_each rs)

pub below-starts : (by : Dealing) (rs : List Row) → Below by rs 0 0
below-starts by rs =
    let none = count-agrees (below_share by 0) false (λ r. le-ltb (share_of by r) 0 (omega arith)) (first_of_each rs) in
    record { reached = zero-le; counted = sym (none ∙ count-no-one (first_of_each rs)) }

module _ {by : Dealing} {rs : List Row} {all share : ℕ} (b : Below by rs all share) where
  pub below-bound : all ≤ length rs
  below-bound =
      omega (arith, b.counted, count-inside (below_share by share) (first_of_each rs), firsts-inside [] rs)

  pub below_more : (found : ℕ) → share < by.shares → found ≡ count (in_share by share) (first_of_each rs)
      → Below by rs (all + found) (share + 1)
  below_more found more counted =
      let joined = count-joined (below_share by share) (in_share by share) (below_share by (share + 1))
      (λ r. next-share (share_of by r) share) (first_of_each rs) in
      record { reached = omega arith; counted = omega (arith, joined, b.counted) }

  pub below_all : 0 < by.shares → by.shares ≤ share → all ≡ length (first_of_each rs)
  unfolding spot mixed scattered
  below_all some ended =
      let last : share ≡ by.shares = omega (arith, b.reached) in
      let every = count-agrees (below_share by share) true (λ r. lt-ltb (share_of by r) share (rw last (dealt r)))
      (first_of_each rs) in
      b.counted ∙ every ∙ count-every (first_of_each rs)
    where
      dealt : (r : Row) → share_of by r < by.shares
      dealt r = share-below _ by.shares (omega arith) some

pub one-share : (by : Dealing) (rs : List Row) (x : Result Counted GaveUp) → by.shares ≡ 1 → Sharing by 0 rs x → Attempt rs x
one-share by rs (Ok it) one counted =
    let all = below_more (below-starts by rs) it.found (omega arith) counted in
    omega (arith, below_all all (omega arith) (omega arith))
one-share by rs (Err gave_up) one counted = tt
