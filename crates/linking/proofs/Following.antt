-- Which of the rows that are linked may follow the next one.
--     Follower rs k j       row j is direct and may follow row k
--     ahead-other           no row is ahead of itself
--     ahead-left            a row that is ahead by A is no further left there
--     following             the rows entered behind the place of the row at place t are those that may follow it
-- Assumes nothing.
use Prim.Native.Nat.{ℕ, ◌+◌, ◌-◌, ◌*◌, ◌^◌, ◌≤◌, ◌<◌}
use mathlib.Core.Path.{◌≡◌, sym}
use mathlib.Core.Logic.{◌↔◌, inl, inr}
use mathlib.Core.List.{List}
use native.Mathlib.Omega.{arith}
use native.Mathlib.Decide.{dec_lt, ℕ_discrete}
use lib.ListN.{length, get_or, take}
use Rattle.rows.specs.Rows.{row_at}
use Rattle.rows.specs.declared.Row.{Row}
use Rattle.refinement.specs.declared.Side.{Side}
use Rattle.refinement.specs.declared.Side.TheVariants.{A, B}
use Rattle.refinement.specs.Order.{◌∈◌}
use Rattle.table.specs.Covering.{left_of, right_of}
use Rattle.backbone.specs.Chains.{row_numbered, Direct, Follows}
use Rattle.best_chains.specs.Best.{Apart}
use Rattle.row_order.specs.Order.{key_at, Ahead, Names}
use Rattle.backbone.proofs.Places.{at-∈, ∈-at}
use Rattle.row_order.proofs.Order.{ahead-not, ahead-right, right_ahead}
use Rattle.direct_rows.specs.Direct.{place_at}
use Rattle.best_rows.specs.Halves.{Within}
use Rattle.linking.specs.Linking.{Arranged}
use Rattle.linking.proofs.Members.{stands, standing}

pub record Follower (rs : List Row) (k j : ℕ) : Type 0 where
  pub direct : Direct rs j
  pub follows : Follows (row_numbered rs k) (row_numbered rs j)

-- a direct row is one of the rows
named : {rs : List Row} {k : ℕ} → Direct rs k → Names rs k
named d = record { from_one = d.from_one; to_last = d.to_last }

pub ahead-other : (rs : List Row) (s : Side) (j k : ℕ) → Ahead rs s j k → j ≡ k → ⊥
ahead-other rs s j k ahead e = let self = rw e at ahead in ahead-not rs s k k self self

-- its key is no more
ahead-keys : (rs : List Row) (s : Side) (j k : ℕ) → Ahead rs s j k → key_at rs s j ≤ key_at rs s k
ahead-keys rs s j k (inl less) = omega arith
ahead-keys rs s j k (inr (same, less)) = omega arith

-- the left end on A goes first in the key, counted from the right
key_left : (a b a' b' : ℕ) → a < 2 ^ 32 → a' < 2 ^ 32 → b' < 2 ^ 32
    → (4294967295 - a) * 4294967296 + b ≤ (4294967295 - a') * 4294967296 + b' → a' ≤ a
key_left a b a' b' fits fits' low le = omega arith

module _ {rs : List Row} (apart : Apart rs) where
  -- left ends are numbers of 32 bits
  lefts-fit : (s : Side) (i : ℕ) → i < length rs → left_of s (row_at rs i) < 2 ^ 32
  lefts-fit s i inside = omega (arith, apart.fits s i inside)

  module _ {j k : ℕ} (dj : Direct rs j) (dk : Direct rs k) where
    -- both are there
    j-inside : j - 1 < length rs
    j-inside = omega (arith, dj.from_one, dj.to_last)

    k-inside : k - 1 < length rs
    k-inside = omega (arith, dk.from_one, dk.to_last)

    pub ahead-left : Ahead rs A j k → left_of A (row_numbered rs k) ≤ left_of A (row_numbered rs j)
    ahead-left a =
        key_left _ _ _ _ (lefts-fit A (j - 1) j-inside) (lefts-fit A (k - 1) k-inside) (lefts-fit B (k - 1) k-inside)
        (ahead-keys rs A j k a)

    -- further right on a side is at or past the other's right end ..
    past : (s : Side) → left_of s (row_numbered rs k) < left_of s (row_numbered rs j)
        → right_of s (row_numbered rs k) ≤ left_of s (row_numbered rs j)
    past s l = apart.disjoint s (k - 1) (j - 1) k-inside j-inside l

    -- .. and the other way about, since the other has a letter
    beyond : (s : Side) → right_of s (row_numbered rs k) ≤ left_of s (row_numbered rs j)
        → left_of s (row_numbered rs k) < left_of s (row_numbered rs j)
    beyond s l = omega (arith, apart.lettered.lettered (k - 1) k-inside)

  module _ {order places : List ℕ} (arranged : Arranged rs order places) (t : ℕ) (inside : t < length order) where
    -- the row at place t
    abbrev next : ℕ
    next = get_or order t 0

    -- it is one of the rows
    next-in : next ∈ order
    next-in = at-∈ order t inside

    next-direct : Direct rs next
    next-direct = (arranged.direct next).0 next-in

    -- what stands before the place is ahead by A
    before-ahead : {j : ℕ} → j ∈ take t order → Ahead rs A j next
    before-ahead m =
        let s = stands order t m in
        rw (sym s.reads) at (arranged.in_order.ahead s.place t s.before inside)

    before-in : {j : ℕ} → j ∈ take t order → j ∈ order
    before-in m =
        let s = stands order t m in
        rw (sym s.reads) at (at-∈ order s.place s.inside)

    -- ahead by A and behind by B is right of it on both sides, and so behind its ends
    entered-follow : (j : ℕ) → Within (take t order) places (place_at places next + 1) (length order) j
        → Follower rs next j
    entered-follow j w = record { direct = dj; follows = record { at_or_past = sides } }
      where
        j-in : j ∈ order
        j-in = before-in w.entered

        dj : Direct rs j
        dj = (arranged.direct j).0 j-in

        right : (left_of A (row_numbered rs next) < left_of A (row_numbered rs j))
            × (left_of B (row_numbered rs next) < left_of B (row_numbered rs j))
        right = ahead-right rs j next lefts-fit (named dj) (named next-direct) (before-ahead w.entered)
            ((arranged.by_b next j next-in j-in).0 (omega (arith, w.from)))

        sides : (s : Side) → right_of s (row_numbered rs next) ≤ left_of s (row_numbered rs j)
        sides A = past dj next-direct A right.0
        sides B = past dj next-direct B right.1

    -- and the other way about
    follow-entered : (j : ℕ) → Follower rs next j
        → Within (take t order) places (place_at places next + 1) (length order) j
    follow-entered j f =
        let early = before (dec_lt spot.0 t) (ℕ_discrete spot.0 t) in
        record {
          entered = standing order t spot.0 early spot.1 (sym spot.2);
          from = omega (arith, (arranged.by_b next j next-in j-in).1 ahead.1);
          to = arranged.below j j-in;
        }
      where
        right : (s : Side) → left_of s (row_numbered rs next) < left_of s (row_numbered rs j)
        right s = beyond f.direct next-direct s (f.follows.at_or_past s)

        ahead : Ahead rs A j next × Ahead rs B next j
        ahead = right_ahead rs j next lefts-fit (named f.direct) (named next-direct) (right A) (right B)

        j-in : j ∈ order
        j-in = (arranged.direct j).1 f.direct

        spot : (i : ℕ) × (i < length order) × (get_or order i 0 ≡ j)
        spot = ∈-at j-in

        -- neither is it the row itself, nor does it stand behind it
        before : Dec (spot.0 < t) → Dec (spot.0 ≡ t) → spot.0 < t
        before (yes l) e = l
        before (no ge) (yes e) = absurd (ahead-other rs A j next ahead.0 (sym (rw e at spot.2)))
        before (no ge) (no ne) =
            let behind = arranged.in_order.ahead t spot.0 (omega arith) spot.1 in
            absurd (ahead-not rs A j next ahead.0 (rw spot.2 at behind))

    pub following : (j : ℕ)
        → Within (take t order) places (place_at places next + 1) (length order) j ↔ Follower rs next j
    following j = (entered-follow j, follow-entered j)
