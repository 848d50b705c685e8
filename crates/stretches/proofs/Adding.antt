-- A stretch added to a store, clipped to the window.
--     stored-none, under_none       a store of nothing
--     stored-before                 nothing is under it before its window
--     added_none, added-one         no letter of it lies in the window; some do
-- Assumes nothing.
use Prim.Native.Nat.{ℕ, ◌+◌, ◌≤◌, ◌<◌, min, max}
use mathlib.Core.Bool.{false}
use mathlib.Core.Path.{◌≡◌, refl, sym, ◌∙◌}
use mathlib.Core.List.{List, [], ◌∷◌, ◌++◌}
use native.Mathlib.Omega.{arith}
use native.Mathlib.Decide.{dec_lt, dec_le}
use native.Mathlib.Nat.{le-max_left, le-max_right, max-le, min-le_left, min-le_right, le-min}
use borrow.Author.Tests.{lt-leb, le-leb, le-ltb}
use lib.ListN.{length, set, length-set}
use Rattle.table.specs.Tally.{within}
use Rattle.table.proofs.Tally.{within-true, within-before, within-behind}
use Rattle.sorted_numbers.specs.Ranks.{rank}
use Rattle.stretches.specs.Stores.{under, Stored, Held, Added}
use Rattle.stretches.specs.declared.Stretch.{Stretch}
use Rattle.stretches.specs.declared.Store.{Store}
use Rattle.stretches.proofs.Under.{rank-last, under_more}
use Rattle.stretches.proofs.Uniting.{take_set_next}

-- in the window a stretch and what is left of it have the same letters
clipped : (a b from to h : ℕ) → from ≤ h → h < to → within (max a from) (min b to) h ≡ within a b h
clipped a b from to h l l' =
    let low = le-max_left a from in
    let high = min-le_left b to in
    elim (dec_lt h a) [
      | yes t ↦ rw (within-before a b h t, within-before (max a from) (min b to) h (omega arith))
      | no t ↦
          elim (dec_lt h b) [
            | yes o ↦
                rw (
                  within-true a b h (omega arith) o,
                  within-true (max a from) (min b to) h (max-le (omega arith) l) (le-min o l'),
                )
            | no o ↦ rw (within-behind a b h (omega arith), within-behind (max a from) (min b to) h (omega arith))
          ]
    ]

pub stored-none : (from to : ℕ) → Stored from to [] []
unfolding rank
stored-none from to =
    record { nested = λ h. omega arith; none_before = λ h l. refl; none_behind = λ h l. refl }

pub under_none : (h : ℕ) → under [] [] h ≡ false
unfolding rank
under_none h = refl

pub stored-before : {from to : ℕ} {xs ys : List ℕ} → Stored from to xs ys → (h : ℕ) → h < from
    → under xs ys h ≡ false
stored-before {xs = xs} {ys = ys} s h l = le-ltb (rank h ys) (rank h xs) (omega (arith, s.none_before h l))

stored_more : {from to : ℕ} {xs ys : List ℕ} → Stored from to xs ys → (a b : ℕ) → from ≤ a → a < b → b ≤ to
    → Stored from to (xs ++ a ∷ []) (ys ++ b ∷ [])
stored_more {from} {to} {xs} {ys} s a b low some high =
    record {
      nested = λ h.
          elim (dec_le b h) [
            | yes l ↦
                rw (rank-last h xs a, rank-last h ys b, le-leb b h l, le-leb a h (omega arith))
                (omega (arith, s.nested h))
            | no l ↦
                rw (rank-last h xs a, rank-last h ys b, lt-leb b h (omega arith)) (omega (arith, s.nested h))
          ];
      none_before = λ h l. rw (rank-last h xs a, lt-leb a h (omega arith)) (omega (arith, s.none_before h l));
      none_behind = λ h l.
          under_more xs ys a b h (omega arith) (s.nested h)
          ∙ rw (within-behind a b h (omega arith)) (s.none_behind h l);
    }

-- a and b are the ends of what is left of the stretch
module _ {from : ℕ} {lows highs : List ℕ} {store : Store} (held : Held from lows highs store) (x : Stretch) {a b : ℕ}
    (low : a ≡ max x.low from) (high : b ≡ min x.high store.to) where
  clip : (h : ℕ) → from ≤ h → h < store.to → within a b h ≡ within x.low x.high h
  clip h l l' = rw (low, high) (clipped x.low x.high from store.to h l l')

  pub added_none : b ≤ a → Added from x lows highs store lows highs store
  added_none empty =
      record {
        held = held;
        shorter = omega arith;
        more = λ h l l'. rw (sym (clip h l l') ∙ outside h);
      }
    where
      outside : (h : ℕ) → within a b h ≡ false
      outside h =
          elim (dec_lt h a) [ yes t ↦ within-before a b h t | no t ↦ within-behind a b h (omega arith) ]

  pub added-one : store.used < length lows → a < b
      → Added from x lows highs store (set lows store.used a) (set highs store.used b)
      (record { used = store.used + 1; to = store.to })
  added-one room some =
      let front = take_set_next lows store.used a room in
      let back = take_set_next highs store.used b (omega (arith, held.as_many)) in
      let from_on : from ≤ a = rw low (le-max_right x.low from) in
      let up_to : b ≤ store.to = rw high (min-le_right x.high store.to) in
      record {
        held = record {
          room = rw (length-set lows store.used a) (omega arith);
          as_many = rw (length-set lows store.used a, length-set highs store.used b) held.as_many;
          onward = held.onward;
          stored = rw (front, back) (stored_more held.stored a b from_on some up_to);
        };
        shorter = omega arith;
        more = λ h l l'.
            rw (front, back)
            (under_more _ _ a b h (omega arith) (held.stored.nested h) ∙ rw (clip h l l'));
      }
