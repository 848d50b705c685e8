-- Letters summed up from stretch to stretch, of left ends and right ends that rise.
--     Summing                       the letters under the first k stretches; `reach` is where the last of them ends
--     summing-starts                before the first
--     summing-more                  what of one more lies behind `reach` is added
--     summing-fits                  and the sum fits
--     summing-all                   behind the last
--     sorted-summed                 sorted or not, the stretches have the same letters
-- Assumes nothing.
use Prim.Native.Nat.{ℕ, ◌+◌, ◌-◌, ◌≤◌, ◌<◌, max}
use mathlib.Core.Bool.{true, false}
use mathlib.Core.Path.{◌≡◌, refl, sym, ◌∙◌}
use mathlib.Core.List.{List}
use native.Mathlib.Omega.{arith}
use native.Mathlib.Decide.{dec_lt, dec_le}
use native.Mathlib.Nat.{le-max_left, le-max_right, max-le}
use borrow.Author.Tests.{lt-ltb, le-ltb}
use lib.ListN.{length, get_or, take}
use lib.Seq.{length-take-le, take_all, get_or-take}
use Rattle.table.specs.Tally.{tally}
use Rattle.table.proofs.Tally.{tally-agrees, tally-none, tally-all, tally-at-most}
use Rattle.sorted_numbers.specs.Ranks.{rank, Sorted}
use Rattle.sorted_numbers.proofs.Ranks.{rank-all, rank-at-most}
use Rattle.stretches.specs.Stores.{under, Paired, Summed}
use Rattle.stretches.proofs.Uniting.{under_next}

pub record Summing (L H : List ℕ) (letters reach k : ℕ) : Type 0 where
  pub within : k ≤ length L
  pub passed : (i : ℕ) → i < k → get_or H i 0 ≤ reach
  pub onward : (i : ℕ) → k ≤ i → i < length H → reach ≤ get_or H i 0
  pub reached : (h : ℕ) → ((i : ℕ) → i < k → get_or L i 0 ≤ h) → h < reach → under (take k L) (take k H) h ≡ true
  pub sum : letters ≡ tally (under (take k L) (take k H)) reach

pub summing-starts : (L H : List ℕ) → Summing L H 0 0 0
unfolding tally
summing-starts L H =
    record {
      within = omega arith;
      passed = λ i l. absurd (omega arith);
      onward = λ i l l'. omega arith;
      reached = λ h low l. absurd (omega arith);
      sum = refl;
    }

module _ {L H : List ℕ} (p : Paired L H) {letters reach k : ℕ} (s : Summing L H letters reach k) where
  -- nothing lies behind where the last stretch ends
  none_behind : (h : ℕ) → reach ≤ h → under (take k L) (take k H) h ≡ false
  none_behind h l =
      let low-size = length-take-le k L s.within in
      let high-size = length-take-le k H (omega (arith, s.within, p.as_many)) in
      let all = rank-all h (take k H) (λ i t.
      let below : i < k = omega arith in rw (get_or-take k H i 0 below) (omega (arith, s.passed i below))) in
      le-ltb (rank h (take k H)) (rank h (take k L)) (omega (arith, all, rank-at-most h (take k L)))

  module _ (inside : k < length L) where
    order : max (get_or L k 0) reach ≤ get_or H k 0
    order = max-le (p.forward k inside) (s.onward k (omega arith) (omega (arith, p.as_many)))

    under-from : (h : ℕ) → get_or L k 0 ≤ h → h < get_or H k 0 → under (take (k + 1) L) (take (k + 1) H) h ≡ true
    under-from h l l' = under_next p k h inside ∙ rw (le-ltb h (get_or L k 0) l, lt-ltb h (get_or H k 0) l')

    -- up to the left end, or to where the others end if that is further, the stretch adds nothing
    agree : (h : ℕ) → h < max (get_or L k 0) reach
        → under (take (k + 1) L) (take (k + 1) H) h ≡ under (take k L) (take k H) h
    agree h l =
        elim (dec_lt h (get_or L k 0)) [
          | yes t ↦ under_next p k h inside ∙ rw (lt-ltb h (get_or L k 0) t)
          | no t ↦
              let behind : h < reach =
              elim (dec_lt h reach) [
                | yes o ↦ o
                | no o ↦
                    let most : max (get_or L k 0) reach ≤ h = max-le (omega arith) (omega arith) in
                    absurd (omega arith)
              ]
              in
              let low : (i : ℕ) → i < k → get_or L i 0 ≤ h =
              λ i o. omega (arith, p.low_rises.order i k o inside) in
              under-from h (omega arith) (omega (arith, s.onward k (omega arith) (omega (arith, p.as_many))))
              ∙ sym (s.reached h low behind)
        ]

    more : Summing L H (letters + (get_or H k 0 - max (get_or L k 0) reach)) (get_or H k 0) (k + 1)
    more =
        let old = under (take k L) (take k H) in
        let new = under (take (k + 1) L) (take (k + 1) H) in
        let low = le-max_left (get_or L k 0) reach in
        let far = le-max_right (get_or L k 0) reach in
        let alike = tally-agrees new old (max (get_or L k 0) reach) agree in
        let none = tally-none old reach (max (get_or L k 0) reach) far (λ h l l'. none_behind h l) in
        let all = tally-all new (max (get_or L k 0) reach) (get_or H k 0) order
        (λ h l l'. under-from h (omega arith) l') in
        record {
          within = omega arith;
          passed = λ i l.
              elim (dec_lt i k) [
                | yes t ↦ p.high_rises.order i k t (omega (arith, p.as_many))
                | no t ↦ let e : i ≡ k = omega arith in rw e (omega arith)
              ];
          onward = λ i l l'. p.high_rises.order k i (omega arith) l';
          reached = λ h before l. under-from h (before k (omega arith)) l;
          sum = omega (arith, s.sum, alike, none, all);
        }

    -- the further of the left end and `reach`, as it was worked out
    module _ {low : ℕ} (further : low ≡ max (get_or L k 0) reach) where
      pub summing-more : Summing L H (letters + (get_or H k 0 - low)) (get_or H k 0) (k + 1)
      summing-more = rw further more

      -- no more letters than where the stretch ends
      pub summing-fits : letters + (get_or H k 0 - low) ≤ get_or H k 0
      summing-fits =
          rw summing-more.sum (tally-at-most (under (take (k + 1) L) (take (k + 1) H)) (get_or H k 0))

  pub summing-all : length L ≤ k → Summed L H letters
  summing-all ended =
      record {
        summed = λ last none.
            let f = under L H in
            elim (dec_le reach last) [
              | yes l ↦
                  let beyond = tally-none f reach last l (λ h o o'. rw (whole, whole') at (none_behind h o)) in
                  omega (arith, whole_sum, beyond)
              | no l ↦
                  omega (arith, whole_sum, tally-none f last reach (omega arith) (λ h o o'. none h o))
            ];
      }
    where
      whole : take k L ≡ L
      whole = take_all k L ended

      whole' : take k H ≡ H
      whole' = take_all k H (omega (arith, p.as_many))

      whole_sum : letters ≡ tally (under L H) reach
      whole_sum = rw (whole, whole') at s.sum

-- ---- in any order

pub sorted-summed : {L H xs ys : List ℕ} {letters : ℕ} → Sorted L xs → Sorted H ys → Summed xs ys letters
    → Summed L H letters
sorted-summed {L} {H} {xs} {ys} low high sum =
    record {
      summed = λ last none.
          sum.summed last (λ h l. alike h ∙ none h l)
          ∙ tally-agrees (under xs ys) (under L H) last (λ h l. alike h);
    }
  where
    alike : (h : ℕ) → under xs ys h ≡ under L H h
    alike h = rw (low.ranks h, high.ranks h)
