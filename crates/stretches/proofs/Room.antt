-- Room made in full arrays.
--     stored-nested      a store's ends can be sorted
--     sorted-pairs, sorted-stored     the ends of stretches, sorted, are ends of the same
--     sorted-roomier     and room made among them is room made
--     room-enough        united, few enough stretches are left
--     room_cut           the window is cut at the first stretch that is left out
-- Assumes nothing.
use Prim.Native.Nat.{ℕ, ◌+◌, ◌≤◌, ◌<◌, min}
use mathlib.Core.Bool.{false}
use mathlib.Core.Path.{◌≡◌, sym, ap, ◌∙◌}
use mathlib.Core.List.{List}
use native.Mathlib.Omega.{arith}
use native.Mathlib.Decide.{dec_lt}
use native.Mathlib.Nat.{min-le_left, min-le_right, le-min}
use borrow.Author.Tests.{le-ltb}
use lib.ListN.{length, get_or, take, drop, length-drop}
use lib.Seq.{length-take-le, get_or-take, get_or-drop, take-take}
use Rattle.sorted_numbers.specs.Ranks.{rank, Sorted}
use Rattle.sorted_numbers.proofs.Ranks.{rank-all, rank-none, rank-at-most}
use Rattle.stretches.specs.Stores.{under, Paired, Nested, Stored, United, Roomier}
use Rattle.stretches.specs.declared.Store.{Store}
use Rattle.stretches.proofs.Under.{rank-parts, pairs-nested, nested-pairs}
use Rattle.stretches.proofs.Uniting.{all_apart}

-- ---- sorted

pub stored-nested : {from to : ℕ} {L H : List ℕ} → Stored from to L H → length H ≡ length L → Nested L H
stored-nested s as_many = record { as_many = as_many; nested = s.nested }

pub sorted-pairs : {L H xs ys : List ℕ} → Nested L H → Sorted L xs → Sorted H ys → length xs ≡ length L
    → length ys ≡ length H → Paired xs ys
sorted-pairs n low high size size' =
    nested-pairs low.rises high.rises
    (record {
      as_many = size' ∙ n.as_many ∙ sym size;
      nested = λ h. rw (low.ranks h, high.ranks h) (n.nested h);
    })

module _ {from to : ℕ} {L H xs ys : List ℕ} (s : Stored from to L H) (low : Sorted L xs) (high : Sorted H ys) where
  sorted-under : (h : ℕ) → under xs ys h ≡ under L H h
  sorted-under h = rw (low.ranks h, high.ranks h)

  pub sorted-stored : Stored from to xs ys
  sorted-stored =
      record {
        nested = λ h. rw (low.ranks h, high.ranks h) (s.nested h);
        none_before = λ h l. low.ranks h ∙ s.none_before h l;
        none_behind = λ h l. sorted-under h ∙ s.none_behind h l;
      }

  pub sorted-roomier : {lows highs : List ℕ} {store : Store} → length xs ≡ length L
      → Roomier from to xs ys lows highs store → Roomier from to L H lows highs store
  sorted-roomier size r =
      record {
        room = omega (arith, r.room);
        onward = r.onward;
        shorter = r.shorter;
        stored = r.stored;
        same = λ h l. r.same h l ∙ sorted-under h;
      }

-- ---- united

-- the first numbers have as many up to h as the first few, where the others are above h
rank-cut : (h i n : ℕ) (xs : List ℕ) → i ≤ n → n ≤ length xs → ((j : ℕ) → i ≤ j → j < n → h < get_or xs j 0)
    → rank h (take n xs) ≡ rank h (take i xs)
rank-cut h i n xs order inside above =
    let size = length-take-le n xs inside in
    let none = rank-none h (drop i (take n xs)) (λ j l.
    let below : i + j < n = omega (arith, size, length-drop i (take n xs)) in
    rw (get_or-drop i (take n xs) j 0, get_or-take n xs (i + j) 0 below) (above (i + j) (omega arith) below)) in
    omega (arith, none, rank-parts h i (take n xs), ap (rank h) (take-take i n xs order))

module _ {from to : ℕ} {L H lows highs : List ℕ} {n : ℕ} (s : Stored from to L H) (u : United L H lows highs n)
    (room : length lows ≡ length L) (room' : length highs ≡ length L) where
  inside : n ≤ length lows
  inside = omega (arith, u.within)

  apart : (i j : ℕ) → i < j → j < n → get_or highs i 0 < get_or lows j 0
  apart = all_apart u.apart

  -- of the first m
  front-nested : (m : ℕ) → m ≤ n → (h : ℕ) → rank h (take m highs) ≤ rank h (take m lows)
  front-nested m l h =
      let low-size = length-take-le m lows (omega (arith, inside)) in
      let high-size = length-take-le m highs (omega (arith, inside)) in
      pairs-nested h (take m lows) (take m highs) (omega arith) (λ i t.
      let below : i < m = omega arith in
      rw (get_or-take m lows i 0 below, get_or-take m highs i 0 below) (u.apart.forward i (omega arith)))

  united-stored : Stored from to (take n lows) (take n highs)
  united-stored =
      record {
        nested = front-nested n (omega arith);
        none_before = λ h l. omega (arith, u.fewer h, s.none_before h l);
        none_behind = λ h l. u.same h ∙ s.none_behind h l;
      }

  pub room-enough : n < length L → from < to → Roomier from to L H lows highs (record { used = n; to = to })
  room-enough few onward =
      record {
        room = few;
        onward = onward;
        shorter = omega arith;
        stored = united-stored;
        same = λ h l. u.same h;
      }

  module _ (m : ℕ) (some : 0 < m) (less : m < n) where
    -- before the cut both have the same, behind it the first m have nothing
    low-cut : (h : ℕ) → h < get_or lows m 0 → rank h (take n lows) ≡ rank h (take m lows)
    low-cut h l =
        rank-cut h m n lows (omega arith) inside (λ j t t'.
        elim (dec_lt m j) [
          | yes o ↦ omega (arith, u.apart.forward m less, apart m j o t')
          | no o ↦ let e : j ≡ m = omega arith in rw e l
        ])

    high_cut : (h : ℕ) → h < get_or lows m 0 → rank h (take n highs) ≡ rank h (take m highs)
    high_cut h l =
        rank-cut h m n highs (omega arith) (omega (arith, inside)) (λ j t t'.
        elim (dec_lt m j) [
          | yes o ↦
              omega (arith, u.apart.forward m less, apart m j o t', u.apart.forward j t')
          | no o ↦ let e : j ≡ m = omega arith in rw e (omega (arith, u.apart.forward m less))
        ])

    same-cut : (h : ℕ) → h < get_or lows m 0 → under (take m lows) (take m highs) h ≡ under (take n lows) (take n highs) h
    same-cut h l = rw (low-cut h l, high_cut h l)

    none-cut : (h : ℕ) → get_or lows m 0 ≤ h → under (take m lows) (take m highs) h ≡ false
    none-cut h l =
        let low-size = length-take-le m lows (omega (arith, inside)) in
        let high-size = length-take-le m highs (omega (arith, inside)) in
        let all = rank-all h (take m highs) (λ i t.
        let below : i < m = omega arith in
        rw (get_or-take m highs i 0 below) (omega (arith, apart i m below less))) in
        le-ltb (rank h (take m highs)) (rank h (take m lows)) (omega (arith, all, rank-at-most h (take m lows)))

    -- the first few have no more up to h than all
    front-ranks : (i h : ℕ) → i ≤ n → rank h (take i lows) ≤ rank h L
    front-ranks i h l =
        omega (arith, rank-parts h i (take n lows), ap (rank h) (take-take i n lows l), u.fewer h)

    -- no stretch begins before the window
    from_on : from ≤ get_or lows 0 0
    from_on =
        let size = length-take-le 1 lows (omega (arith, inside)) in
        let one = rank-all (get_or lows 0 0) (take 1 lows) (λ i t.
        let e : i ≡ 0 = omega arith in rw (e, get_or-take 1 lows 0 0 (omega arith)) (omega arith)) in
        elim (dec_lt (get_or lows 0 0) from) [
          | no l ↦ omega arith
          | yes l ↦ absurd (omega (arith, one, size, front-ranks 1 (get_or lows 0 0) (omega arith), s.none_before _ l))
        ]

    pub room_cut : m < length L → from < to
        → Roomier from to L H lows highs (record { used = m; to = min to (get_or lows m 0) })
    room_cut few onward =
        let low = min-le_left to (get_or lows m 0) in
        let low' = min-le_right to (get_or lows m 0) in
        let first = u.apart.forward 0 (omega arith) in
        record {
          room = few;
          onward = le-min onward (omega (arith, from_on, first, apart 0 m some less));
          shorter = low;
          stored = record {
            nested = front-nested m (omega arith);
            none_before = λ h l. omega (arith, front-ranks m h (omega arith), s.none_before h l);
            none_behind = λ h l.
                elim (dec_lt h (get_or lows m 0)) [
                  | no t ↦ none-cut h (omega arith)
                  | yes t ↦
                      let past : to ≤ h =
                      elim (dec_lt h to) [ no o ↦ omega arith | yes o ↦ absurd (omega (arith, le-min o t)) ] in
                      same-cut h t ∙ u.same h ∙ s.none_behind h past
                ];
          };
          same = λ h l. same-cut h (omega arith) ∙ u.same h;
        }
