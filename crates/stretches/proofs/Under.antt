-- What is under stretches, by the ranks of their left ends and right ends.
--     rank-last, rank-parts         the rank with one more number, and in two parts
--     rank-from, rank-until         in numbers that rise, at least i + 1 are h at most, or at most i
--     pairs-nested, nested-pairs    each right end at its left end or behind; the same of ends that are sorted
--     under_more                    what is under one more stretch
--     under_last                    the same, of ends that rise
-- Assumes nothing.
use Prim.Native.Nat.{ℕ, zero, suc, ◌+◌, ◌≤◌, ◌<◌}
use mathlib.Core.Bool.{cond, ◌||◌}
use mathlib.Core.Path.{◌≡◌, sym, ap, ◌∙◌}
use mathlib.Core.List.{List, [], ◌∷◌, ◌++◌}
use native.Mathlib.Omega.{arith}
use native.Mathlib.Nat.{add-zero}
use native.Mathlib.Numerals.{add-one}
use native.Mathlib.Decide.{dec_lt, dec_le}
use borrow.Author.Tests.{lt-ltb, le-ltb, le-leb, lt-leb}
use lib.ListN.{length, get_or, take, drop, length-drop, take-append-drop}
use lib.Dec.{leb, ltb, leb-suc-suc}
use lib.Seq.{length-take-le, get_or-take, get_or-drop}
use Rattle.table.specs.Tally.{within}
use Rattle.table.proofs.Tally.{within-true, within-before, within-behind}
use Rattle.sorted_numbers.specs.Ranks.{rank, Rises}
use Rattle.sorted_numbers.proofs.Ranks.{rank-append, rank-all, rank-none, rank-at-most}
use Rattle.stretches.specs.Stores.{under, Paired, Nested}

-- ---- ranks

pub rank-last : (h : ℕ) (xs : List ℕ) (a : ℕ) → rank h (xs ++ a ∷ []) ≡ rank h xs + cond (leb a h) 1 0
unfolding rank
rank-last h xs a = omega (arith, rank-append h xs (a ∷ []))

pub rank-parts : (h i : ℕ) (xs : List ℕ) → rank h xs ≡ rank h (take i xs) + rank h (drop i xs)
rank-parts h i xs = sym (ap (rank h) (take-append-drop i xs)) ∙ rank-append h (take i xs) (drop i xs)

module _ {xs : List ℕ} (up : Rises xs) (h i : ℕ) (inside : i < length xs) where
  -- number i is the largest of the first i + 1, and the least of those from i on
  not-above : (j : ℕ) → j < i + 1 → get_or xs j 0 ≤ get_or xs i 0
  not-above j l = elim (dec_lt j i) [
    | yes t ↦ up.order j i t inside
    | no t ↦ let e : j ≡ i = omega arith in rw e (omega arith)
  ]

  not-below : (j : ℕ) → j < length (drop i xs) → get_or xs i 0 ≤ get_or xs (i + j) 0
  not-below zero l = rw (add-zero i) (omega arith)
  not-below (suc j) l = up.order i (i + suc j) (omega arith) (omega (arith, length-drop i xs))

  pub rank-from : get_or xs i 0 ≤ h → i + 1 ≤ rank h xs
  rank-from low =
      let size = length-take-le (i + 1) xs (omega arith) in
      let all = rank-all h (take (i + 1) xs) (λ j l.
      let below : j < i + 1 = omega (arith, size) in
      rw (get_or-take (i + 1) xs j 0 below) (omega (arith, not-above j below))) in
      omega (arith, all, size, rank-parts h (i + 1) xs)

  pub rank-until : h < get_or xs i 0 → rank h xs ≤ i
  rank-until high =
      let none = rank-none h (drop i xs) (λ j l. rw (get_or-drop i xs j 0) (omega (arith, not-below j l))) in
      omega (arith, none, rank-at-most h (take i xs), length-take-le i xs (omega arith), rank-parts h i xs)

-- ---- left ends and right ends

pub pairs-nested : (h : ℕ) (xs ys : List ℕ) → length ys ≡ length xs
    → ((i : ℕ) → i < length xs → get_or xs i 0 ≤ get_or ys i 0) → rank h ys ≤ rank h xs
unfolding rank
pairs-nested h [] [] e forward = omega arith
pairs-nested h [] (y ∷ ys) e forward = absurd (omega arith)
pairs-nested h (x ∷ xs) [] e forward = absurd (omega arith)
pairs-nested h (x ∷ xs) (y ∷ ys) e forward =
    let later = pairs-nested h xs ys (omega arith) (λ i l. forward (suc i) (omega arith)) in
    let first : x ≤ y = forward 0 (omega arith) in
    elim (dec_le y h) [
      | yes l ↦ rw (le-leb y h l, le-leb x h (omega arith)) (omega arith)
      | no l ↦ rw (lt-leb y h (omega arith)) (omega arith)
    ]

pub nested-pairs : {xs ys : List ℕ} → Rises xs → Rises ys → Nested xs ys → Paired xs ys
nested-pairs {xs} {ys} up up' n =
    record {
      as_many = n.as_many;
      low_rises = up;
      high_rises = up';
      forward = λ i l.
          let h = get_or ys i 0 in
          elim (dec_lt h (get_or xs i 0)) [
            | no t ↦ omega arith
            | yes t ↦
                let many = rank-from up' h i (omega (arith, n.as_many)) (omega arith) in
                absurd (omega (arith, n.nested h, many, rank-until up h i l t))
          ];
    }

-- ---- one stretch more

module _ (xs ys : List ℕ) (a b h : ℕ) (forward : a ≤ b) where
  -- the stretch begins behind h
  under-before : h < a → under (xs ++ a ∷ []) (ys ++ b ∷ []) h ≡ under xs ys h
  under-before l =
      rw (rank-last h xs a, rank-last h ys b, lt-leb a h l, lt-leb b h (omega arith))
      (rw (add-zero (rank h xs), add-zero (rank h ys)))

  pub under_more : rank h ys ≤ rank h xs
      → under (xs ++ a ∷ []) (ys ++ b ∷ []) h ≡ (within a b h || under xs ys h)
  under_more nested =
      elim (dec_lt h a) [
        | yes l ↦ under-before l ∙ rw (within-before a b h l)
        | no l ↦
            elim (dec_lt h b) [
              | yes l' ↦
                  rw (
                    within-true a b h (omega arith) l',
                    rank-last h xs a,
                    rank-last h ys b,
                    le-leb a h (omega arith),
                    lt-leb b h l',
                  )
                  (lt-ltb (rank h ys + 0) (rank h xs + 1) (omega arith))
              | no l' ↦
                  rw (
                    within-behind a b h (omega arith),
                    rank-last h xs a,
                    rank-last h ys b,
                    le-leb a h (omega arith),
                    le-leb b h (omega arith),
                    add-one (rank h xs),
                    add-one (rank h ys),
                  )
                  (leb-suc-suc (suc (rank h ys)) (rank h xs))
            ]
      ]

  pub under_last : length ys ≡ length xs → ((i : ℕ) → i < length xs → get_or xs i 0 ≤ a)
      → ((i : ℕ) → i < length ys → get_or ys i 0 ≤ b)
      → under (xs ++ a ∷ []) (ys ++ b ∷ []) h ≡ cond (ltb h a) (under xs ys h) (ltb h b)
  under_last as_many low high =
      elim (dec_lt h a) [
        | yes l ↦ under-before l ∙ rw (lt-ltb h a l)
        | no l ↦
            let all = rank-all h xs (λ i t. omega (arith, low i t)) in
            elim (dec_lt h b) [
              | yes l' ↦
                  rw (
                    le-ltb h a (omega arith),
                    lt-ltb h b l',
                    rank-last h xs a,
                    rank-last h ys b,
                    le-leb a h (omega arith),
                    lt-leb b h l',
                  )
                  (lt-ltb (rank h ys + 0) (rank h xs + 1) (omega (arith, rank-at-most h ys)))
              | no l' ↦
                  let every = rank-all h ys (λ i t. omega (arith, high i t)) in
                  rw (
                    le-ltb h a (omega arith),
                    le-ltb h b (omega arith),
                    rank-last h xs a,
                    rank-last h ys b,
                    le-leb a h (omega arith),
                    le-leb b h (omega arith),
                  )
                  (le-ltb (rank h ys + 1) (rank h xs + 1) (omega arith))
            ]
      ]
