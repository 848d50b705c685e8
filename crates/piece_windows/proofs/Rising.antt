-- Numbers of rows whose pieces go up count pieces: if these are the pieces that pass a test, so many of the table's
-- first rows of a piece pass it.
--     first_one                    of the first rows one is a given piece if that occurs, and else none
--     firsts-agree                 tests that agree on all pieces of the table pass as many first rows
--     among_first                   the test whether one of the first c numbers names a given piece
--     among-told, among-tested     it tells just that
--     climbed                      as many first rows pass it as there are numbers
--     rising-count                 and as many pass any test that agrees with it on the pieces of the table
-- Assumes nothing.
use Prim.Native.Nat.{ℕ, zero, suc, ◌+◌, ◌<◌}
use mathlib.Core.Bool.{Bool, true, false, cond, ◌||◌}
use mathlib.Core.Path.{◌≡◌, refl, sym, ◌∙◌}
use mathlib.Core.List.{List, [], ◌∷◌}
use native.Mathlib.Omega.{arith}
use native.Mathlib.Nat.{not-suc-le-zero}
use native.Mathlib.Decide.{dec_lt}
use lib.ListN.{length, get_or}
use Rattle.table.specs.Distinct.{same, occurs, firsts_after, first_of_each}
use Rattle.table.specs.Summing.{total, count}
use Rattle.sorted_pieces.specs.Order.{piece_at, Rising, Among}
use Rattle.rows.specs.declared.Row.{Row}
use Rattle.table.proofs.Counting.{count-joined, count-no-one}
use Rattle.table.proofs.Pieces.{never_both, bool_same, same-itself, same-sym, occurs-at, occurs-same}
use Rattle.sorted_pieces.proofs.Order.{before_same, before-not-same}

-- ---- one first row for each piece

count-cond : (p : Row → Bool) (b : Bool) (xs ys : List Row) → count p (cond b xs ys) ≡ cond b (count p xs) (count p ys)
count-cond p true xs ys = refl
count-cond p false xs ys = refl

-- what one more row adds, by whether it is the piece and known, and whether the piece was there and comes later
adds : (it known there later : Bool) (n : ℕ) → (it ≡ true → known ≡ there)
    → n ≡ cond (it || there) 0 (cond later 1 0)
    → cond known n (cond it 1 0 + n) ≡ cond there 0 (cond (it || later) 1 0)
adds true true true later n h e = e
adds true true false later n h e = absurd (never_both refl (h refl))
adds true false true later n h e = absurd (never_both (h refl) refl)
adds true false false later n h e = omega arith
adds false true there later n h e = e
adds false false there later n h e = omega arith

first_one : (r : Row) (seen rs : List Row)
    → count (λ s. same s r) (firsts_after seen rs) ≡ cond (occurs r seen) 0 (cond (occurs r rs) 1 0)
unfolding total firsts_after occurs
first_one r seen [] = go (occurs r seen)
  where
    go : (b : Bool) → ◌≡◌ {A = ℕ} 0 (cond b 0 0)
    go true = refl
    go false = refl
first_one r seen (q ∷ rs) =
    let rest = firsts_after (q ∷ seen) rs in
    count-cond (λ s. same s r) (occurs q seen) rest (q ∷ rest)
    ∙ adds (same q r) (occurs q seen) (occurs r seen) (occurs r rs) (count (λ s. same s r) rest)
    (λ e.
    bool_same (occurs q seen) (occurs r seen) (occurs-same q r seen e) (occurs-same r q seen (same-sym q r e)))
    (first_one r (q ∷ seen) rs)

firsts-agree : (p q : Row → Bool) (seen rs : List Row) → ((r : Row) → occurs r rs ≡ true → p r ≡ q r)
    → count p (firsts_after seen rs) ≡ count q (firsts_after seen rs)
unfolding total firsts_after occurs
firsts-agree p q seen [] h = refl
firsts-agree p q seen (r ∷ rs) h =
    let rest = firsts_after (r ∷ seen) rs in
    let here = h r (occurs-at r (r ∷ rs) 0 (omega arith) (same-itself r)) in
    let below = firsts-agree p q (r ∷ seen) rs (λ s o. h s (later s o)) in
    count-cond p (occurs r seen) rest (r ∷ rest)
    ∙ rw (here, below) (sym (count-cond q (occurs r seen) rest (r ∷ rest)))
  where
    later : (s : Row) → occurs s rs ≡ true → (same r s || occurs s rs) ≡ true
    later s o = go (same r s)
      where
        go : (b : Bool) → (b || occurs s rs) ≡ true
        go true = refl
        go false = o

-- ---- the pieces of rising numbers

unfoldable among_first : List Row → List ℕ → ℕ → Row → Bool
among_first rs ns zero r = false
among_first rs ns (suc c) r = same r (piece_at rs ns c) || among_first rs ns c r

among-told : (rs : List Row) (ns : List ℕ) (c : ℕ) (r : Row) → among_first rs ns c r ≡ true → Among rs ns c r
unfolding among_first
among-told rs ns zero r e = absurd (never_both e refl)
among-told rs ns (suc c) r e = go (same r (piece_at rs ns c)) refl (among-told rs ns c r) e
  where
    go : (b : Bool) → same r (piece_at rs ns c) ≡ b → (among_first rs ns c r ≡ true → Among rs ns c r)
        → (b || among_first rs ns c r) ≡ true → Among rs ns (suc c) r
    go true h f e = record { place = c; below = omega arith; it = same-sym r (piece_at rs ns c) h }
    go false h f e = let a = f e in record { place = a.place; below = omega (arith, a.below); it = a.it }

among-tested : (rs : List Row) (ns : List ℕ) (c : ℕ) (r : Row) → Among rs ns c r → among_first rs ns c r ≡ true
unfolding among_first
among-tested rs ns zero r a = absurd (not-suc-le-zero a.below)
among-tested rs ns (suc c) r a = go (same r (piece_at rs ns c)) refl (among-tested rs ns c r)
  where
    go : (b : Bool) → same r (piece_at rs ns c) ≡ b → (Among rs ns c r → among_first rs ns c r ≡ true)
        → (b || among_first rs ns c r) ≡ true
    go true h f = refl
    go false h f =
        elim (dec_lt a.place c) [
          | yes below ↦ f (record { place = a.place; below = below; it = a.it })
          | no above ↦
              let last : a.place ≡ c = omega (arith, a.below) in
              absurd (never_both (same-sym (piece_at rs ns c) r (rw last at a.it)) h)
        ]

joins : (a b : Bool) → (a ≡ true → b ≡ true → ⊥) → cond a 1 0 + cond b 1 0 ≡ cond (a || b) 1 0
joins true true h = absurd (h refl refl)
joins true false h = refl
joins false true h = refl
joins false false h = refl

module _ (rs : List Row) (ns : List ℕ) where
  climbed : (c : ℕ) → ((i : ℕ) → i < c → get_or ns i 0 < length rs) → Rising rs ns c
      → count (among_first rs ns c) (first_of_each rs) ≡ c
  unfolding among_first occurs
  climbed zero named up = count-no-one (first_of_each rs)
  climbed (suc c) named up =
      let p = piece_at rs ns c in
      let there = occurs-at p rs (get_or ns c 0) (named c (omega arith)) (same-itself p) in
      let one : count (λ s. same s p) (first_of_each rs) ≡ 1 = rw there at (first_one p [] rs) in
      let below = climbed c (λ i l. named i (omega arith))
      (record { rising = λ i j l m. up.rising i j l (omega arith) }) in
      let joined = count-joined (λ s. same s p) (among_first rs ns c) (among_first rs ns (suc c))
      (λ r. joins (same r p) (among_first rs ns c r) (apart r)) (first_of_each rs) in
      omega arith
    where
      -- what is the last piece is none of those before it
      apart : (r : Row) → same r (piece_at rs ns c) ≡ true → among_first rs ns c r ≡ true → ⊥
      apart r e t =
          let a = among-told rs ns c r t in
          let q = piece_at rs ns a.place in
          let p = piece_at rs ns c in
          let behind = before_same q p r (up.rising a.place c a.below (omega arith)) (same-sym r p e) in
          before-not-same q r behind a.it

  pub rising-count : (c : ℕ) (p : Row → Bool) → ((i : ℕ) → i < c → get_or ns i 0 < length rs) → Rising rs ns c
      → ((r : Row) → Among rs ns c r → p r ≡ true)
      → ((r : Row) → p r ≡ true → occurs r rs ≡ true → Among rs ns c r) → c ≡ count p (first_of_each rs)
  rising-count c p named up inside complete =
      let agree = firsts-agree p (among_first rs ns c) [] rs
      (λ r o.
      bool_same (p r) (among_first rs ns c r) (λ e. among-tested rs ns c r (complete r e o))
      (λ e. inside r (among-told rs ns c r e))) in
      sym (agree ∙ climbed c named up)
