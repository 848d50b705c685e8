-- Stretches that touch made one, from the first to the last, of left ends and right ends that rise.
--     Uniting                        what is written of the first k stretches, and that the others are as they were
--     uniting-joined                 after one that touches the last: that one ends where this one does
--     uniting-apart                  after one that does not: it is written behind
--     under_next                     what is under the first k + 1 stretches
--     all_apart                      each stretch that is written ends before every later one begins
-- Assumes nothing.
use Prim.Native.Nat.{ℕ, zero, suc, ◌+◌, ◌-◌, ◌≤◌, ◌<◌}
use mathlib.Core.Bool.{Bool, cond}
use mathlib.Core.Path.{◌≡◌, sym, ap, ◌∙◌}
use mathlib.Core.List.{List, [], ◌∷◌, ◌++◌}
use native.Mathlib.Omega.{arith}
use native.Mathlib.Decide.{dec_lt, ℕ_discrete}
use native.Mathlib.Numerals.{add-one}
use borrow.Author.Tests.{lt-ltb, le-ltb}
use lib.ListN.{length, get_or, take, set, length-set}
use lib.Dec.{ltb}
use lib.Seq.{length-take-le, take-suc, take-suc-set, get_or-take, get_or-set_same, get_or-set_other}
use Rattle.sorted_numbers.specs.Ranks.{rank}
use Rattle.stretches.specs.Stores.{under, Paired, Apart}
use Rattle.stretches.proofs.Under.{rank-last, under_last}

pub record Uniting (L H lows highs : List ℕ) (used k : ℕ) : Type 0 where
  pub some : 0 < used
  pub fewer : used ≤ k
  pub within : k ≤ length L
  pub low_room : length lows ≡ length L
  pub high_room : length highs ≡ length H
  pub low_rest : (i : ℕ) → k ≤ i → get_or lows i 0 ≡ get_or L i 0
  pub high_rest : (i : ℕ) → k ≤ i → get_or highs i 0 ≡ get_or H i 0
  pub low_last : get_or lows (used - 1) 0 ≤ get_or L (k - 1) 0
  pub high_last : get_or highs (used - 1) 0 ≡ get_or H (k - 1) 0
  pub apart : Apart lows highs used
  pub ranks : (h : ℕ) → rank h (take used lows) ≤ rank h (take k L)
  pub same : (h : ℕ) → under (take used lows) (take used highs) h ≡ under (take k L) (take k H) h

-- the first numbers with one more
pub take_next : (xs : List ℕ) (k : ℕ) → k < length xs → take (k + 1) xs ≡ take k xs ++ get_or xs k 0 ∷ []
take_next xs k l = rw (add-one k) (take-suc xs k 0 l)

pub take_set_next : (xs : List ℕ) (k v : ℕ) → k < length xs → take (k + 1) (set xs k v) ≡ take k xs ++ v ∷ []
take_set_next xs k v l = rw (add-one k) (take-suc-set xs k v l)

module _ {L H : List ℕ} (p : Paired L H) where
  -- of the first k + 1 stretches
  pub under_next : (k h : ℕ) → k < length L
      → under (take (k + 1) L) (take (k + 1) H) h
      ≡ cond (ltb h (get_or L k 0)) (under (take k L) (take k H) h) (ltb h (get_or H k 0))
  under_next k h inside =
      let low-size = length-take-le k L (omega arith) in
      let high-size = length-take-le k H (omega (arith, p.as_many)) in
      rw (take_next L k inside, take_next H k (omega (arith, p.as_many)))
      (under_last (take k L) (take k H) (get_or L k 0) (get_or H k 0) h (p.forward k inside) (omega arith)
      (λ i l. let t : i < k = omega arith in rw (get_or-take k L i 0 t) (p.low_rises.order i k t inside))
      (λ i l. let t : i < k = omega arith in
      rw (get_or-take k H i 0 t) (p.high_rises.order i k t (omega (arith, p.as_many)))))

-- ---- what is written so far

pub all_apart : {lows highs : List ℕ} {n : ℕ} → Apart lows highs n → (i j : ℕ) → i < j → j < n
    → get_or highs i 0 < get_or lows j 0
all_apart a i zero l l' = absurd (omega arith)
all_apart {lows} {highs} a i (suc j) l l' =
    let there : get_or highs j 0 < get_or lows (suc j) 0 = rw (add-one j) at (a.gap j (omega arith)) in
    elim (ℕ_discrete i j) [
      | yes e ↦ rw e there
      | no n ↦ omega (arith, there, all_apart a i j (omega arith) (omega arith), a.forward j (omega arith))
    ]

module _ {L H : List ℕ} {lows highs : List ℕ} {used k : ℕ} (u : Uniting L H lows highs used k) where
  -- ends that are no less than those of the last stretch are no less than all
  lows-until : (a : ℕ) → get_or lows (used - 1) 0 ≤ a → (i : ℕ) → i < used → get_or lows i 0 ≤ a
  lows-until a most i l =
      elim (ℕ_discrete i (used - 1)) [
        | yes e ↦ rw e most
        | no apart ↦
            let next = all_apart u.apart i (used - 1) (omega arith) (omega (arith, u.some)) in
            omega (arith, u.apart.forward i l, next)
      ]

  highs-until : (b : ℕ) → get_or highs (used - 1) 0 ≤ b → (i : ℕ) → i < used → get_or highs i 0 ≤ b
  highs-until b most i l =
      elim (ℕ_discrete i (used - 1)) [
        | yes e ↦ rw e most
        | no apart ↦
            let last = u.apart.forward (used - 1) (omega (arith, u.some)) in
            omega (arith, last, all_apart u.apart i (used - 1) (omega arith) (omega (arith, u.some)))
      ]

  low-size : (m : ℕ) → m ≤ used → length (take m lows) ≡ m
  low-size m l = length-take-le m lows (omega (arith, u.fewer, u.within, u.low_room))

-- the last written stretch, with its right end at g or further at v, and one from l on that touches it
joined-tests : (b : Bool) (h : ℕ) {x l g v : ℕ} → x ≤ l → l ≤ g → g ≤ v
    → cond (ltb h x) b (ltb h v) ≡ cond (ltb h l) (cond (ltb h x) b (ltb h g)) (ltb h v)
joined-tests b h {x} {l} {g} {v} xl lg gv =
    elim (dec_lt h x) [
      | yes t ↦ rw (lt-ltb h x t, lt-ltb h l (omega arith))
      | no t ↦
          elim (dec_lt h l) [
            | yes o ↦ rw (le-ltb h x (omega arith), lt-ltb h l o, lt-ltb h g (omega arith), lt-ltb h v (omega arith))
            | no o ↦ rw (le-ltb h x (omega arith), le-ltb h l (omega arith))
          ]
    ]

-- ---- one stretch more

module _ {L H : List ℕ} (p : Paired L H) {lows highs : List ℕ} {used k : ℕ} (u : Uniting L H lows highs used k)
    (inside : k < length L) {v : ℕ} (read : v ≡ get_or highs k 0) where
  high-here : v ≡ get_or H k 0
  high-here = read ∙ u.high_rest k (omega arith)

  high-order : get_or highs (used - 1) 0 ≤ v
  high-order =
      omega (
        arith,
        u.high_last,
        high-here,
        p.high_rises.order (k - 1) k (omega (arith, u.some, u.fewer)) (omega (arith, p.as_many)),
      )

  low-order : get_or lows (used - 1) 0 ≤ get_or L k 0
  low-order =
      omega (arith, u.low_last, p.low_rises.order (k - 1) k (omega (arith, u.some, u.fewer)) inside)

  high_room : used - 1 < length highs
  high_room = omega (arith, u.fewer, u.some, u.high_room, p.as_many)

  -- under what is written, with the last right end at g
  under_to : (h g : ℕ) (hs : List ℕ) → take used hs ≡ take (used - 1) highs ++ g ∷ [] → get_or highs (used - 1) 0 ≤ g
      → under (take used lows) (take used hs) h
      ≡ cond (ltb h (get_or lows (used - 1) 0)) (under (take (used - 1) lows) (take (used - 1) highs) h) (ltb h g)
  under_to h g hs shape order =
      let all : used ≡ used - 1 + 1 = omega (arith, u.some) in
      let front : take used lows ≡ take (used - 1) lows ++ get_or lows (used - 1) 0 ∷ [] =
      ap (λ (n : ℕ). take n lows) all ∙ take_next lows (used - 1) (omega (arith, u.fewer, u.some, u.low_room)) in
      let size = low-size u (used - 1) (omega arith) in
      let size' = length-take-le (used - 1) highs (omega (arith, high_room)) in
      let forward = u.apart.forward (used - 1) (omega (arith, u.some)) in
      rw (front, shape)
      (under_last (take (used - 1) lows) (take (used - 1) highs) (get_or lows (used - 1) 0) g h (omega arith)
      (omega arith)
      (λ i l. let t : i < used - 1 = omega arith in
      rw (get_or-take (used - 1) lows i 0 t) (lows-until u (get_or lows (used - 1) 0) (omega arith) i (omega arith)))
      (λ i l. let t : i < used - 1 = omega arith in
      rw (get_or-take (used - 1) highs i 0 t) (highs-until u g order i (omega arith))))

  pub uniting-joined : get_or lows k 0 ≤ get_or highs (used - 1) 0 → Uniting L H lows (set highs (used - 1) v) used (k + 1)
  uniting-joined touches =
      let it : (i : ℕ) → (i ≡ used - 1 → ⊥) → get_or (set highs (used - 1) v) i 0 ≡ get_or highs i 0 =
      λ i n. get_or-set_other highs (used - 1) i v 0 n in
      let written : get_or (set highs (used - 1) v) (used - 1) 0 ≡ v = get_or-set_same highs (used - 1) v 0 high_room in
      let back : k + 1 - 1 ≡ k = omega arith in
      let forward-last = u.apart.forward (used - 1) (omega (arith, u.some)) in
      record {
        some = u.some;
        fewer = omega (arith, u.fewer);
        within = omega arith;
        low_room = u.low_room;
        high_room = length-set highs (used - 1) v ∙ u.high_room;
        low_rest = λ i l. u.low_rest i (omega arith);
        high_rest = λ i l. it i (λ e. omega (arith, u.fewer, u.some)) ∙ u.high_rest i (omega arith);
        low_last = rw back low-order;
        high_last = rw (back, written) high-here;
        apart = record {
          gap = λ i l. rw (it i (λ e. omega arith)) (u.apart.gap i l);
          forward = λ i l.
              elim (ℕ_discrete i (used - 1)) [
                | yes e ↦ rw (e, written) (omega (arith, forward-last, high-order))
                | no n ↦ rw (it i n) (u.apart.forward i l)
              ];
        };
        ranks = λ h.
            omega (arith, u.ranks h, rank-last h (take k L) (get_or L k 0), ap (rank h) (take_next L k inside));
        same = same-joined;
      }
    where
      all : used ≡ used - 1 + 1
      all = omega (arith, u.some)

      touched : get_or L k 0 ≤ get_or highs (used - 1) 0
      touched = omega (arith, u.low_rest k (omega arith))

      same-joined : (h : ℕ)
          → under (take used lows) (take used (set highs (used - 1) v)) h ≡ under (take (k + 1) L) (take (k + 1) H) h
      same-joined h =
          let g = get_or highs (used - 1) 0 in
          let new = under_to h v (set highs (used - 1) v)
          (ap (λ (n : ℕ). take n (set highs (used - 1) v)) all ∙ take_set_next highs (used - 1) v high_room)
          high-order in
          let old = under_to h g highs
          (ap (λ (n : ℕ). take n highs) all ∙ take_next highs (used - 1) high_room) (omega arith) in
          new ∙ joined-tests (under (take (used - 1) lows) (take (used - 1) highs) h) h low-order touched high-order
          ∙ rw (← old, u.same h, high-here) (sym (under_next p k h inside))

  pub uniting-apart : {w : ℕ} → w ≡ get_or lows k 0 → get_or highs (used - 1) 0 < w
      → Uniting L H (set lows used w) (set highs used v) (used + 1) (k + 1)
  uniting-apart {w} low_read gap =
      record {
        some = omega arith;
        fewer = omega (arith, u.fewer);
        within = omega arith;
        low_room = length-set lows used w ∙ u.low_room;
        high_room = length-set highs used v ∙ u.high_room;
        low_rest = λ i l. low-other i (λ e. omega (arith, u.fewer)) ∙ u.low_rest i (omega arith);
        high_rest = λ i l. high-other i (λ e. omega (arith, u.fewer)) ∙ u.high_rest i (omega arith);
        low_last = rw (back, last, low-written) (omega (arith, low-here));
        high_last = rw (back, last, high-written) high-here;
        apart = record {
          gap = λ i l.
              elim (ℕ_discrete (i + 1) used) [
                | yes e ↦
                    let before : i ≡ used - 1 = omega arith in
                    rw (e, low-written, high-other i (λ n. omega arith), before) gap
                | no n ↦ rw (high-other i (λ e. omega arith), low-other (i + 1) n) (u.apart.gap i (omega arith))
              ];
          forward = λ i l.
              elim (ℕ_discrete i used) [
                | yes e ↦
                    rw (e, low-written, high-written) (omega (arith, low-here, high-here, p.forward k inside))
                | no n ↦ rw (low-other i n, high-other i n) (u.apart.forward i (omega arith))
              ];
        };
        ranks = λ h.
            rw (take_set_next lows used w low_room, take_next L k inside, rank-last h (take used lows) w)
            (rw (rank-last h (take k L) (get_or L k 0), low-here) (omega (arith, u.ranks h)));
        same = same-apart;
      }
    where
      back : k + 1 - 1 ≡ k
      back = omega arith

      last : used + 1 - 1 ≡ used
      last = omega arith

      low-here : w ≡ get_or L k 0
      low-here = low_read ∙ u.low_rest k (omega arith)

      low_room : used < length lows
      low_room = omega (arith, u.fewer, u.low_room)

      room : used < length highs
      room = omega (arith, u.fewer, u.high_room, p.as_many)

      low-written : get_or (set lows used w) used 0 ≡ w
      low-written = get_or-set_same lows used w 0 low_room

      high-written : get_or (set highs used v) used 0 ≡ v
      high-written = get_or-set_same highs used v 0 room

      low-other : (i : ℕ) → (i ≡ used → ⊥) → get_or (set lows used w) i 0 ≡ get_or lows i 0
      low-other i n = get_or-set_other lows used i w 0 n

      high-other : (i : ℕ) → (i ≡ used → ⊥) → get_or (set highs used v) i 0 ≡ get_or highs i 0
      high-other i n = get_or-set_other highs used i v 0 n

      same-apart : (h : ℕ)
          → under (take (used + 1) (set lows used w)) (take (used + 1) (set highs used v)) h
          ≡ under (take (k + 1) L) (take (k + 1) H) h
      same-apart h =
          let size = low-size u used (omega arith) in
          let size' = length-take-le used highs (omega arith) in
          let forward : w ≤ v = omega (arith, low-here, high-here, p.forward k inside) in
          rw (take_set_next lows used w low_room, take_set_next highs used v room)
          (under_last (take used lows) (take used highs) w v h forward (omega arith)
          (λ i l. let t : i < used = omega arith in
          rw (get_or-take used lows i 0 t) (lows-until u w (omega (arith, low-here, low-order)) i t))
          (λ i l. let t : i < used = omega arith in rw (get_or-take used highs i 0 t) (highs-until u v high-order i t))
          ∙ rw (u.same h, low-here, high-here) (sym (under_next p k h inside)))
