-- The parts of a work buffer for n rows: the fourth is lent for sorting, the second for places, and the first for the
-- order of A.
--     spare_lent, places_lent     the buffer once the fourth part was lent, and then the second
--     spare-long, places-long   lending keeps its length
--     places-room, order-room   the parts that are lent have n numbers
--     order-part, places-part, held-part     what the parts are once the first was lent too
-- Assumes nothing.
use Prim.Native.Nat.{ℕ, ◌+◌, ◌-◌, ◌*◌, ◌≤◌}
use mathlib.Core.Path.{◌≡◌, ap, sym, ◌∙◌}
use mathlib.Core.List.{List, ◌++◌}
use native.Mathlib.Omega.{arith}
use lib.ListN.{length, take, drop, length-drop, take-append-drop}
use lib.Seq.{length-take-le, take_at, drop_at, take-append-le, drop-append-le, drop-drop}
use borrow.Rule.Slice.PartMut.{mid_of, put_mid, same_len_mid, mid_len, drop_put}

-- what stands in the front of two lists
front-part : (xs ys : List ℕ) (a n : ℕ) → a + n ≤ length xs → take n (drop a (xs ++ ys)) ≡ take n (drop a xs)
front-part xs ys a n h =
    let l : n ≤ length (drop a xs) = simp length-drop (omega arith) in
    rw (drop-append-le a xs ys (omega arith), take-append-le n (drop a xs) ys l)

-- the fourth part is lent
abbrev pub spare_lent : ℕ → List ℕ → List ℕ → List ℕ
spare_lent n work spare = put_mid (3 * n) (4 * n - 3 * n) work spare

-- the second part is lent
abbrev pub places_lent : ℕ → List ℕ → List ℕ → List ℕ
places_lent n work places = put_mid n (2 * n - n) work places

module _ (n : ℕ) (work : List ℕ) (room : 4 * n ≤ length work) (spare : List ℕ)
    (spare-as : length spare ≡ length (mid_of (3 * n) (4 * n - 3 * n) work)) where
  pub spare-long : length (spare_lent n work spare) ≡ length work
  spare-long = same_len_mid (3 * n) (4 * n - 3 * n) work spare spare-as

  pub places-room : length (mid_of n (2 * n - n) (spare_lent n work spare)) ≡ n
  places-room = mid_len n (2 * n) (spare_lent n work spare) (omega (arith, spare-long)) ∙ omega arith

  -- the third part is as it was
  held-spare : take n (drop (2 * n) (spare_lent n work spare)) ≡ take n (drop (2 * n) work)
  held-spare =
      let front = take (3 * n) work in
      let long = length-take-le (3 * n) work (omega arith) in
      front-part front (spare ++ drop (4 * n - 3 * n) (drop (3 * n) work)) (2 * n) n (omega arith)
      ∙ sym (front-part front (drop (3 * n) work) (2 * n) n (omega arith))
      ∙ ap (λ l. take n (drop (2 * n) l)) (take-append-drop (3 * n) work)

  module _ (places : List ℕ) (places-as : length places ≡ length (mid_of n (2 * n - n) (spare_lent n work spare))) where
    -- the buffer once both were lent
    abbrev both : List ℕ
    both = places_lent n (spare_lent n work spare) places

    pub places-long : length both ≡ length work
    places-long = same_len_mid n (2 * n - n) (spare_lent n work spare) places places-as ∙ spare-long

    pub order-room : length (take n both) ≡ n
    order-room = length-take-le n both (omega (arith, places-long))

    module _ (order : List ℕ) (order-as : length order ≡ length (take n both)) where
      pub order-part : {d : ℕ} → d ≤ n → take d (order ++ drop n both) ≡ take d order
      order-part {d} h = take-append-le d order (drop n both) (omega (arith, order-as, order-room))

      -- behind the order nothing changes
      behind : drop n (order ++ drop n both) ≡ drop n both
      behind = drop_at order (drop n both) n (order-as ∙ order-room)

      pub places-part : take n (drop n (order ++ drop n both)) ≡ places
      places-part =
          let front = take n (spare_lent n work spare) in
          let post = drop (2 * n - n) (drop n (spare_lent n work spare)) in
          let long = length-take-le n (spare_lent n work spare) (omega (arith, spare-long)) in
          ap (take n) (behind ∙ drop_at front (places ++ post) n long)
          ∙ take_at places post n (places-as ∙ places-room)

      pub held-part : take n (drop (2 * n) (order ++ drop n both)) ≡ take n (drop (2 * n) work)
      held-part =
          let twice : n + n ≡ 2 * n = omega arith in
          let past : (xs : List ℕ) → drop n (drop n xs) ≡ drop (2 * n) xs = λ xs.
          drop-drop n n xs ∙ ap (λ k. drop k xs) twice
          in
          ap (take n)
          (sym (past (order ++ drop n both))
          ∙ ap (drop n) behind
          ∙ past both
          ∙ drop_put n (2 * n) (spare_lent n work spare) places (omega arith) (omega (arith, spare-long))
          (places-as ∙ mid_len n (2 * n) (spare_lent n work spare) (omega (arith, spare-long))))
          ∙ held-spare
