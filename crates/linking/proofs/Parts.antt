-- The parts of the work buffer for n rows, when one of them is written.
--     lent_in, lent-held                              the part of the best rows, as it is lent
--     links-many, held-many                          how many numbers a part has
--     link-read                                      a link, as it is read
--     written-order, written-links, written_held     a link is written
--     renewed                                        the part of the best rows was lent, and comes back
--     renewed-length, renewed-order, renewed-links, renewed-held
--                                                    the other parts stay
-- Assumes nothing.
use Prim.Native.Nat.{ℕ, zero, suc, ◌+◌, ◌-◌, ◌*◌, ◌≤◌, ◌<◌}
use mathlib.Core.Path.{◌≡◌, refl, sym, ap, ◌∙◌}
use mathlib.Core.List.{List, [], ◌∷◌, ◌++◌}
use native.Mathlib.Omega.{arith}
use lib.ListN.{length, get_or, take, drop, set, length-append, length-drop}
use lib.Seq.{length-take-le, take-take, take_at, drop_at, take-append-le, drop-append-le}
use lib.Seq.{get_or-take, get_or-drop, take-set-le, take-set-lt, drop-set-lt, drop-set-add}
use Rattle.walking.specs.Trail.{link_at}
use Rattle.linking.specs.Linking.{links_in, held_in}

-- a part of the front
part-take : (a k m : ℕ) (xs : List ℕ) → a + k ≤ m → take k (drop a (take m xs)) ≡ take k (drop a xs)
part-take zero k m xs l = take-take k m xs (omega arith)
part-take (suc a) k zero xs l = absurd (omega arith)
part-take (suc a) k (suc m) [] l = refl
part-take (suc a) k (suc m) (x ∷ xs) l = part-take a k m xs (omega arith)

module _ (n : ℕ) (work : List ℕ) where
  -- from 2 * n up to 3 * n
  abbrev pub lent_in : List ℕ
  lent_in = take (3 * n - 2 * n) (drop (2 * n) work)

  pub lent-held : lent_in ≡ held_in n work
  lent-held = let size : 3 * n - 2 * n ≡ n = omega arith in rw size

  module _ (room : 4 * n ≤ length work) where
    pub links-many : length (links_in n work) ≡ n
    links-many = length-take-le n (drop n work) (rw (length-drop n work) (omega arith))

    pub held-many : length (held_in n work) ≡ n
    held-many = length-take-le n (drop (2 * n) work) (rw (length-drop (2 * n) work) (omega arith))

  pub link-read : (k : ℕ) → 1 ≤ k → k ≤ n → get_or work (n + k - 1) 0 ≡ link_at (links_in n work) k
  link-read k some le =
      let place : n + (k - 1) ≡ n + k - 1 = omega arith in
      let link = get_or-take n (drop n work) (k - 1) 0 (omega arith) ∙ get_or-drop n work (k - 1) 0 in
      sym (rw place at link)

module _ (n : ℕ) (work : List ℕ) (k v : ℕ) (below : k < n) where
  pub written-order : take n (set work (n + k) v) ≡ take n work
  written-order = take-set-le n work (n + k) v (omega arith)

  pub written-links : links_in n (set work (n + k) v) ≡ set (links_in n work) k v
  written-links = rw (drop-set-add n work k v) (take-set-lt n (drop n work) k v below)

  pub written_held : held_in n (set work (n + k) v) ≡ held_in n work
  written_held = ap (take n) (drop-set-lt (2 * n) work (n + k) v (omega arith))

-- the part from 2 * n up to 3 * n has new numbers
abbrev pub renewed : ℕ → List ℕ → List ℕ → List ℕ
renewed n work held = take (2 * n) work ++ (held ++ drop (3 * n - 2 * n) (drop (2 * n) work))

module _ (n : ℕ) (work held : List ℕ) (room : 4 * n ≤ length work) (size : length held ≡ n) where
  -- what stands before the part
  front : length (take (2 * n) work) ≡ 2 * n
  front = length-take-le (2 * n) work (omega arith)

  -- and behind it
  abbrev behind : List ℕ
  behind = drop (3 * n - 2 * n) (drop (2 * n) work)

  pub renewed-length : length (renewed n work held) ≡ length work
  renewed-length = simp (length-append, length-drop) (omega (arith, front))

  pub renewed-order : take n (renewed n work held) ≡ take n work
  renewed-order =
      take-append-le n (take (2 * n) work) (held ++ behind) (omega (arith, front))
      ∙ take-take n (2 * n) work (omega arith)

  pub renewed-links : links_in n (renewed n work held) ≡ links_in n work
  renewed-links =
      rw (drop-append-le n (take (2 * n) work) (held ++ behind) (omega (arith, front)))
      (take-append-le n (drop n (take (2 * n) work)) (held ++ behind)
      (rw (length-drop n (take (2 * n) work)) (omega (arith, front)))
      ∙ part-take n n (2 * n) work (omega arith))

  pub renewed-held : held_in n (renewed n work held) ≡ held
  renewed-held = rw (drop_at (take (2 * n) work) (held ++ behind) (2 * n) front) (take_at held behind n size)
