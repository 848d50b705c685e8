-- Indexes one behind the other in one list.
--     part-indexed         what one group's index changes, as the part that was lent comes back
--     group-within         a group ends where it starts or behind that, and within the matches
--     Made                 the loop's invariant: the groups before one have their indexes
--     made_none, made_more, made_all     where it begins, one group more, and where it ends
-- Assumes nothing.
use Prim.Native.Nat.{ℕ, zero, suc, ◌+◌, ◌-◌, ◌*◌, ◌≤◌, ◌<◌}
use mathlib.Core.Path.{◌≡◌, refl, sym, ap, ◌∙◌}
use mathlib.Core.Bool.{Bool, true, false, cond}
use mathlib.Core.Logic.{inr}
use mathlib.Core.List.{List, [], ◌∷◌, ◌++◌}
use native.Mathlib.Omega.{arith}
use native.Mathlib.Decide.{ℕ_discrete}
use lib.ListN.{length, get_or, take, drop, length-append, length-drop}
use lib.Seq.{length-take-le, take-take, take_at, drop_at}
use lib.Dec.{ltb}
use borrow.Author.Tests.{ltb-false}
use Rattle.arrangement.specs.Index.{index_room, Indexed}
use Rattle.tracks.specs.Groups.{start_at, Groups, part}
use Rattle.tracks.proofs.Grouped.{start-count, part_length}
use Rattle.carrying_lane.specs.Parts.{place_in, UsableParts}
use Rattle.indexing_groups.specs.Parts.{IndexedPart}

-- a part of what stands in front of a place, which stays as it is when the front does
part-take : (a k m : ℕ) (xs : List ℕ) → a + k ≤ m → take k (drop a (take m xs)) ≡ take k (drop a xs)
part-take zero k m xs l = take-take k m xs (omega arith)
part-take (suc a) k zero xs l = absurd (omega arith)
part-take (suc a) k (suc m) [] l = refl
part-take (suc a) k (suc m) (x ∷ xs) l = part-take a k m xs (omega arith)

part-kept : (a e m : ℕ) (xs ys : List ℕ) → a ≤ e → e ≤ m → take m ys ≡ take m xs → part a e ys ≡ part a e xs
part-kept a e m xs ys o l same =
    sym (part-take a (e - a) m ys (omega arith))
    ∙ (ap (part a e) same ∙ part-take a (e - a) m xs (omega arith))

-- a part of the list is lent, and comes back with new numbers
module _ (low high : ℕ) (is ys : List ℕ) (order : low ≤ high) (within : high ≤ length is) (size : length ys ≡ high - low)
  where
    abbrev rest : List ℕ
    rest = drop (high - low) (drop low is)

    abbrev renewed : List ℕ
    renewed = take low is ++ (ys ++ rest)

    front : length (take low is) ≡ low
    front = length-take-le low is (omega arith)

    renewed-size : length renewed ≡ length is
    renewed-size =
        omega (
          arith,
          front,
          length-append (take low is) (ys ++ rest),
          length-append ys rest,
          length-drop (high - low) (drop low is),
          length-drop low is,
        )

    renewed-before : take low renewed ≡ take low is
    renewed-before = take_at (take low is) (ys ++ rest) low front

    renewed-part : part low high renewed ≡ ys
    renewed-part =
        rw (drop_at (take low is) (ys ++ rest) low front)
        (take_at ys rest (high - low) size)

-- the part that is lent for the matches from start to end comes back as their index
pub part-indexed :
    {start end low high : ℕ} (is ys f g : List ℕ) → low ≡ index_room start → high ≡ index_room end → start ≤ end
    → high ≤ length is → length ys ≡ length (part low high is) → Indexed ys (part start end f) (part start end g)
    → IndexedPart is start end f g (take low is ++ (ys ++ drop (high - low) (drop low is)))
part-indexed {start} {end} {low} {high} is ys f g from to order within e made =
    let rises : low ≤ high = omega (arith, order, from, to) in
    let size : length ys ≡ high - low = e ∙ part_length low high is within in
    record {
      size = renewed-size low high is ys rises within size;
      before = rw (sym from) (renewed-before low high is ys rises within size);
      made = rw (sym from, sym to, renewed-part low high is ys rises within size) made;
    }

-- where the next group starts, as the code reads it
next_start : (gs : List ℕ) (g : ℕ) → get_or gs (3 * g + 3) 0 ≡ start_at gs (suc g)
next_start gs g = let e : 3 * g + 3 ≡ 3 * suc g = omega arith in ap (λ (k : ℕ). get_or gs k 0) e

-- so a group's matches are some of all matches
pub group-within :
    {gs : List ℕ} {k n count sets : ℕ} → Groups gs n count sets → k < n
    → (start_at gs k ≤ get_or gs (3 * k + 3) 0) × (get_or gs (3 * k + 3) 0 ≤ count)
group-within {gs} {k} s l = rw (next_start gs k) (s.rising k l, start-count s (suc k) l)

-- the first k groups have their indexes, each behind those before it
pub record Made (is gs f g : List ℕ) (k places : ℕ) : Type 0 where
  pub size : length is ≡ places
  pub behind : (a : ℕ) → a < k → start_at gs (suc a) ≤ start_at gs k
  pub each :
      (a : ℕ) → a < k
      → Indexed (part (index_room (start_at gs a)) (index_room (start_at gs (suc a))) is)
      (part (start_at gs a) (start_at gs (suc a)) f) (part (start_at gs a) (start_at gs (suc a)) g)

pub made_none : (is gs f g : List ℕ) → Made is gs f g 0 (length is)
made_none is gs f g = record {
  size = refl;
  behind = λ a l. absurd (omega arith);
  each = λ a l. absurd (omega arith);
}

pub made_more :
    {is gs f g is' : List ℕ} {k n count sets places : ℕ} → Groups gs n count sets → k < n → Made is gs f g k places
    → IndexedPart is (start_at gs k) (get_or gs (3 * k + 3) 0) f g is' → Made is' gs f g (k + 1) places
made_more {is} {gs} {f} {g} {is'} {k} s h m i =
    rw add-one
    (record {
      size = i.size ∙ m.size;
      behind = λ a l. ends a (ℕ_discrete a k) l;
      each = λ a l. indexed a (ℕ_discrete a k) l;
    })
  where
    add-one : k + 1 ≡ suc k
    add-one = omega arith

    ends : (a : ℕ) → Dec (a ≡ k) → a < suc k → start_at gs (suc a) ≤ start_at gs (suc k)
    ends a (yes e) l = omega (arith, ap (λ (z : ℕ). start_at gs (suc z)) e)
    ends a (no e) l = omega (arith, m.behind a (omega arith), s.rising k h)

    indexed :
        (a : ℕ) → Dec (a ≡ k) → a < suc k
        → Indexed (part (index_room (start_at gs a)) (index_room (start_at gs (suc a))) is')
        (part (start_at gs a) (start_at gs (suc a)) f) (part (start_at gs a) (start_at gs (suc a)) g)
    indexed a (yes e) l = rw (e, sym (next_start gs k)) i.made
    indexed a (no e) l =
        let earlier : a < k = omega arith in
        rw (part-kept (index_room (start_at gs a)) (index_room (start_at gs (suc a))) (index_room (start_at gs k)) is is'
        (omega (arith, s.rising a (omega arith))) (omega (arith, m.behind a earlier)) i.before)
        (m.each a earlier)

-- where there are places, and where there are none: then an index that has room takes none
place-in : (places k : ℕ) → index_room k ≤ places → place_in places k ≡ index_room k
place-in places k l = go (ltb 0 places) refl
  where
    go : (b : Bool) → ltb 0 places ≡ b → cond b (index_room k) 0 ≡ index_room k
    go true e = refl
    go false e = omega (arith, ltb-false 0 places e)

pub made_all :
    {is gs f g : List ℕ} {k n count sets places : ℕ} → Groups gs n count sets → n ≤ k → index_room count ≤ places
    → Made is gs f g k places → UsableParts is gs n f g
made_all {is} {gs} {f} {g} {k} {n} s h l m = record {
  order = λ a b. rw (from a b, to a b) (omega (arith, s.rising a b));
  within = λ a b. rw (to a b) (room (suc a) (omega arith));
  usable = λ a b. rw (from a b, to a b) (inr (m.each a (omega arith)));
}
  where
    room : (a : ℕ) → a ≤ n → index_room (start_at gs a) ≤ length is
    room a b = omega (arith, start-count s a b, m.size, l)

    from : (a : ℕ) → a < n → place_in (length is) (start_at gs a) ≡ index_room (start_at gs a)
    from a b = place-in (length is) (start_at gs a) (room a (omega arith))

    to : (a : ℕ) → a < n → place_in (length is) (start_at gs (suc a)) ≡ index_room (start_at gs (suc a))
    to a b = place-in (length is) (start_at gs (suc a)) (room (suc a) (omega arith))
