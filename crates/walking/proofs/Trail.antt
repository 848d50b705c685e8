-- Chains that are written out by their links.
--     trail-unique       the links lead through one chain
--     Onward, onward     a chain that is not at its end begins with its row, and the link of that leads on
--     OnWay              what is written is the front of the chain, and the links lead on through the rest
--     way-there, way-free     while the links lead on, there is a link to read and room to write
--     way-kept           the chain buffer keeps its length
--     way_on             one number more is written
--     way-ends           at 0 the whole chain is written
-- Assumes nothing.
use Prim.Native.Nat.{ℕ, suc, ◌+◌, ◌≤◌, ◌<◌}
use mathlib.Core.Path.{◌≡◌, refl, ap, sym, ◌∙◌}
use mathlib.Core.Logic.{◌≢◌}
use mathlib.Core.List.{List, [], ◌∷◌, ◌++◌, append-nil, append_assoc}
use native.Mathlib.Omega.{arith}
use lib.ListN.{length, get_or, drop, set, length-append, length-drop}
use lib.Seq.{drop-cons, set_at}
use Rattle.walking.specs.Trail.{link_at, Trail, ends, leads, Written}

pub trail-unique : {links : List ℕ} {k : ℕ} {ks js : List ℕ} → Trail links k ks → Trail links k js → ks ≡ js
trail-unique ends ends = refl
trail-unique ends (leads p q t) = absurd (omega arith)
trail-unique (leads p q t) ends = absurd (omega arith)
trail-unique (leads {k} p q t) (leads p' q' t') = ap (k ∷◌) (trail-unique t t')

-- row k is there, and from its link on the links lead through what is behind it
record Onward (links : List ℕ) (k : ℕ) (ks : List ℕ) : Type 0 where
  behind : List ℕ
  split : ks ≡ k ∷ behind
  there : k ≤ length links
  trail : Trail links (link_at links k) behind

onward : {links : List ℕ} {k : ℕ} {ks : List ℕ} → Trail links k ks → k ≢ 0 → Onward links k ks
onward ends z = absurd (z refl)
onward (leads {ks} p q t) z = record { behind = ks; split = refl; there = q; trail = t }

-- a number is written behind the front
one_more :
    (front chain : List ℕ) (k : ℕ) → length front < length chain
    → set (front ++ drop (length front) chain) (length front) k
    ≡ (front ++ k ∷ []) ++ drop (length (front ++ k ∷ [])) chain
one_more front chain k h =
    let m = length front in
    let longer : length (front ++ k ∷ []) ≡ suc m = simp length-append (omega arith) in
    rw (longer, append_assoc, drop-cons chain m 0 h)
    (set_at front (get_or chain m 0) (drop (suc m) chain) k m refl)

pub record OnWay (links : List ℕ) (first : ℕ) (chain chain' : List ℕ) (k n : ℕ) : Type 0 where
  pub front : List ℕ
  pub rest : List ℕ
  pub whole : Trail links first (front ++ rest)
  pub trail : Trail links k rest
  pub count : n ≡ length front
  pub fits : length front + length rest ≤ length chain
  pub made : chain' ≡ front ++ drop (length front) chain

module _ {links chain chain' : List ℕ} {first k n : ℕ} (w : OnWay links first chain chain' k n) where
  pub way-kept : length chain' ≡ length chain
  way-kept = ap length w.made ∙ simp (length-append, length-drop) (omega (arith, w.fits))

  module _ (more : k ≢ 0) where
    pub way-there : k ≤ length links
    way-there = (onward w.trail more).there

    pub way-free : n < length chain
    way-free = omega (arith, w.count, w.fits, ap length (onward w.trail more).split)

    pub way_on : OnWay links first chain (set chain' n k) (link_at links k) (n + 1)
    way_on =
        let o = onward w.trail more in
        record {
          front = w.front ++ k ∷ [];
          rest = o.behind;
          whole = rw append_assoc (rw o.split at w.whole);
          trail = o.trail;
          count = simp length-append (omega (arith, w.count));
          fits = simp length-append (omega (arith, w.fits, ap length o.split));
          made = rw (w.made, w.count) (one_more w.front chain k (omega (arith, way-free, w.count)));
        }

  pub way-ends : k ≡ 0 → Written links first chain chain' n
  way-ends z =
      let none : w.rest ≡ [] = trail-unique (rw z at w.trail) ends in
      record {
        written = λ ks t.
            let same : ks ≡ w.front = trail-unique t w.whole ∙ ap (w.front ++◌) none ∙ append-nil w.front in
            (w.count ∙ ap length (sym same), rw same w.made);
      }
