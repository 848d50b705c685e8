-- Which of two lists of row numbers comes first: `before` tests it, and of two different lists one does.
--     before-tested, tested-before   `Before` and its test
--     before-onward                  what comes before a list that comes before a third comes before the third
--     before-once                    of two lists at most one comes before the other
--     before-other                   a list that does not come before another is the same, or comes behind it
-- Assumes nothing.
use Prim.Native.Nat.{ℕ, ◌<◌}
use mathlib.Core.Path.{◌≡◌, refl, sym, ◌∙◌, ap}
use mathlib.Core.Logic.{◌⊎◌, inl, inr, ⊎_elim}
use mathlib.Core.Bool.{Bool, true, false, ◌&&◌, ◌||◌, false≢true}
use mathlib.Core.List.{List, [], ◌∷◌}
use native.Mathlib.Omega.{arith}
use lib.Dec.{ltb, eqb}
use borrow.Author.Tests.{ltb-true, ltb-false, eqb-true, lt-ltb, le-ltb, eq-eqb}
use Rattle.backbone.specs.Chains.{Before, extended, lower, further}
use Rattle.backbone.specs.Backbone.{before}

pub before-tested : {js ks : List ℕ} → Before js ks → before js ks ≡ true
before-tested extended = refl
before-tested (lower {j} {k} l) = rw (lt-ltb j k l)
before-tested (further {k} h) = rw (le-ltb k k (omega arith), eq-eqb k k refl) (before-tested h)

pub tested-before : (js ks : List ℕ) → before js ks ≡ true → Before js ks
tested-before js [] e = absurd (false≢true e)
tested-before [] (k ∷ ks) e = extended
tested-before (j ∷ js) (k ∷ ks) e = go (ltb j k) (eqb j k) refl refl (tested-before js ks) e
  where
    go :
        (a b : Bool) → ltb j k ≡ a → eqb j k ≡ b → (before js ks ≡ true → Before js ks)
        → (a || (b && before js ks)) ≡ true → Before (j ∷ js) (k ∷ ks)
    go true b l q f h = lower (ltb-true j k l)
    go false true l q f h = rw (eqb-true j k q) (further (f h))
    go false false l q f h = absurd (false≢true h)

pub before-onward : {is js ks : List ℕ} → Before is js → Before js ks → Before is ks
before-onward extended (lower m) = extended
before-onward extended (further h) = extended
before-onward (lower {j} l) (lower {k} m) = let h : j < k = omega arith in lower h
before-onward (lower l) (further h) = lower l
before-onward (further g) (lower m) = lower m
before-onward (further g) (further h) = further (before-onward g h)

-- no list comes before itself
itself : (ks : List ℕ) → before ks ks ≡ false
itself [] = refl
itself (k ∷ ks) = rw (le-ltb k k (omega arith), eq-eqb k k refl) (itself ks)

pub before-once : {js ks : List ℕ} → Before js ks → Before ks js → ⊥
before-once {js} g h = false≢true (sym (itself js) ∙ before-tested (before-onward g h))

-- of two different lists one comes first
one-first : (js ks : List ℕ) → ((js ≡ ks) ⊎ Before ks js) ⊎ Before js ks
one-first [] [] = inl (inl refl)
one-first [] (k ∷ ks) = inr extended
one-first (j ∷ js) [] = inl (inr extended)
one-first (j ∷ js) (k ∷ ks) = go (ltb j k) (ltb k j) refl refl (one-first js ks)
  where
    go :
        (a b : Bool) → ltb j k ≡ a → ltb k j ≡ b → ((js ≡ ks) ⊎ Before ks js) ⊎ Before js ks
        → (((j ∷ js) ≡ (k ∷ ks)) ⊎ Before (k ∷ ks) (j ∷ js)) ⊎ Before (j ∷ js) (k ∷ ks)
    go true b l m f = inr (lower (ltb-true j k l))
    go false true l m f = inl (inr (lower (ltb-true k j m)))
    go false false l m f =
        let e : j ≡ k = omega (arith, ltb-false j k l, ltb-false k j m) in
        rw e (⊎_elim (λ g. inl (⊎_elim (λ h. inl (ap (k ∷◌) h)) (λ h. inr (further h)) g)) (λ h. inr (further h)) f)

pub before-other : (js ks : List ℕ) → before js ks ≡ false → (js ≡ ks) ⊎ Before ks js
before-other js ks e = ⊎_elim (λ h. h) (λ h. absurd (false≢true (sym e ∙ before-tested h))) (one-first js ks)
