-- Numbers counted by a test, over plain numbers.
--     tally-agrees, tally-joined     tests that agree count alike; where each number passes one of two, both together
--     tally-between                  tests that agree from a to b count alike there
--     tally-none, tally-all          from a to b none passes, or each
--     tally-empty                    none passes
--     within-true, within-before, within-behind     the test for a stretch: in it, before it, behind it
--     tally-within                   a stretch has as many numbers as it is long
--     tally-at-most                  no more than there are
--     tally-counts                   the tally is the number of numbers that pass, each counted once
-- Assumes nothing.
use Prim.Native.Nat.{ℕ, zero, suc, ◌+◌, ◌-◌, ◌≤◌, ◌<◌}
use mathlib.Core.Bool.{Bool, true, false, cond, and-false}
use mathlib.Core.Logic.{◌↔◌, ⊎_elim, ◌≢◌}
use mathlib.Core.Path.{◌≡◌, refl}
use mathlib.Core.List.Memᴰ
use mathlib.Core.List.{List, [], ◌∷◌}
use mathlib.Core.List.Memᴰ.{head as here}
use mathlib.Core.List.Memᴰ.{tail as there}
use native.Mathlib.Omega.{arith}
use native.Mathlib.Decide.{dec_lt, ℕ_discrete}
use native.Mathlib.Nat.{add-zero}
use borrow.Author.Tests.{lt-ltb, le-ltb, le-leb, lt-leb}
use lib.ListN.{length}
use lib.Dec.{leb}
use Rattle.refinement.specs.Order.{◌∈◌, Distinct}
use Rattle.refinement.proofs.Lists.{pigeonhole}
use Rattle.table.specs.Covering.{CountedOnce}
use Rattle.table.specs.Tally.{within, tally}
use Rattle.table.proofs.Pieces.{never_both}

-- ---- two tests, three tests

pub tally-agrees : (f g : ℕ → Bool) (n : ℕ) → ((h : ℕ) → h < n → f h ≡ g h) → tally f n ≡ tally g n
unfolding tally
tally-agrees f g zero same = refl
tally-agrees f g (suc n) same = rw (same n (omega arith), tally-agrees f g n (λ h l. same h (omega arith)))

pub tally-joined : (f g u : ℕ → Bool) (n : ℕ)
    → ((h : ℕ) → h < n → cond (f h) 1 0 + cond (g h) 1 0 ≡ cond (u h) 1 0) → tally f n + tally g n ≡ tally u n
unfolding tally
tally-joined f g u zero same = refl
tally-joined f g u (suc n) same =
    omega (arith, same n (omega arith), tally-joined f g u n (λ h l. same h (omega arith)))

-- ---- from a to b

pub tally-between : (f g : ℕ → Bool) (a b : ℕ) → a ≤ b → ((h : ℕ) → a ≤ h → h < b → f h ≡ g h)
    → tally f b + tally g a ≡ tally g b + tally f a
unfolding tally
tally-between f g a b order same =
    let reached : a + (b - a) ≡ b = omega arith in
    rw reached at (go (b - a) (λ h l l'. same h l (omega arith)))
  where
    go : (k : ℕ) → ((h : ℕ) → a ≤ h → h < a + k → f h ≡ g h) → tally f (a + k) + tally g a ≡ tally g (a + k) + tally f a
    go zero same = rw (add-zero a) (omega arith)
    go (suc k) same =
        let next : a + suc k ≡ suc (a + k) = omega arith in
        rw (next, same (a + k) (omega arith) (omega arith)) (omega (arith, go k (λ h l l'. same h l (omega arith))))

tally-false : (k : ℕ) → tally (λ _. false) k ≡ 0
unfolding tally
tally-false zero = refl
tally-false (suc k) = omega (arith, tally-false k)

tally-true : (k : ℕ) → tally (λ _. true) k ≡ k
unfolding tally
tally-true zero = refl
tally-true (suc k) = omega (arith, tally-true k)

module _ (f : ℕ → Bool) (a b : ℕ) (order : a ≤ b) where
  pub tally-none : ((h : ℕ) → a ≤ h → h < b → f h ≡ false) → tally f b ≡ tally f a
  tally-none none = omega (arith, tally-between f (λ _. false) a b order none, tally-false a, tally-false b)

  pub tally-all : ((h : ℕ) → a ≤ h → h < b → f h ≡ true) → tally f b ≡ tally f a + (b - a)
  tally-all all = omega (arith, tally-between f (λ _. true) a b order all, tally-true a, tally-true b)

pub tally-empty : (f : ℕ → Bool) (n : ℕ) → ((h : ℕ) → h < n → f h ≡ false) → tally f n ≡ 0
unfolding tally
tally-empty f n none = tally-none f 0 n (omega arith) (λ h l l'. none h l')

pub within-true : (a b h : ℕ) → a ≤ h → h < b → within a b h ≡ true
within-true a b h l l' = rw (le-leb a h l, lt-ltb h b l')

pub within-before : (a b h : ℕ) → h < a → within a b h ≡ false
within-before a b h l = rw (lt-leb a h l)

pub within-behind : (a b h : ℕ) → b ≤ h → within a b h ≡ false
within-behind a b h l = rw (le-ltb h b l) (and-false (leb a h))

pub tally-within : (a b n : ℕ) → b ≤ n → tally (within a b) n ≡ b - a
tally-within a b n inside =
    let none = tally-empty (within a b) a (λ h l. within-before a b h l) in
    elim (dec_lt a b) [
      | yes l ↦
          let all = tally-all (within a b) a b (omega arith) (λ h l l'. within-true a b h l l') in
          let rest = tally-none (within a b) b n inside (λ h l l'. within-behind a b h l) in
          omega (arith, none, all, rest)
      | no l ↦
          let apart : (h : ℕ) → h < n → within a b h ≡ false =
          λ h l'. elim (dec_lt h a) [ yes t ↦ within-before a b h t | no t ↦ within-behind a b h (omega arith) ]
          in
          omega (arith, tally-empty (within a b) n apart)
    ]

pub tally-at-most : (f : ℕ → Bool) (n : ℕ) → tally f n ≤ n
unfolding tally
tally-at-most f zero = omega arith
tally-at-most f (suc n) = go (f n) (tally-at-most f n)
  where
    go : (b : Bool) → tally f n ≤ n → cond b 1 0 + tally f n ≤ suc n
    go true l = omega arith
    go false l = omega arith

-- ---- the numbers that pass, from the largest on

unfoldable passing : (ℕ → Bool) → ℕ → List ℕ
passing f zero = []
passing f (suc n) = cond (f n) (n ∷ passing f n) (passing f n)

passing-length : (f : ℕ → Bool) (n : ℕ) → length (passing f n) ≡ tally f n
unfolding passing tally
passing-length f zero = refl
passing-length f (suc n) = go (f n) (passing-length f n)
  where
    go : (b : Bool) → length (passing f n) ≡ tally f n
        → length (cond b (n ∷ passing f n) (passing f n)) ≡ cond b 1 0 + tally f n
    go true e = omega arith
    go false e = omega arith

passing-of : (f : ℕ → Bool) (n : ℕ) {h : ℕ} → h ∈ passing f n → (h < n) × (f h ≡ true)
unfolding passing
passing-of f zero i = absurd (Memᴰ.not-nil i)
passing-of f (suc n) {h} i = go (f n) refl i (λ j. let o = passing-of f n j in (omega (arith, o.0), o.1))
  where
    go : (b : Bool) → f n ≡ b → h ∈ cond b (n ∷ passing f n) (passing f n)
        → (h ∈ passing f n → (h < suc n) × (f h ≡ true)) → (h < suc n) × (f h ≡ true)
    go true e j later = ⊎_elim (λ q. (omega arith, rw q e)) later (Memᴰ.cases_cons j)
    go false e j later = later j

passing-all : (f : ℕ → Bool) (n : ℕ) {h : ℕ} → h < n → f h ≡ true → h ∈ passing f n
unfolding passing
passing-all f zero l e = absurd (omega arith)
passing-all f (suc n) {h} l e = go (f n) refl (λ apart. passing-all f n (omega arith) e)
  where
    go : (b : Bool) → f n ≡ b → ((h ≡ n → ⊥) → h ∈ passing f n) → h ∈ cond b (n ∷ passing f n) (passing f n)
    go true _ before = elim (ℕ_discrete h n) [ yes q ↦ here q | no apart ↦ there (before apart) ]
    go false o before = before (λ q. never_both e (rw q o))

passing-once : (f : ℕ → Bool) (n : ℕ) → Distinct (passing f n)
unfolding passing
passing-once f zero = tt
passing-once f (suc n) = go (f n) (passing-once f n)
  where
    apart : (h : ℕ) → h ∈ passing f n → n ≢ h
    apart h i e = omega (arith, (passing-of f n i).0)

    go : (b : Bool) → Distinct (passing f n) → Distinct (cond b (n ∷ passing f n) (passing f n))
    go true once = (apart, once)
    go false once = once

-- f is the test for P, and nothing from n on passes it
pub tally-counts : {P : ℕ → Type 0} (f : ℕ → Bool) (n : ℕ) → ((h : ℕ) → (f h ≡ true) ↔ P h)
    → ((h : ℕ) → f h ≡ true → h < n) → CountedOnce P (tally f n)
tally-counts {P} f n test few =
    record {
      letters = passing f n;
      once = passing-once f n;
      just = listed;
      many = passing-length f n;
      every = λ hs once just.
          let there-too = pigeonhole hs (passing f n) once (λ h i. (listed h).1 ((just h).0 i)) in
          let here-too = pigeonhole (passing f n) hs (passing-once f n) (λ h i. (just h).1 ((listed h).0 i)) in
          omega (arith, there-too, here-too, passing-length f n);
    }
  where
    listed : (h : ℕ) → (h ∈ passing f n) ↔ P h
    listed h = (λ i. (test h).0 (passing-of f n i).1, λ o. let e = (test h).1 o in passing-all f n (few h e) e)
