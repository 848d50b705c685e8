-- Matches, or marks, laid into a buffer one behind the other, each as a block: bytes of a script, or numbers of a list.
--     two-stores, four-stores     two elements, or four, stored one by one
--     stored-behind   what is stored behind other values
--     stored-front    a list that is stored at the buffer's start and fits
--     Laid            what is stored, and what is still to come, make the buffer that is wanted
--     laid-start, laid_next, laid-ends     at the start, an item later, and behind the last
-- Assumes nothing.
use Prim.Native.Nat.{ℕ, suc, ◌+◌, ◌≤◌, ◌<◌}
use mathlib.Core.Path.{◌≡◌, refl, sym, ap, ◌∙◌}
use mathlib.Core.List.{List, [], ◌∷◌, ◌++◌, flat_map}
use native.Mathlib.Omega.{arith}
use lib.ListN.{length, get_or, drop, set, length-set, drop_of_length-le}
use lib.Seq.{sets, sets-eq, length-sets}
use Rattle.script.proofs.Stores.{sets-append}
use Rattle.records.specs.Storing.{Stored}
use Rattle.records.proofs.Bytes.{drop-one}

pub two-stores : (l : List ℕ) (at a b : ℕ) → Stored l at (a ∷ b ∷ []) (set (set l at a) (at + 1) b)
two-stores l at a b =
    let one : at + 1 ≡ suc at = omega arith in
    record { is = rw one; as_long = simp length-set }

pub four-stores : (l : List ℕ) (at a b c d : ℕ)
    → Stored l at (a ∷ b ∷ c ∷ d ∷ []) (set (set (set (set l at a) (at + 1) b) (at + 2) c) (at + 3) d)
four-stores l at a b c d =
    let one : at + 1 ≡ suc at = omega arith in
    let two : at + 2 ≡ suc (suc at) = omega arith in
    let three : at + 3 ≡ suc (suc (suc at)) = omega arith in
    record { is = rw (one, two, three); as_long = simp length-set }

-- what is stored behind other values
pub stored-behind : {out o o' vs ws : List ℕ} {at to : ℕ} → Stored out at vs o → at + length vs ≡ to → Stored o to ws o'
    → Stored out at (vs ++ ws) o'
stored-behind {out} {vs = vs} {ws = ws} {at = at} first on second =
    record {
      is = second.is ∙ rw (first.is, ← on) (sym (sets-append vs ws out at));
      as_long = second.as_long ∙ first.as_long;
    }

pub stored-front : {out xs out' : List ℕ} → Stored out 0 xs out' → length xs ≤ length out
    → out' ≡ xs ++ drop (length xs) out
stored-front {out} {xs} s room =
    let all : 0 + length xs ≡ length xs = omega arith in
    s.is ∙ sets-eq xs out 0 (omega arith) ∙ ap (λ (n : ℕ). xs ++ drop n out) all

-- the buffer that is wanted is the buffer so far with the items from k on stored in it, from the place at on
pub record Laid {X : Type 0} (f : X → List ℕ) (from : ℕ) (xs : List X) (before out : List ℕ) (k at : ℕ)
    : Type 0 where
  pub as_long : length out ≡ length before
  pub wanted : sets before from (flat_map f xs) ≡ sets out at (flat_map f (drop k xs))

module _ {X : Type 0} (f : X → List ℕ) (from : ℕ) (xs : List X) (before : List ℕ) where
  pub laid-start : {at : ℕ} → from ≡ at → Laid f from xs before before 0 at
  laid-start here = record { as_long = refl; wanted = ap (λ (n : ℕ). sets before n (flat_map f xs)) here }

  module _ {out : List ℕ} {k at : ℕ} (h : Laid f from xs before out k at) where
    pub laid_next : (blank : X) {out' : List ℕ} {x : X} {next : ℕ} → k < length xs → x ≡ get_or xs k blank
        → at + length (f x) ≡ next → Stored out at (f x) out' → Laid f from xs before out' (k + 1) next
    unfolding flat_map
    laid_next blank {x = x} below is on stored =
        rw (stored.is, ← on) (record {
          as_long = length-sets out at (f x) ∙ h.as_long;
          wanted =
              h.wanted
              ∙ rw (drop-one xs blank k (omega arith), ← is)
              (sets-append (f x) (flat_map f (drop (k + 1) xs)) out at);
        })

    pub laid-ends : length xs ≤ k → Stored before from (flat_map f xs) out
    unfolding flat_map
    laid-ends all =
        record { is = sym (h.wanted ∙ rw (drop_of_length-le xs {i = k} all)); as_long = h.as_long }
