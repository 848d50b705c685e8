-- Storing a list from a place on, one element after the other.
--     sets-append     storing joined lists
--     stored_next     one element more is stored, as a loop meets it
--     put_then        so bytes put behind bytes are their join
--     put_same        and may be named otherwise
-- Assumes nothing.
use Prim.Native.Nat.{ℕ, suc, ◌+◌, ◌<◌}
use mathlib.Core.Path.{◌≡◌, sym, ap, ap₂, subst, ◌∙◌}
use mathlib.Core.List.{List, [], ◌∷◌, ◌++◌}
use native.Mathlib.Omega.{arith}
use native.Mathlib.Numerals.{add-one}
use lib.ListN.{length, get_or, take, set, length-append}
use lib.Seq.{sets, take-suc, length-take-le}
use Rattle.text.specs.Putting.{Put}

pub sets-append : (l : List ℕ) (i : ℕ) (us vs : List ℕ) → sets l i (us ++ vs) ≡ sets (sets l i us) (i + length us) vs
sets-append l i [] vs = ap (λ (k : ℕ). sets l k vs) (omega arith)
sets-append l i (u ∷ us) vs = sets-append (set l i u) (suc i) us vs
    ∙ ap (λ (k : ℕ). sets (sets (set l i u) (suc i) us) k vs) (omega arith)

sets-next : (l : List ℕ) (i : ℕ) (vs : List ℕ) (k : ℕ) → k < length vs
    → sets l i (take (k + 1) vs) ≡ set (sets l i (take k vs)) (i + k) (get_or vs k 0)
sets-next l i vs k h =
    rw (add-one, take-suc vs k 0)
    (sets-append l i (take k vs) (get_or vs k 0 ∷ [])
    ∙ ap (λ (n : ℕ). set (sets l i (take k vs)) (i + n) (get_or vs k 0)) (length-take-le k vs (omega arith)))

-- as a loop meets it: one byte more is stored
pub stored_next : (l vs : List ℕ) (i k : ℕ) {t t' : List ℕ} → k < length vs → t ≡ sets l i (take k vs)
    → t' ≡ set t (i + k) (get_or vs k 0) → t' ≡ sets l i (take (k + 1) vs)
stored_next l vs i k below e stored =
    stored ∙ ap (λ t. set t (i + k) (get_or vs k 0)) e ∙ sym (sets-next l i vs k below)

pub put_then : {xs ys t t' t'' : List ℕ} {at at' at'' : ℕ} → Put xs t at t' at' → Put ys t' at' t'' at''
    → Put (xs ++ ys) t at t'' at''
put_then {xs} {ys} {t} {at = at} a b =
    record {
      place = omega (arith, length-append xs ys);
      stored = b.stored ∙ ap₂ (λ (l : List ℕ) (k : ℕ). sets l k ys) a.stored a.place
          ∙ sym (sets-append t at xs ys);
    }

pub put_same : {xs ys t t' : List ℕ} {at at' : ℕ} → xs ≡ ys → Put xs t at t' at' → Put ys t at t' at'
put_same {t = t} {t'} {at} {at'} e p = subst (λ l. Put l t at t' at') e p
