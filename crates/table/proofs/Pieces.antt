-- Rows of the same piece, and the first row of each piece.
--     false_of, never_both, bool_same         a test is false where it cannot be true, and never both; equal tests
--     and_left, and_right, or_right, or_cases     two tests joined
--     or_turned                               three, in another order
--     same-fields, fields-same                the test for the same piece is equality field by field ..
--     piece-numbers, numbers-piece            .. and so of all numbers of a row but its match number
--     same_numbers, numbers-same              the same of the test
--     same-itself, same-sym, same-trans       of itself, whichever comes first, and through a third row
--     occurs-at, occurs-where                 a piece occurs in a list where some row is that piece
--     occurs-before                           the same of the first k rows
--     occurs-same                             with a piece occur all that are the same
--     occurs-passed                           a piece among one more row is that row's or was there before
--     firsts-known, firsts-fresh              one more row: its piece has a first row already, or this is it
--     firsts-inside                           no more first rows than rows
-- Assumes nothing.
use Prim.Native.Nat.{ℕ, zero, suc, ◌+◌, ◌≤◌, ◌<◌, zero-le, suc-le-suc}
use mathlib.Core.Bool.{Bool, true, false, cond, ◌&&◌, ◌||◌}
use mathlib.Core.Logic.{◌⊎◌, inl, inr, ⊎_elim}
use mathlib.Core.Path.{◌≡◌, refl, sym, ap, ◌∙◌}
use mathlib.Core.List.{List, [], ◌∷◌, ◌++◌, append-nil}
use native.Mathlib.Omega.{arith}
use native.Mathlib.Nat.{le_of_suc-le-suc, not-suc-le-zero}
use borrow.Author.Tests.{eq-eqb, eqb-true}
use lib.ListN.{length, get_or, take}
use lib.Dec.{eqb}
use lib.Seq.{length-take-le, get_or-take}
use Rattle.rows.specs.Rows.{row_of, row_at}
use Rattle.table.specs.Distinct.{same, occurs, firsts_after, first_of_each, piece_of, SamePiece}
use Rattle.rows.specs.declared.Row.{Row}
use Rattle.rows.proofs.TableRows.{take_more}

-- ---- tests joined

pub never_both : {b : Bool} → b ≡ true → b ≡ false → ⊥
never_both e e' = let never : ◌≡◌ {A = ℕ} 0 1 = cc in omega arith

pub and_left : (a b : Bool) → (a && b) ≡ true → a ≡ true
and_left true b e = refl
and_left false b e = e

pub and_right : (a b : Bool) → (a && b) ≡ true → b ≡ true
and_right true b e = e
and_right false b e = absurd (never_both e refl)

or_left : (a b : Bool) → a ≡ true → (a || b) ≡ true
or_left a b e = rw e

pub or_right : (a b : Bool) → b ≡ true → (a || b) ≡ true
or_right true b e = refl
or_right false b e = e

pub or_cases : (a b : Bool) → (a || b) ≡ true → (a ≡ true) ⊎ (b ≡ true)
or_cases true b e = inl refl
or_cases false b e = inr e

pub or_turned : (a b c : Bool) → (a || (b || c)) ≡ (b || (a || c))
or_turned true true c = refl
or_turned true false c = refl
or_turned false true c = refl
or_turned false false c = refl

pub false_of : (b : Bool) → (b ≡ true → ⊥) → b ≡ false
false_of true h = absurd (h refl)
false_of false h = refl

pub bool_same : (a b : Bool) → (a ≡ true → b ≡ true) → (b ≡ true → a ≡ true) → a ≡ b
bool_same true b f g = sym (f refl)
bool_same false b f g = sym (false_of b (λ e. never_both (g e) refl))

-- ---- the same piece

pub same-fields : (r s : Row) → same r s ≡ true → SamePiece r s
same-fields r s e =
    let behind-a = and_right (eqb r.left_a s.left_a) _ e in
    let behind-b = and_right (eqb r.left_b s.left_b) _ behind-a in
    record {
      left_a = eqb-true _ _ (and_left _ _ e);
      left_b = eqb-true _ _ (and_left _ _ behind-a);
      letters = eqb-true _ _ (and_left _ _ behind-b);
      direction = eqb-true _ _ (and_right (eqb r.length s.length) _ behind-b);
    }

pub fields-same : (r s : Row) → SamePiece r s → same r s ≡ true
fields-same r s h =
    rw (
      eq-eqb _ _ h.left_a,
      eq-eqb _ _ h.left_b,
      eq-eqb _ _ h.letters,
      eq-eqb _ _ h.direction,
    )

pub piece-numbers : (r s : Row) → SamePiece r s → piece_of r ≡ piece_of s
piece-numbers r s h = rw (h.left_a, h.left_b, h.letters, h.direction)

pub numbers-piece : (r s : Row) → piece_of r ≡ piece_of s → SamePiece r s
numbers-piece r s e =
    record {
      left_a = ap (λ (ns : List ℕ). get_or ns 0 0) e;
      left_b = ap (λ (ns : List ℕ). get_or ns 1 0) e;
      letters = ap (λ (ns : List ℕ). get_or ns 2 0) e;
      direction = ap (λ (ns : List ℕ). get_or ns 3 0) e;
    }

pub same_numbers : (r s : Row) → same r s ≡ true → piece_of r ≡ piece_of s
same_numbers r s e = piece-numbers r s (same-fields r s e)

pub numbers-same : (r s : Row) → piece_of r ≡ piece_of s → same r s ≡ true
numbers-same r s e = fields-same r s (numbers-piece r s e)

pub same-itself : (r : Row) → same r r ≡ true
same-itself r = numbers-same r r refl

pub same-trans : (q r s : Row) → same q r ≡ true → same r s ≡ true → same q s ≡ true
same-trans q r s e e' = numbers-same q s (same_numbers q r e ∙ same_numbers r s e')

pub same-sym : (r s : Row) → same r s ≡ true → same s r ≡ true
same-sym r s e = numbers-same s r (sym (same_numbers r s e))

-- ---- a piece among rows

pub occurs-at : (r : Row) (rs : List Row) (i : ℕ) → i < length rs → same (row_at rs i) r ≡ true → occurs r rs ≡ true
unfolding occurs
occurs-at r [] i h e = absurd (not-suc-le-zero h)
occurs-at r (s ∷ rs) zero h e = or_left (same s r) (occurs r rs) e
occurs-at r (s ∷ rs) (suc i) h e = or_right (same s r) (occurs r rs) (occurs-at r rs i (le_of_suc-le-suc h) e)

pub occurs-where : (r : Row) (rs : List Row) → occurs r rs ≡ true
    → (i : ℕ) × (i < length rs) × (same (row_at rs i) r ≡ true)
unfolding occurs
occurs-where r [] e = absurd (never_both e refl)
occurs-where r (s ∷ rs) e =
    ⊎_elim (λ here. (0, omega arith, here))
    (λ later. let w = occurs-where r rs later in (suc w.0, suc-le-suc w.1, w.2))
    (or_cases (same s r) (occurs r rs) e)

pub occurs-same : (r s : Row) (rs : List Row) → same r s ≡ true → occurs r rs ≡ true → occurs s rs ≡ true
occurs-same r s rs e o =
    let w = occurs-where r rs o in
    occurs-at s rs w.0 w.1 (same-trans (row_at rs w.0) r s w.2 e)

occurs-snoc : (r : Row) (rs : List Row) (s : Row) → occurs r (rs ++ s ∷ []) ≡ (occurs r rs || same s r)
unfolding occurs
occurs-snoc r [] s = go (same s r)
  where
    go : (b : Bool) → (b || false) ≡ b
    go true = refl
    go false = refl
occurs-snoc r (q ∷ rs) s = go (same q r) (occurs-snoc r rs s)
  where
    go : (b : Bool) → occurs r (rs ++ s ∷ []) ≡ (occurs r rs || same s r)
        → (b || occurs r (rs ++ s ∷ [])) ≡ ((b || occurs r rs) || same s r)
    go true e = refl
    go false e = e

module _ (rs : List Row) (k : ℕ) (inside : k ≤ length rs) (r : Row) where
  pub occurs-before : (i : ℕ) → i < k → same (row_at rs i) r ≡ true → occurs r (take k rs) ≡ true
  occurs-before i l e =
      occurs-at r (take k rs) i (omega (arith, length-take-le k rs inside)) (rw (get_or-take k rs i (row_of []) l) e)

module _ (rs : List Row) (k : ℕ) (inside : k < length rs) where
  pub occurs-passed : (r : Row) → occurs r (take (k + 1) rs) ≡ true
      → (occurs r (take k rs) ≡ true) ⊎ (same (row_at rs k) r ≡ true)
  occurs-passed r o =
      or_cases (occurs r (take k rs)) (same (row_at rs k) r)
      (sym (ap (occurs r) (take_more rs k inside) ∙ occurs-snoc r (take k rs) (row_at rs k)) ∙ o)

-- ---- the first row of each piece

-- r, unless its piece was there
fresh : Row → Bool → List Row
fresh r known = cond known [] (r ∷ [])

turn : (a b d : Bool) → ((a || b) || d) ≡ (b || (a || d))
turn true true d = refl
turn true false d = refl
turn false true d = refl
turn false false d = refl

firsts-snoc : (seen rs : List Row) (r : Row)
    → firsts_after seen (rs ++ r ∷ []) ≡ firsts_after seen rs ++ fresh r (occurs r seen || occurs r rs)
unfolding firsts_after occurs fresh
firsts-snoc seen [] r = go (occurs r seen)
  where
    go : (b : Bool) → cond b [] (r ∷ []) ≡ cond (b || false) [] (r ∷ [])
    go true = refl
    go false = refl
firsts-snoc seen (q ∷ rs) r =
    go (occurs q seen)
    (firsts-snoc (q ∷ seen) rs r ∙ rw (turn (same q r) (occurs r seen) (occurs r rs)))
  where
    go : (b : Bool) → firsts_after (q ∷ seen) (rs ++ r ∷ [])
        ≡ firsts_after (q ∷ seen) rs ++ fresh r (occurs r seen || (same q r || occurs r rs))
        → cond b (firsts_after (q ∷ seen) (rs ++ r ∷ [])) (q ∷ firsts_after (q ∷ seen) (rs ++ r ∷ []))
        ≡ cond b (firsts_after (q ∷ seen) rs) (q ∷ firsts_after (q ∷ seen) rs)
        ++ fresh r (occurs r seen || (same q r || occurs r rs))
    go true e = e
    go false e = ap (λ (xs : List Row). q ∷ xs) e

module _ (rs : List Row) (k : ℕ) (inside : k < length rs) where
  pub firsts-known : occurs (row_at rs k) (take k rs) ≡ true → first_of_each (take (k + 1) rs) ≡ first_of_each (take k rs)
  unfolding occurs fresh
  firsts-known o =
      ap first_of_each (take_more rs k inside) ∙ firsts-snoc [] (take k rs) (row_at rs k)
      ∙ rw o (append-nil (first_of_each (take k rs)))

  pub firsts-fresh : occurs (row_at rs k) (take k rs) ≡ false
      → first_of_each (take (k + 1) rs) ≡ first_of_each (take k rs) ++ row_at rs k ∷ []
  unfolding occurs fresh
  firsts-fresh o = ap first_of_each (take_more rs k inside) ∙ firsts-snoc [] (take k rs) (row_at rs k) ∙ rw o

pub firsts-inside : (seen rs : List Row) → length (firsts_after seen rs) ≤ length rs
unfolding firsts_after
firsts-inside seen [] = zero-le
firsts-inside seen (r ∷ rs) = go (occurs r seen) (firsts-inside (r ∷ seen) rs)
  where
    go : (b : Bool) → length (firsts_after (r ∷ seen) rs) ≤ length rs
        → length (cond b (firsts_after (r ∷ seen) rs) (r ∷ firsts_after (r ∷ seen) rs)) ≤ suc (length rs)
    go true h = omega arith
    go false h = suc-le-suc h
