-- The run of rows that the finder hands back.
--     leading-more, leading-stop, leading-none     the count of leading rows, row by row
--     leading-inside                               they are rows of the list
--     start-found, end-found                       from where to where the part stands where the number occurs
--     start-missing, size-missing                  and where it does not
--     Found                                        what 01 says of the part: which run it is, or that there is none
--     part-found                                   it holds of the part
--     part-inside                                  which lies in the table
--     found-once                                   and of no other
-- Assumes nothing.
use Prim.Native.Nat.{ℕ, zero, suc, ◌+◌, ◌-◌, ◌*◌, ◌≤◌, ◌<◌, zero-le, suc-le-suc}
use mathlib.Core.Bool.{Bool, true, false, cond}
use mathlib.Core.Path.{◌≡◌, refl, sym, ap, ap₂, subst, ◌∙◌}
use mathlib.Core.List.{List, [], ◌∷◌}
use native.Mathlib.Omega.{arith}
use native.Mathlib.Numerals.{add-one, one-add}
use native.Mathlib.Nat.{le_refl, le_antisymm, lt_of_not-le, lt_of_lt_of_le, le_of_suc-le-suc, not-suc-le-zero}
use native.Mathlib.Decide.{dec_lt}
use borrow.Author.Tests.{lt-ltb, le-ltb, eqb-true, eqb-false, not-true, not-false}
use lib.ListN.{length, drop, drop_of_length-le, length-drop}
use lib.Seq.{drop-cons, get_or-drop}
use Rattle.rows.specs.Rows.{row_width, row_of, row_at, rows_of}
use Rattle.table.specs.Finding.{leading, has_number, has_other, before, run, start_of, size_of}
use Rattle.rows.specs.declared.Row.{Row}
use Rattle.rows.proofs.TableRows.{rows-length}

-- ---- row by row: r is the row that was read at k

module _ (p : Row → Bool) (rs : List Row) (k : ℕ) where
  pub leading-more : {r : Row} → k < length rs → r ≡ row_at rs k → p r ≡ true
      → leading p (drop k rs) ≡ 1 + leading p (drop (k + 1) rs)
  unfolding leading
  leading-more inside held e = rw (drop-cons rs k (row_of []) inside, ← held, e, add-one, one-add)

  pub leading-stop : {r : Row} → k < length rs → r ≡ row_at rs k → p r ≡ false → leading p (drop k rs) ≡ 0
  unfolding leading
  leading-stop inside held e = rw (drop-cons rs k (row_of []) inside, ← held, e)

  pub leading-none : length rs ≤ k → leading p (drop k rs) ≡ 0
  unfolding leading
  leading-none h = rw (drop_of_length-le rs h)

pub leading-inside : (p : Row → Bool) (rs : List Row) → leading p rs ≤ length rs
unfolding leading
leading-inside p [] = zero-le
leading-inside p (r ∷ rs) = go (p r) (leading-inside p rs)
  where
    go : (b : Bool) → leading p rs ≤ length rs → cond b (suc (leading p rs)) 0 ≤ suc (length rs)
    go true h = suc-le-suc h
    go false h = zero-le

-- ---- from where to where the part stands

module _ (n : ℕ) (t : List ℕ) {first : ℕ} (reached : first ≡ before n (rows_of t)) (inside : first < length (rows_of t))
  where
    pub start-found : first * row_width ≡ start_of n t
    start-found = rw (← reached, lt-ltb first (length (rows_of t)) inside) (omega arith)

    pub end-found : {end : ℕ} → end ≡ first + run n (drop first (rows_of t))
        → end * row_width ≡ start_of n t + size_of n t
    end-found ended = rw (← start-found, ended, ← reached) (omega arith)

module _ (n : ℕ) (t : List ℕ) (none : length (rows_of t) ≤ before n (rows_of t)) where
  pub size-missing : size_of n t ≡ 0
  size-missing = omega (arith, leading-none (has_number n) (rows_of t) (before n (rows_of t)) none)

  pub start-missing : start_of n t ≡ 0
  start-missing = rw (le-ltb (before n (rows_of t)) (length (rows_of t)) none)

-- ---- which run it is

leading-pass : (p : Row → Bool) (rs : List Row) (k : ℕ) → k < leading p rs → p (row_at rs k) ≡ true
unfolding leading
leading-pass p [] k h = absurd (not-suc-le-zero h)
leading-pass p (r ∷ rs) k h = go (p r) refl k h (leading-pass p rs)
  where
    go : (b : Bool) → p r ≡ b → (k : ℕ) → k < cond b (suc (leading p rs)) 0
        → ((k : ℕ) → k < leading p rs → p (row_at rs k) ≡ true) → p (row_at (r ∷ rs) k) ≡ true
    go true e zero h rest = e
    go true e (suc k) h rest = rest k (le_of_suc-le-suc h)
    go false e k h rest = absurd (not-suc-le-zero h)

leading-fail : (p : Row → Bool) (rs : List Row) → leading p rs < length rs → p (row_at rs (leading p rs)) ≡ false
unfolding leading
leading-fail p [] h = absurd (not-suc-le-zero h)
leading-fail p (r ∷ rs) h = go (p r) refl h (leading-fail p rs)
  where
    go : (b : Bool) → p r ≡ b → cond b (suc (leading p rs)) 0 < suc (length rs)
        → (leading p rs < length rs → p (row_at rs (leading p rs)) ≡ false)
        → p (row_at (r ∷ rs) (cond b (suc (leading p rs)) 0)) ≡ false
    go true e h rest = rest (le_of_suc-le-suc h)
    go false e h rest = e

-- rows from `from` up to `to`, at least one
pub record Run (n : ℕ) (rs : List Row) (from to : ℕ) : Type 0 where
  pub first : (k : ℕ) → k < from → (row_at rs k).number ≡ n → ⊥
  pub some : from < to
  pub unbroken : (k : ℕ) → from ≤ k → k < to → (row_at rs k).number ≡ n
  pub whole : to < length rs → (row_at rs to).number ≡ n → ⊥
  pub inside : to ≤ length rs

-- a start and a size, in numbers of the table
pub data Found (n : ℕ) (rs : List Row) : ℕ → ℕ → Type 0 where
  found : (from to : ℕ) → Run n rs from to → Found n rs (row_width * from) (row_width * (to - from))
  missing : ((k : ℕ) → k < length rs → (row_at rs k).number ≡ n → ⊥) → Found n rs 0 0

first_else : (n : ℕ) (rs : List Row) (k : ℕ) → k < before n rs → (row_at rs k).number ≡ n → ⊥
first_else n rs k l =
    eqb-false (row_at rs k).number n (not-true (has_number n (row_at rs k)) (leading-pass (has_other n) rs k l))

run_of : (n : ℕ) (rs : List Row) → before n rs < length rs
    → Run n rs (before n rs) (before n rs + run n (drop (before n rs) rs))
run_of n rs h =
    let b = before n rs in
    let rest = drop b rs in
    let there : (i : ℕ) → row_at rest i ≡ row_at rs (b + i) = λ i. get_or-drop b rs i (row_of []) in
    record {
      first = first_else n rs;
      some =
          omega (
            arith,
            leading-more (has_number n) rs b h refl
                (not-false (has_number n (row_at rs b)) (leading-fail (has_other n) rs h)),
          );
      unbroken = λ k l l'.
          let i = k - b in
          let within : i < run n rest = omega arith in
          let placed : b + i ≡ k = omega arith in
          subst (λ (r : Row). r.number ≡ n) (there i ∙ ap (row_at rs) placed)
          (eqb-true (row_at rest i).number n (leading-pass (has_number n) rest i within));
      whole = λ l.
          let within : run n rest < length rest = omega (arith, length-drop b rs) in
          subst (λ (r : Row). r.number ≡ n → ⊥) (there (run n rest))
          (eqb-false (row_at rest (run n rest)).number n (leading-fail (has_number n) rest within));
      inside = omega (arith, leading-inside (has_number n) rest, length-drop b rs);
    }

le_of_not_lt : {m n : ℕ} → (m < n → ⊥) → n ≤ m
le_of_not_lt h = le_of_suc-le-suc (lt_of_not-le h)

pub part-found : (n : ℕ) (t : List ℕ) → Found n (rows_of t) (start_of n t) (size_of n t)
part-found n t =
    let rs = rows_of t in
    let b = before n rs in
    let size = run n (drop b rs) in
    elim (dec_lt b (length rs)) [
      | yes h ↦
          let sized : b + size - b ≡ size = omega arith in
          rw (lt-ltb b (length rs) h)
          (subst (λ (m : ℕ). Found n rs (row_width * b) (row_width * m)) sized (found b (b + size) (run_of n rs h)))
      | no h ↦
          let none : length rs ≤ b = le_of_not_lt h in
          rw (start-missing n t none, size-missing n t none) (missing (λ k l. first_else n rs k (omega arith)))
    ]

found_inside : {n : ℕ} {rs : List Row} {s z : ℕ} → Found n rs s z → s + z ≤ row_width * length rs
found_inside (Found.found f t r) = omega (arith, r.some, r.inside)
found_inside (Found.missing none) = zero-le

pub part-inside : (n : ℕ) (t : List ℕ) → start_of n t + size_of n t ≤ length t
part-inside n t = omega (arith, found_inside (part-found n t), rows-length t)

module _ {n : ℕ} {rs : List Row} {f t f' t' : ℕ} (r : Run n rs f t) (r' : Run n rs f' t') where
  no-later : f < f' → ⊥
  no-later l = r'.first f l (r.unbroken f (le_refl f) r.some)

  no_longer : f ≡ f' → t < t' → ⊥
  no_longer e l = r.whole (omega (arith, r'.inside)) (r'.unbroken t (omega (arith, r.some)) l)

runs-once : {n : ℕ} {rs : List Row} {f t f' t' : ℕ} → Run n rs f t → Run n rs f' t' → (f ≡ f') × (t ≡ t')
runs-once {f} {t} {f'} {t'} r r' =
    let starts : f ≡ f' = le_antisymm (le_of_not_lt (no-later r' r)) (le_of_not_lt (no-later r r')) in
    (starts, le_antisymm (le_of_not_lt (no_longer r' r (sym starts))) (le_of_not_lt (no_longer r r' starts)))

not-missing : {n : ℕ} {rs : List Row} {f t : ℕ} → Run n rs f t
    → ((k : ℕ) → k < length rs → (row_at rs k).number ≡ n → ⊥) → ⊥
not-missing {f = f} r none = none f (lt_of_lt_of_le r.some r.inside) (r.unbroken f (le_refl f) r.some)

pub found-once : {n : ℕ} {rs : List Row} {s z s' z' : ℕ} → Found n rs s z → Found n rs s' z' → (s ≡ s') × (z ≡ z')
found-once (Found.found f t r) (Found.found f' t' r') =
    let same = runs-once r r' in
    (ap (λ (i : ℕ). row_width * i) same.0, ap₂ (λ (i j : ℕ). row_width * (j - i)) same.0 same.1)
found-once (Found.found f t r) (Found.missing none) = absurd (not-missing r none)
found-once (Found.missing none) (Found.found f t r) = absurd (not-missing r none)
found-once (Found.missing none) (Found.missing none') = (refl, refl)
