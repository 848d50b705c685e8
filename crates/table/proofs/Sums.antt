-- Lengths counted by class, row by row.
--     class-only, class-of-none       which class a length is in: one, or none
--     classes-length, classes-at      what stands where in the class counts
--     classes-same, classes-more      the counts with one more row
-- Assumes nothing.
use Prim.Native.Nat.{ℕ, zero, suc, ◌+◌, ◌^◌, ◌≤◌, ◌<◌}
use mathlib.Core.Bool.{cond, false, and-false}
use mathlib.Core.Path.{◌≡◌, refl, sym, ap, ◌∙◌}
use mathlib.Core.List.{List}
use native.Mathlib.Omega.{arith}
use native.Mathlib.Decide.{dec_lt, ℕ_discrete}
use native.Mathlib.Nat.{zero-add, add-zero, le_trans, lt_of_lt_of_le, le_of_suc-le-suc, not-suc-le-zero}
use borrow.Author.Tests.{eq-eqb, ne_eqb, lt-ltb, le-ltb, le-leb, lt-leb}
use lib.ListN.{length, get_or, take, set, length-set}
use lib.Dec.{eqb, leb}
use lib.Pow.{pow_mono, pow_pos}
use lib.Seq.{ext_get_or, get_or-set_same, get_or-set_other}
use Rattle.rows.specs.Rows.{row_at}
use Rattle.table.specs.Summing.{count, class_count, length_in_class, in_class, classes_from, classes_of}
use Rattle.rows.specs.declared.Row.{Row}
use Rattle.rows.proofs.TableRows.{take_more}
use Rattle.table.proofs.Counting.{total-snoc}

-- ---- the class of a length

pub class-only : (letters j : ℕ) → 2 ^ j ≤ letters → letters < 2 ^ (j + 1) → (c : ℕ) → length_in_class c letters ≡ eqb c j
class-only letters j low high c =
    elim (ℕ_discrete c j) [
      | yes same_Class ↦
          rw (same_Class, le-leb (2 ^ j) letters low, lt-ltb letters (2 ^ (j + 1)) high, eq-eqb j j refl)
      | no apart ↦
          elim (dec_lt c j) [
            | yes below ↦
                let past : 2 ^ (c + 1) ≤ letters = le_trans (pow_mono {i = c + 1} {j = j} (omega arith)) low in
                rw (ne_eqb c j apart, le-ltb letters (2 ^ (c + 1)) past) (and-false (leb (2 ^ c) letters))
            | no above ↦
                let short : letters < 2 ^ c = lt_of_lt_of_le high (pow_mono {i = j + 1} {j = c} (omega arith)) in
                rw (ne_eqb c j apart, lt-leb (2 ^ c) letters short)
          ]
    ]

pub class-of-none : (c : ℕ) → length_in_class c 0 ≡ false
class-of-none c = rw (lt-leb (2 ^ c) 0 (pow_pos c))

-- ---- the counts

pub classes-length : (n c : ℕ) (rs : List Row) → length (classes_from n c rs) ≡ n
unfolding classes_from
classes-length zero c rs = refl
classes-length (suc n) c rs = ap suc (classes-length n (suc c) rs)

classes-from : (n c : ℕ) (rs : List Row) (i : ℕ) → i < n → get_or (classes_from n c rs) i 0 ≡ count (in_class (c + i)) rs
unfolding classes_from
classes-from zero c rs i h = absurd (not-suc-le-zero h)
classes-from (suc n) c rs zero h = rw (add-zero c)
classes-from (suc n) c rs (suc i) h =
    let further : suc c + i ≡ c + suc i = omega arith in
    classes-from n (suc c) rs i (le_of_suc-le-suc h) ∙ ap (λ (d : ℕ). count (in_class d) rs) further

pub classes-at : (rs : List Row) (c : ℕ) → c < class_count → get_or (classes_of rs) c 0 ≡ count (in_class c) rs
classes-at rs c h = classes-from class_count 0 rs c h ∙ ap (λ (d : ℕ). count (in_class d) rs) (zero-add c)

-- r is the row that was read at k, in class j if that is a class
module _ (rs : List Row) (k : ℕ) {r : Row} (j : ℕ) (inside : k < length rs) (held : r ≡ row_at rs k)
    (classed : (c : ℕ) → c < class_count → length_in_class c r.length ≡ eqb c j) where
  class-more : (c : ℕ) → c < class_count
      → get_or (classes_of (take (k + 1) rs)) c 0 ≡ get_or (classes_of (take k rs)) c 0 + cond (eqb c j) 1 0
  class-more c h =
      let snoc = total-snoc (λ q. cond (in_class c q) 1 0) (take k rs) (row_at rs k) in
      classes-at (take (k + 1) rs) c h
      ∙ rw (take_more rs k inside, snoc, ← held, classed c h, classes-at (take k rs) c h)

  pub classes-same : class_count ≤ j → classes_of (take k rs) ≡ classes_of (take (k + 1) rs)
  classes-same none =
      ext_get_or 0 (classes_of (take k rs)) (classes_of (take (k + 1) rs))
      (classes-length class_count 0 (take k rs) ∙ sym (classes-length class_count 0 (take (k + 1) rs)))
      (λ c h.
      let l : c < class_count = omega (arith, classes-length class_count 0 (take k rs)) in
      sym (class-more c l ∙ rw (ne_eqb c j (λ e. omega arith)) (add-zero (get_or (classes_of (take k rs)) c 0))))

  pub classes-more : j < class_count
      → set (classes_of (take k rs)) j (get_or (classes_of (take k rs)) j 0 + 1) ≡ classes_of (take (k + 1) rs)
  classes-more one =
      let old = classes_of (take k rs) in
      let long : length old ≡ class_count = classes-length class_count 0 (take k rs) in
      ext_get_or 0 (set old j (get_or old j 0 + 1)) (classes_of (take (k + 1) rs))
      (length-set old j (get_or old j 0 + 1) ∙ long ∙ sym (classes-length class_count 0 (take (k + 1) rs)))
      (λ c h.
      let l : c < class_count = omega (arith, length-set old j (get_or old j 0 + 1)) in
      elim (ℕ_discrete c j) [
        | yes here ↦
            rw here
            (get_or-set_same old j (get_or old j 0 + 1) 0 (omega arith) ∙ sym (class-more j one ∙ rw (eq-eqb j j refl)))
        | no apart ↦
            get_or-set_other old j c (get_or old j 0 + 1) 0 apart
            ∙ sym (class-more c l ∙ rw (ne_eqb c j apart) (add-zero (get_or old c 0)))
      ])
