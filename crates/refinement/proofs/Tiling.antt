-- Any refinement, resolved or not, its rows in any order: each position and each letter of a match lies on a row of it,
-- and no letter on two. The definition counts letters of A; what it says of B is shown here.
--     number-unique        numbers that rise name one match each
--     own-piece            a row that bears a match's number is a piece of that match
--     cover                a spanned position lies on a row of the match
--     cover-letter         a letter lies on a row of the match
--     exactly-one          of rows that share no letter, one that holds a letter is the only one
--     Overlap, rows_apart  no letter lies on two rows of one match
--     rows-tile            the rows of a match tile it on B as on A: exactly one holds each letter
-- Assumes nothing.
use Prim.Native.Nat.{ℕ, suc, ◌-◌, ◌≤◌, ◌<◌}
use mathlib.Core.Path.{◌≡◌, refl, sym, ap, subst, ◌∙◌}
use mathlib.Core.List.Memᴰ
use mathlib.Core.List.{List, [], ◌∷◌, filter}
use mathlib.Core.List.Memᴰ.{head as here}
use mathlib.Core.List.Memᴰ.{tail as there}
use native.Mathlib.Omega.{arith}
use native.Mathlib.Decide.{dec_lt}
use lib.ListN.{length}
use Rattle.refinement.specs.declared.Side.{Side}
use Rattle.refinement.specs.declared.Side.TheVariants.{A, B}
use Rattle.refinement.specs.Order.{◌∈◌, Rising}
use Rattle.refinement.specs.Match.{Match, right, Spans}
use Rattle.refinement.specs.Refinement.{Matches, Piece, Holds, holds?, rows_over, Refines}
use Rattle.refinement.proofs.Lists.{on-ite, ∈-filter, ∈-unfilter, rising-weaken, rising-filter}
use Rattle.refinement.proofs.Geometry.{faces-exist, faces-holds, piece-faces}

unique-number :
    (m m' : Match) (ms : List Match) → Rising (λ m m'. m.number < m'.number) ms → m ∈ ms → m' ∈ ms
    → m.number ≡ m'.number → m ≡ m'
unique-number m m' [] h i j q = absurd (Memᴰ.not-nil i)
unique-number m m' (x ∷ ms) h (here e) (here e') q = e ∙ sym e'
unique-number m m' (x ∷ ms) h (here e) (there t) q = absurd (omega (arith, h.0 m' t, ap (λ z. z.number) e))
unique-number m m' (x ∷ ms) h (there t) (here e) q = absurd (omega (arith, h.0 m t, ap (λ z. z.number) e))
unique-number m m' (x ∷ ms) h (there t) (there t') q = unique-number m m' ms h.1 t t' q

pub number-unique :
    (ms : List Match) → Rising (λ m m'. m.number < m'.number) ms → {m m' : Match} → m ∈ ms → m' ∈ ms
    → m.number ≡ m'.number → m ≡ m'
number-unique ms h {m} {m'} t t' q = unique-number m m' ms h t t' q

first_of : {X : Type 0} (xs : List X) → 0 < length xs → (x : X) × (x ∈ xs)
first_of [] h = absurd (omega arith)
first_of (x ∷ xs) h = (x, here refl)

one_of : {X : Type 0} {x : X} (xs : List X) → x ∈ xs → 0 < length xs
one_of [] t = absurd (Memᴰ.not-nil t)
one_of (y ∷ ys) t = omega arith

at_most_one :
    {P : Match → Type 0} (xs : List Match) → ((x : Match) → x ∈ xs → P x) → Rising (λ x y. P x → P y → ⊥) xs
    → length xs ≤ 1
at_most_one [] all h = omega arith
at_most_one (x ∷ []) all h = omega arith
at_most_one (x ∷ y ∷ xs) all h = absurd (h.0 y (here refl) (all x (here refl)) (all y (there (here refl))))

module _ (n : ℕ) (s : Side) (x : ℕ) where
  counted : (rs : List Match) {r : Match} → r ∈ rs → r.number ≡ n → Holds r s x → 0 < rows_over n s x rs
  unfolding rows_over
  counted rs m e h = one_of (filter (holds? n s x) rs) (∈-filter (holds? n s x) m (e, h))

  counted-head :
      (r : Match) (rs : List Match) → r.number ≡ n → Holds r s x → rows_over n s x (r ∷ rs) ≡ suc (rows_over n s x rs)
  unfolding rows_over
  counted-head r rs e h =
      on-ite (λ (l : List Match). length l ≡ suc (length (filter (holds? n s x) rs))) (holds? n s x r) (λ _. refl)
      (λ t. absurd (t (e, h)))

  counted-cons : (r : Match) (rs : List Match) → rows_over n s x rs ≤ rows_over n s x (r ∷ rs)
  unfolding rows_over
  counted-cons r rs =
      on-ite (λ (l : List Match). length (filter (holds? n s x) rs) ≤ length l) (holds? n s x r) (λ _. omega arith)
      (λ _. omega arith)

-- two rows that share a number and a letter
abbrev pub Overlap : Match → Match → Side → Type 0
Overlap r r' s = (r.number ≡ r'.number) × ((x : ℕ) × Holds r s x × Holds r' s x)

pub exactly-one :
    (n : ℕ) (s : Side) (x : ℕ) (rs : List Match) {r : Match} → r ∈ rs → r.number ≡ n → Holds r s x
    → Rising (λ r r'. ¬ Overlap r r' s) rs → rows_over n s x rs ≡ 1
unfolding rows_over
exactly-one n s x rs i e h apart =
    let test = holds? n s x in
    let alone =
    rising-weaken (λ r r'. ¬ Overlap r r' s)
    (λ r r'. (r.number ≡ n) × Holds r s x → (r'.number ≡ n) × Holds r' s x → ⊥) (filter test rs)
    (λ r r' _ _ k p q. k (p.0 ∙ sym q.0, (x, p.1, q.1)))
    (rising-filter test (λ r r'. ¬ Overlap r r' s) rs apart)
    in
    let few = at_most_one (filter test rs) (λ r t. (∈-unfilter test rs t).1) alone in
    omega (arith, counted n s x rs i e h)

apart-A :
    (rs : List Match) → ((r : Match) (x : ℕ) → r ∈ rs → Holds r A x → rows_over r.number A x rs ≤ 1)
    → Rising (λ r r'. ¬ Overlap r r' A) rs
apart-A [] h = tt
apart-A (r ∷ rs) h =
    let rest = apart-A rs (λ r' x t g. omega (arith, h r' x (there t) g, counted-cons r'.number A x r rs)) in
    (first, rest)
  where
    first : (r' : Match) → r' ∈ rs → ¬ Overlap r r' A
    first r' t (e, (x, g, g')) =
        let one = counted-head r.number A x r rs refl g in
        let two = counted r.number A x rs t (sym e) g' in
        omega (arith, h r x (here refl) g)

module _ {ms rs : List Match} (M : Matches ms) (T : Refines ms rs) where
  pub own-piece : {m r : Match} → m ∈ ms → r ∈ rs → r.number ≡ m.number → Piece m r
  own-piece {m} {r} i j e =
      let o = T.pieces r j in
      subst (λ (z : Match). Piece z r) (number-unique ms M.numbered o.1 i (sym o.2.same_number ∙ e)) o.2

  letter-A : {m : Match} → m ∈ ms → (x : ℕ) → Holds m A x → (r : Match) × (r ∈ rs) × Piece m r × Holds r A x
  unfolding rows_over
  letter-A {m} i x h =
      let f = first_of (filter (holds? m.number A x) rs) (omega (arith, T.once m i x h)) in
      let g = ∈-unfilter (holds? m.number A x) rs f.1 in
      (f.0, g.0, own-piece i g.0 g.1.0, g.1.1)

  pub cover-letter :
      {m : Match} → m ∈ ms → (s : Side) (x : ℕ) → Holds m s x → (r : Match) × (r ∈ rs) × Piece m r × Holds r s x
  cover-letter i A x h = letter-A i x h
  cover-letter {m} i B y h =
      let f = faces-exist m y h in
      let c = letter-A i f.0 ((faces-holds m f.0 y f.1).1 h) in
      (c.0, c.1, c.2, (faces-holds c.0 f.0 y ((piece-faces c.2 f.0 y).0 f.1)).0 c.3)

  pub cover :
      {m : Match} → m ∈ ms → (s : Side) (h : ℕ) → Spans m s h → (r : Match) × (r ∈ rs) × Piece m r × Spans r s h
  cover {m} i s h t =
      let one = M.lettered m i in
      elim (dec_lt h (right m s)) [
        | yes l ↦ let c = cover-letter i s h (omega arith) in (c.0, c.1, c.2, omega (arith, c.3))
        | no n ↦ let c = cover-letter i s (h - 1) (omega arith) in (c.0, c.1, c.2, omega (arith, c.3))
      ]

  apart-on-A : Rising (λ r r'. ¬ Overlap r r' A) rs
  apart-on-A =
      apart-A rs (λ r x j h.
      let o = T.pieces r j in
      let held : Holds o.0 A x = omega (arith, o.2.starts_within A, o.2.ends_within A) in
      rw o.2.same_number (omega (arith, T.once o.0 o.1 x held)))

  overlap-A : (r r' : Match) → r ∈ rs → r' ∈ rs → Overlap r r' B → Overlap r r' A
  overlap-A r r' j j' o =
      let own = T.pieces r j in
      let own' = own-piece own.1 j' (sym o.0 ∙ own.2.same_number) in
      let y = o.1.0 in
      let f = faces-exist r y o.1.1 in
      let f' = (piece-faces own' f.0 y).0 ((piece-faces own.2 f.0 y).1 f.1) in
      (o.0, (f.0, (faces-holds r f.0 y f.1).1 o.1.1, (faces-holds r' f.0 y f').1 o.1.2))

  pub rows_apart : (s : Side) → Rising (λ r r'. ¬ Overlap r r' s) rs
  rows_apart A = apart-on-A
  rows_apart B =
      rising-weaken (λ r r'. ¬ Overlap r r' A) (λ r r'. ¬ Overlap r r' B) rs
      (λ r r' j j' n o. n (overlap-A r r' j j' o)) apart-on-A

  pub rows-tile : {m : Match} → m ∈ ms → (s : Side) (x : ℕ) → Holds m s x → rows_over m.number s x rs ≡ 1
  rows-tile {m} i s x h =
      let c = cover-letter i s x h in
      exactly-one m.number s x rs c.1 c.2.same_number c.3 (rows_apart s)
