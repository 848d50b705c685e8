-- Carrying as a relation without subtraction, and what it does to a match and its pieces. Direct:
-- x + left-B = y + left-A; reversed: x + y = left-A + left-B + length. The relation is symmetric, so each law here is
-- one line for each direction.
--     Meets m s x y            x on the side s of m stands beside y on its other side
--     carry-meets, meets-carry what m carries x to is the one position beside it
--     carry-spans, carry_back  carrying stays on the match, and carrying back returns
--     left-spanned, right-spanned, end-spanned, end-or-inside     a spanned position is an end or lies strictly inside
--     meets-back, meets-inside, meets-end            beside both ways, strictly inside or at ends on both sides
--     piece-unmeets, piece-end, piece-carry, piece-spans          a piece carries as its match does
--     piece-of                 what is made between two positions of a match is a piece of it
--     Faces, faces-..          the same for the letters x on A and y on B
--     between-bounds, -below, -from                  the test of the code, given two ends
--     spanned-iff, between-spanned, ends-span        .. and given a length: each is Spans, and they answer alike
--     answer-kept              so the test's answer is kept for each match and position
--     carry-ends, carry-room   the code's formula, given the ends there, is 01's, and goes no further than these
-- Assumes nothing.
use Prim.Native.Nat.{ℕ, suc, ◌+◌, ◌-◌, ◌≤◌, ◌<◌, min}
use mathlib.Core.Path.{◌≡◌, refl, sym, subst, ap, ◌∙◌}
use mathlib.Core.Bool.{Bool, true, false, and-eq-true_iff}
use mathlib.Core.Logic.{◌↔◌, ◌⊎◌, inl, inr, ⊎_elim}
use native.Mathlib.Omega.{arith}
use native.Mathlib.Decide.{ℕ_discrete}
use lib.Dec.{leb}
use borrow.Author.Tests.{leb-true, le-leb, lt-leb}
use Rattle.refinement.specs.declared.Side.{Side}
use Rattle.refinement.specs.declared.Side.TheVariants.{A, B}
use Rattle.refinement.specs.Match.{Match, other, left, right, Spans, spanned, carry_over, carry}
use Rattle.refinement.specs.Match.{between, AnswerKept, carry_to}
use Rattle.refinement.specs.Refinement.{Piece, Holds, Inside, facing_left, facing_right}
use Rattle.refinement.specs.Least.{piece_of}

abbrev MeetsBy : Bool → ℕ → ℕ → ℕ → ℕ → ℕ → Type 0
MeetsBy false i k d x y = x + k ≡ y + i
MeetsBy true i k d x y = x + y ≡ i + k + d

abbrev pub Meets : Match → Side → ℕ → ℕ → Type 0
Meets m s x y = MeetsBy m.reversed (left m s) (left m (other s)) m.length x y

carried-meets : (b : Bool) (i k d h : ℕ) → i ≤ h → h ≤ i + d → MeetsBy b i k d h (carry_over b i k d h)
carried-meets false i k d h l r = omega arith
carried-meets true i k d h l r = omega arith

-- all that is linear: one position beside x, x beside y the other way round, and bounds on both sides
record Beside (b : Bool) (i k d x y : ℕ) : Type 0 where
  unique : (z : ℕ) → MeetsBy b i k d x z → z ≡ y
  back : MeetsBy b k i d y x
  on : i ≤ x → x ≤ i + d → (k ≤ y) × (y ≤ k + d)
  inside : i < x → x < i + d → (k < y) × (y < k + d)

beside : (b : Bool) (i k d x y : ℕ) → MeetsBy b i k d x y → Beside b i k d x y
beside false i k d x y p = omega arith
beside true i k d x y p = omega arith

ends-meet : (b : Bool) (i k d x y : ℕ) → MeetsBy b i k d x y → (x ≡ i) ⊎ (x ≡ i + d) → (y ≡ k) ⊎ (y ≡ k + d)
ends-meet false i k d x y p (inl e) = inl (omega arith)
ends-meet false i k d x y p (inr e) = inr (omega arith)
ends-meet true i k d x y p (inl e) = inr (omega arith)
ends-meet true i k d x y p (inr e) = inl (omega arith)

-- 01: "i ≤ h ≤ j includes both"
pub left-spanned : (m : Match) (s : Side) → Spans m s (left m s)
left-spanned m s = omega arith

pub right-spanned : (m : Match) (s : Side) → Spans m s (right m s)
right-spanned m s = omega arith

pub end-spanned : (m : Match) (s : Side) (h : ℕ) → (h ≡ left m s) ⊎ (h ≡ right m s) → Spans m s h
end-spanned m s h e = ⊎_elim (λ f. rw f (left-spanned m s)) (λ f. rw f (right-spanned m s)) e

pub end-or-inside : (m : Match) (s : Side) (h : ℕ) → Spans m s h → ¬ Inside m s h → (h ≡ left m s) ⊎ (h ≡ right m s)
end-or-inside m s h t n = go (ℕ_discrete h (left m s)) (ℕ_discrete h (right m s))
  where
    go : Dec (h ≡ left m s) → Dec (h ≡ right m s) → (h ≡ left m s) ⊎ (h ≡ right m s)
    go (yes e) d = inl e
    go (no e) (yes f) = inr f
    go (no e) (no f) = absurd (n (omega arith))

pub carry-meets : (m : Match) (s : Side) (h : ℕ) → Spans m s h → Meets m s h (carry m s h)
carry-meets m s h t =
    carried-meets m.reversed (left m s) (left m (other s)) m.length h (omega arith) (omega arith)

module _ (m : Match) where
  next-to : (s : Side) (x y : ℕ) → Meets m s x y → Beside m.reversed (left m s) (left m (other s)) m.length x y
  next-to s x y p = beside m.reversed (left m s) (left m (other s)) m.length x y p

  pub meets-carry : (s : Side) (x y : ℕ) → Spans m s x → Meets m s x y → carry m s x ≡ y
  meets-carry s x y t p = (next-to s x y p).unique (carry m s x) (carry-meets m s x t)

  pub meets-back : (s : Side) (x y : ℕ) → Meets m s x y → Meets m (other s) y x
  meets-back A x y p = (next-to A x y p).back
  meets-back B x y p = (next-to B x y p).back

  pub meets-inside : (s : Side) (x y : ℕ) → Meets m s x y → Inside m s x → Inside m (other s) y
  meets-inside s x y p t =
      omega (arith, (next-to s x y p).inside (omega arith) (omega arith))

  pub meets-end :
      (s : Side) (x y : ℕ) → Meets m s x y → (x ≡ left m s) ⊎ (x ≡ right m s)
      → (y ≡ left m (other s)) ⊎ (y ≡ right m (other s))
  meets-end s x y p e = ends-meet m.reversed (left m s) (left m (other s)) m.length x y p e

  pub carry-spans : (s : Side) (h : ℕ) → Spans m s h → Spans m (other s) (carry m s h)
  carry-spans s h t =
      omega (arith, (next-to s h (carry m s h) (carry-meets m s h t)).on (omega arith) (omega arith))

  pub carry_back : (s : Side) (h : ℕ) → Spans m s h → carry m (other s) (carry m s h) ≡ h
  carry_back s h t =
      meets-carry (other s) (carry m s h) h (carry-spans s h t) (meets-back s h (carry m s h) (carry-meets m s h t))

-- A piece's left end on A stands beside the end on B that faces it, so piece and match have one offset.
offset :
    (b : Bool) (m r : Match) → MeetsBy b (left m A) (left m B) m.length (left r A) (facing_left b r) → (x y : ℕ)
    → MeetsBy b (left m A) (left m B) m.length x y ↔ MeetsBy b (left r A) (left r B) r.length x y
offset false m r e x y = omega arith
offset true m r e x y = omega arith

-- The letters x on A and y on B stand beside each other if x stands beside the end of y that comes first.
abbrev before : Bool → ℕ → ℕ
before false y = y
before true y = suc y

abbrev pub Faces : Match → ℕ → ℕ → Type 0
Faces m x y = Meets m A x (before m.reversed y)

faces-on :
    (b : Bool) (i k d x y : ℕ) → MeetsBy b i k d x (before b y) → ((i ≤ x) × (x < i + d)) ↔ ((k ≤ y) × (y < k + d))
faces-on false i k d x y p = omega arith
faces-on true i k d x y p = omega arith

faced : (b : Bool) (i k d y : ℕ) → k ≤ y → y < k + d → (x : ℕ) × MeetsBy b i k d x (before b y)
faced false i k d y l r = (i + (y - k), omega arith)
faced true i k d y l r = (i + d - suc (y - k), omega arith)

pub faces-holds : (m : Match) (x y : ℕ) → Faces m x y → Holds m A x ↔ Holds m B y
faces-holds m x y f =
    let on = faces-on m.reversed (left m A) (left m B) m.length x y f in
    (λ h. omega (arith, on.0 (omega arith)), λ h. omega (arith, on.1 (omega arith)))

pub faces-exist : (m : Match) (y : ℕ) → Holds m B y → (x : ℕ) × Faces m x y
faces-exist m y h = faced m.reversed (left m A) (left m B) m.length y h.from_left h.before_right

module _ {m r : Match} (p : Piece m r) where
  pub piece-spans : (s : Side) (h : ℕ) → Spans r s h → Spans m s h
  piece-spans s h t = let l = p.starts_within s in let k = p.ends_within s in omega arith

  same-offset : (x y : ℕ) → Meets m A x y ↔ MeetsBy m.reversed (left r A) (left r B) r.length x y
  same-offset x y =
      let l = carry-meets m A (left r A) (piece-spans A (left r A) (left-spanned r A)) in
      offset m.reversed m r
      (subst (λ (b : Bool). MeetsBy m.reversed (left m A) (left m B) m.length (left r A) (facing_left b r))
      p.same_direction (rw p.left_carries at l))
      x y

  pub piece-faces : (x y : ℕ) → Faces m x y ↔ Faces r x y
  piece-faces x y = rw p.same_direction (same-offset x (before m.reversed y))

  meets-A : (x y : ℕ) → Meets m A x y ↔ Meets r A x y
  meets-A x y = rw p.same_direction (same-offset x y)

  piece-meets : (s : Side) (x y : ℕ) → Meets m s x y → Meets r s x y
  piece-meets A x y h = (meets-A x y).0 h
  piece-meets B x y h = meets-back r A y x ((meets-A y x).0 (meets-back m B x y h))

  pub piece-unmeets : (x y : ℕ) → Meets r A x y → Meets m A x y
  piece-unmeets x y h = (meets-A x y).1 h

  -- Where a piece is cut on one side, it is cut at what its match carries that to.
  pub piece-end :
      (s : Side) (h : ℕ) → Spans m s h → (h ≡ left r s) ⊎ (h ≡ right r s)
      → (carry m s h ≡ left r (other s)) ⊎ (carry m s h ≡ right r (other s))
  piece-end s h t e = meets-end r s h (carry m s h) (piece-meets s h (carry m s h) (carry-meets m s h t)) e

  pub piece-carry : (s : Side) (h : ℕ) → Spans r s h → carry r s h ≡ carry m s h
  piece-carry s h t =
      meets-carry r s h (carry m s h) t (piece-meets s h (carry m s h) (carry-meets m s h (piece-spans s h t)))

-- a piece made of the two positions x and y on A and what they carry to, u and v
made :
    (b : Bool) (i k d x y u v : ℕ) (r : Match) → MeetsBy b i k d x u → MeetsBy b i k d y v → i ≤ x → x < y → y ≤ i + d
    → r.left_b ≡ min u v → r.length ≡ y - x
    → (k ≤ left r B) × (right r B ≤ k + d) × (u ≡ facing_left b r) × (v ≡ facing_right b r)
made false i k d x y u v r p q l n h e f = omega arith
made true i k d x y u v r p q l n h e f = omega arith

pub piece-of : (m : Match) (x y : ℕ) → left m A ≤ x → x < y → y ≤ right m A → Piece m (piece_of m x y)
unfolding piece_of
piece-of m x y l n h =
    let f =
    made m.reversed (left m A) (left m B) m.length x y (carry m A x) (carry m A y) (piece_of m x y)
    (carry-meets m A x (omega arith)) (carry-meets m A y (omega arith)) l n h refl refl
    in
    let stop : x + (y - x) ≡ y = omega arith in
    record {
      same_number = refl;
      same_track = λ s. elim s [ A ↦ refl | B ↦ refl ];
      same_direction = refl;
      lettered = omega arith;
      starts_within = λ s. elim s as (λ k. left m k ≤ left (piece_of m x y) k) [ A ↦ l | B ↦ f.0 ];
      ends_within = λ s. elim s as (λ k. right (piece_of m x y) k ≤ right m k) [ A ↦ omega arith | B ↦ f.1 ];
      left_carries = f.2;
      right_carries = ap (carry m A) stop ∙ f.3;
    }

-- The test of the code, and its formula. `spanned i d` is `between i (i + d)`.
pub between-bounds : (i g h : ℕ) → between i g h ≡ true → (i ≤ h) × (h ≤ g)
between-bounds i g h e =
    let both = (and-eq-true_iff (leb i h) (leb h g)).0 e in
    (leb-true i h both.0, leb-true h g both.1)

pub between-below : (i g h : ℕ) → h < i → false ≡ between i g h
between-below i g h l = rw (lt-leb i h l)

pub between-from : (i g h : ℕ) → i ≤ h → leb h g ≡ between i g h
between-from i g h l = rw (le-leb i h l)

pub spanned-iff : (m : Match) (s : Side) (h : ℕ) → (spanned (left m s) m.length h ≡ true) ↔ Spans m s h
spanned-iff m s h = (
  λ e. omega (arith, between-bounds (left m s) (right m s) h e),
  λ t. sym (between-from (left m s) (right m s) h t.from_left) ∙ le-leb h (right m s) t.to_right,
)

pub between-spanned : (i d : ℕ) {g : ℕ} → g ≡ i + d → (h : ℕ) → between i g h ≡ spanned i d h
between-spanned i d e h = ap (λ (z : ℕ). between i z h) e

pub ends-span : (m : Match) (s : Side) (h : ℕ) {g : ℕ} → g ≡ right m s → (between (left m s) g h ≡ true) ↔ Spans m s h
ends-span m s h e =
    let same = between-spanned (left m s) m.length e h in
    (λ t. (spanned-iff m s h).0 (sym same ∙ t), λ t. same ∙ (spanned-iff m s h).1 t)

pub answer-kept :
    (i g h : ℕ) {answer : Bool} → answer ≡ between i g h → (answer ≡ between i g h) × AnswerKept i g h answer
answer-kept i g h a = (
  a,
  record {
    kept = λ d e. a ∙ between-spanned i d e h;
    spans = λ m s e f. rw (a, e) (ends-span m s h f);
  },
)

pub carry-ends : (b : Bool) (i k d h : ℕ) {l : ℕ} → l ≡ k + d → carry_to b i k l h ≡ carry_over b i k d h
carry-ends false i k d h e = refl
carry-ends true i k d h e = ap (λ (z : ℕ). z - (h - i)) e

pub carry-room :
    (i g k l h : ℕ) → k + (g - i) ≡ l → between i g h ≡ true → (i ≤ h) × (k + (h - i) ≤ l)
carry-room i g k l h e s = let on = between-bounds i g h s in (on.0, omega (arith, on.0, on.1))
