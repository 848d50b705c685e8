-- A row is entered: it is held against the number at the middle whenever its place is in the later half.
--     Entering          what holds between two steps: the row's place is in the part that is left, and once the row is
--                       entered there, it is entered
--     entering-start    before the first step
--     entering-first, entering-later     a step: the place is in the first half of the part, or in the later one
--     entering-end      one place is left
-- Assumes nothing.
use Prim.Native.Nat.{ℕ, ◌+◌, ◌≤◌, ◌<◌}
use mathlib.Core.Path.{◌≡◌, refl, ap, ◌∙◌}
use mathlib.Core.Logic.{◌⊎◌, inl, inr, ⊎_elim, ◌↔◌, ◌≢◌}
use mathlib.Core.List.Memᴰ
use mathlib.Core.List.{List, ◌∷◌}
use mathlib.Core.List.Memᴰ.{head as here}
use mathlib.Core.List.Memᴰ.{tail as there}
use native.Mathlib.Omega.{arith}
use native.Mathlib.Decide.{ℕ_discrete}
use lib.ListN.{length, get_or, set, length-set}
use lib.Seq.{get_or-set_same, get_or-set_other}
use Rattle.rows.specs.declared.Row.{Row}
use Rattle.refinement.specs.Order.{◌∈◌}
use Rattle.direct_rows.specs.Direct.{place_at}
use Rattle.weighing.specs.Weighing.{better_of}
use Rattle.weighing.proofs.Top.{better-top, top-same, top-single}
use Rattle.best_rows.specs.Halves.{middle, Within, Holding, Entered}
use Rattle.best_rows.specs.Halves.Halved.{whole, halves}
use Rattle.best_rows.proofs.Halves.{middle-within, middle-there, within-alike, better-named}
use Rattle.best_rows.proofs.Halves.{halved-parts, halved-alike, halved-held}

-- a row's number, or 0, is written
holding-set :
    {rs : List Row} {held : List ℕ} (i : ℕ) {v : ℕ} → Holding rs held → v ≤ length rs → Holding rs (set held i v)
holding-set {rs} {held} i {v} h l =
    record { holding = λ j b. go j (omega (arith, length-set held i v)) (ℕ_discrete j i) }
  where
    go : (j : ℕ) → j < length held → Dec (j ≡ i) → get_or (set held i v) j 0 ≤ length rs
    go j b (yes e) = rw (e, get_or-set_same held i v 0 (omega arith)) l
    go j b (no e) = rw (get_or-set_other held i j v 0 e) (h.holding j b)

-- a number becomes the better one of itself and a row: all still name rows
holding-taken :
    (price : ℕ) {rs : List Row} (scores : List ℕ) {held : List ℕ} {i number v : ℕ}
    → v ≡ better_of price rs scores (get_or held i 0) number → Holding rs held → i < length held → number ≤ length rs
    → Holding rs (set held i v)
holding-taken price {rs} scores {i = i} e h l m =
    holding-set i h (rw e (better-named price rs scores (h.holding i l) m))

-- at places where the row is not, the same rows are entered with it
elsewhere :
    {es : List ℕ} (places : List ℕ) {number lo hi : ℕ} → (place_at places number < lo) ⊎ (hi ≤ place_at places number)
    → (k : ℕ) → lo ≤ place_at places k → place_at places k < hi → (k ∈ es) ↔ (k ∈ (number ∷ es))
elsewhere places {number} {lo} {hi} o k f t =
    (there, λ m. ⊎_elim (λ e. absurd (not_there (ap (place_at places) e) o)) (λ i. i) (Memᴰ.cases_cons m))
  where
    not_there :
        place_at places k ≡ place_at places number → (place_at places number < lo) ⊎ (hi ≤ place_at places number) → ⊥
    not_there e (inl l) = omega arith
    not_there e (inr l) = omega arith

-- a row is entered, with one more, if it was before or is that one
within-one-more :
    {number : ℕ} {es places : List ℕ} {lo hi : ℕ} → lo ≤ place_at places number → place_at places number < hi
    → (k : ℕ) → (Within es places lo hi k ⊎ (k ≡ number)) ↔ Within (number ∷ es) places lo hi k
within-one-more {number} {es} {places} {lo} {hi} f t k =
    (⊎_elim before that, λ w. go w (Memᴰ.cases_cons w.entered))
  where
    before : Within es places lo hi k → Within (number ∷ es) places lo hi k
    before w = record { entered = there w.entered; from = w.from; to = w.to }

    that : k ≡ number → Within (number ∷ es) places lo hi k
    that e = record { entered = here e; from = rw e f; to = rw e t }

    go : Within (number ∷ es) places lo hi k → (k ≡ number) ⊎ (k ∈ es) → Within es places lo hi k ⊎ (k ≡ number)
    go w (inl e) = inr e
    go w (inr i) = inl (record { entered = i; from = w.from; to = w.to })

module _ {price : ℕ} {rs : List Row} {scores held : List ℕ} {lo hi place number : ℕ} where
  -- of one place alone there is no number
  entered-whole : hi ≤ lo + 1 → Holding rs held → Entered price rs scores held lo hi place number held
  entered-whole l h = record { holding = h; kept = λ i o. refl; halved = λ es places e b. whole l }

  module _ {held' : List ℕ} (l : lo + 1 < hi) where
    -- the place is in the first half ..
    entered-first :
        place < middle lo hi → Entered price rs scores held lo (middle lo hi) place number held'
        → Entered price rs scores held lo hi place number held'
    entered-first b e = record {
      holding = e.holding;
      kept = λ i o. e.kept i (⊎_elim inl (λ m. inr (omega (arith, middle-within lo hi l))) o);
      halved = λ es places p h.
          let parts = halved-parts l h in
          halves l
          (rw (e.kept (middle lo hi) (inr (omega arith)))
          (top-same (within-alike (elsewhere places (inl (omega arith)))) parts.0))
          (e.halved es places p parts.1)
          (halved-alike (λ k i. refl) (elsewhere places (inl (omega arith)))
          (λ i f t. e.kept i (inr (omega arith))) parts.2);
    }

    -- .. or in the later one
    entered-later :
        {v : ℕ} → 1 ≤ number → middle lo hi ≤ place → place < hi → hi ≤ length held
        → v ≡ better_of price rs scores (get_or held (middle lo hi) 0) number
        → Entered price rs scores (set held (middle lo hi) v) (middle lo hi) hi place number held'
        → Entered price rs scores held lo hi place number held'
    entered-later {v} r b t m q e = record {
      holding = e.holding;
      kept = λ i o. kept i (⊎_elim (λ u. inl (omega (arith, middle-within lo hi l))) inr o);
      halved = λ es places p h.
          let parts = halved-parts l h in
          halves l
          (rw taken
          (top-same (within-one-more (omega arith) (omega arith))
          (better-top (Within es places (middle lo hi) hi) (λ k. k ≡ number) parts.0 (top-single r))))
          (halved-alike (λ k i. refl) (elsewhere places (inr (omega arith))) (λ i f t. kept i (inl t)) parts.1)
          (e.halved es places p (halved-held (λ i f u. other i (λ o. omega arith)) parts.2));
    }
      where
        taken : get_or held' (middle lo hi) 0 ≡ better_of price rs scores (get_or held (middle lo hi) 0) number
        taken =
            e.kept (middle lo hi) (inl (omega arith))
            ∙ get_or-set_same held (middle lo hi) v 0 (middle-there lo hi l m) ∙ q

        other : (i : ℕ) → i ≢ middle lo hi → get_or (set held (middle lo hi) v) i 0 ≡ get_or held i 0
        other i o = get_or-set_other held (middle lo hi) i v 0 o

        kept : (i : ℕ) → (i < middle lo hi) ⊎ (hi ≤ i) → get_or held' i 0 ≡ get_or held i 0
        kept i (inl u) = e.kept i (inl (omega arith)) ∙ other i (λ o. omega arith)
        kept i (inr u) = e.kept i (inr u) ∙ other i (λ o. omega (arith, middle-within lo hi l))

-- the part from lo up to hi is left, and held₀ is what the numbers were at first
pub record Entering (price : ℕ) (rs : List Row) (scores : List ℕ) (count place number : ℕ) (held₀ : List ℕ)
    (lo hi : ℕ) (held : List ℕ) : Type 0 where
  pub from : lo ≤ place
  pub to : place < hi
  pub within : hi ≤ count
  pub as_long : length held ≡ length held₀
  pub holding : Holding rs held
  pub rest :
      (held' : List ℕ) → Entered price rs scores held lo hi place number held'
      → Entered price rs scores held₀ 0 count place number held'

module _ {price : ℕ} {rs : List Row} {scores : List ℕ} {count place number : ℕ} {held₀ : List ℕ} where
  pub entering-start :
      Holding rs held₀ → place < count → Entering price rs scores count place number held₀ 0 count held₀
  entering-start h l =
      record { from = omega arith; to = l; within = omega arith; as_long = refl; holding = h; rest = λ _ e. e }

  module _ {lo hi : ℕ} {held : List ℕ} (s : Entering price rs scores count place number held₀ lo hi held) where
    pub entering-end : hi ≤ lo + 1 → Entered price rs scores held₀ 0 count place number held
    entering-end l = s.rest held (entered-whole l s.holding)

    module _ (l : lo + 1 < hi) where
      pub entering-first :
          place < middle lo hi → Entering price rs scores count place number held₀ lo (middle lo hi) held
      entering-first b =
          record {
            from = s.from;
            to = b;
            within = omega (arith, middle-within lo hi l, s.within);
            as_long = s.as_long;
            holding = s.holding;
            rest = λ held' e. s.rest held' (entered-first l b e);
          }

      module _ (room : count ≤ length held₀) where
        within_held : middle lo hi < length held
        within_held = middle-there lo hi l (omega (arith, s.within, s.as_long))

        pub entering-later :
            {v : ℕ} → 1 ≤ number → number ≤ length rs → middle lo hi ≤ place
            → v ≡ better_of price rs scores (get_or held (middle lo hi) 0) number
            → Entering price rs scores count place number held₀ (middle lo hi) hi (set held (middle lo hi) v)
        entering-later {v} one last b q =
            record {
              from = b;
              to = s.to;
              within = s.within;
              as_long = length-set held (middle lo hi) v ∙ s.as_long;
              holding = holding-taken price scores q s.holding within_held last;
              rest = λ held' e.
                  s.rest held' (entered-later l one b s.to (omega (arith, s.within, s.as_long)) q e);
            }
