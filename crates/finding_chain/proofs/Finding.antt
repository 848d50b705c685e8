-- The backbone as it is written out, and the lent buffers after it.
--     links-lead        the links lead through a chain for which there is room
--     chain-found       written out, it is what was to be found
--     front-found       what is found with the front of the work buffer is found with the whole
-- Assumes nothing.
use Prim.Native.Nat.{ℕ, zero, suc, ◌-◌, ◌*◌, ◌≤◌}
use mathlib.Core.Path.{◌≡◌, refl, ap, sym, ◌∙◌}
use mathlib.Core.List.{List, ◌∷◌, ◌++◌}
use native.Mathlib.Omega.{arith}
use lib.ListN.{length, take, drop, replicate, take-append-drop}
use lib.Seq.{take_at, drop_at}
use Rattle.rows.specs.declared.Row.{Row}
use Rattle.refining.specs.Refining.{zeroed}
use Rattle.walking.specs.Trail.{Trail, Leads, Written}
use Rattle.finding_chain.specs.declared.Found.{Found}
use Rattle.finding_chain.specs.Finding.{Findable, FoundChain, points_at}
use Rattle.finding_chain.proofs.Linking.{Told}

module _ {price : ℕ} {rs : List Row} {work scores : List ℕ} {first : ℕ} (t : Told price rs work scores first) {n : ℕ}
    (count : n ≡ length rs) where
  -- the part of the work buffer that is lent has the links
  trail-lent : Trail (take (2 * n - n) (drop n work)) first t.chain
  trail-lent =
      let once : 2 * n - n ≡ n = omega arith in rw (once, count) t.trail

  pub links-lead : {room : ℕ} → length rs ≤ room → Leads (take (2 * n - n) (drop n work)) first room
  links-lead h = record { through = t.chain; trail = trail-lent; fits = omega (arith, t.short) }

  pub chain-found :
      {work₀ chain scores₀ work' chain' scores' : List ℕ} (r : Found) → length rs ≤ length chain
      → Written (take (2 * n - n) (drop n work)) first chain chain' r.length → r.score ≡ points_at scores first
      → work' ≡ zeroed work₀ → scores' ≡ zeroed scores₀
      → FoundChain rs price work₀ chain scores₀ r work' chain' scores'
  chain-found {chain} r h w p zero-work zero-scores =
      let ks = t.chain in
      let long = (w.written ks trail-lent).0 in
      let made = (w.written ks trail-lent).1 in
      let rest = drop (length ks) chain in
      record {
        backbone = rw (made, take_at ks rest r.length (sym long), p) t.backbone;
        within = omega (arith, t.short);
        past = rw made (drop_at ks rest r.length (sym long) ∙ ap (λ m. drop m chain) (sym long));
        work_zero = zero-work;
        scores_zero = zero-scores;
      }

-- a part of a buffer that is zero is zero
take-zero : (m n : ℕ) → take m (replicate n 0) ≡ zeroed (take m (replicate n 0))
take-zero zero n = refl
take-zero (suc m) zero = refl
take-zero (suc m) (suc n) = ap (0 ∷◌) (take-zero m n)

module _ {rs : List Row} {price : ℕ} {work chain scores : List ℕ} (f : Findable rs price work chain scores) (m : ℕ)
  where
    -- the front is zero, as the whole is
    front-zero : take m work ≡ zeroed (take m work)
    front-zero = rw f.work_clear (take-zero m (length work))

    pub front-found :
        {r : Found} {front chain' scores' : List ℕ}
        → FoundChain rs price (take m work) chain scores r front chain' scores'
        → FoundChain rs price work chain scores r (front ++ drop m work) chain' scores'
    front-found {front} g =
        record {
          backbone = g.backbone;
          within = g.within;
          past = g.past;
          work_zero =
              ap (◌++ drop m work) (g.work_zero ∙ sym front-zero) ∙ take-append-drop m work ∙ f.work_clear;
          scores_zero = g.scores_zero;
        }
