-- Where linking starts, and what it comes to.
--     linked-none      with the direct rows arranged and none entered, no row is linked yet
--     Told, told       with all rows linked, the links lead from the first row through the backbone
-- Assumes nothing.
use Prim.Native.Nat.{ℕ, ◌*◌, ◌≤◌}
use mathlib.Core.Path.{◌≡◌, refl}
use mathlib.Core.Logic.{◌⊎◌, inl, inr}
use mathlib.Core.List.Memᴰ
use mathlib.Core.List.{List, [], ◌∷◌}
use native.Mathlib.Omega.{arith}
use lib.ListN.{length, take}
use borrow.Author.Tests.{ne_eqb}
use Rattle.rows.specs.declared.Row.{Row}
use Rattle.backbone.specs.Chains.{Direct}
use Rattle.backbone.specs.Backbone.{Backbone}
use Rattle.best_chains.specs.Best.{Apart, Known, Outdone}
use Rattle.best_chains.proofs.Chains.{chain-short}
use Rattle.best_chains.proofs.Backbones.{backbone-from, backbone-none}
use Rattle.weighing.specs.Weighing.{score_at}
use Rattle.best_rows.proofs.Halves.{halved-empty}
use Rattle.walking.specs.Trail.{Trail, ends}
use Rattle.linking.specs.Linking.{links_in, Linked, Foremost}
use Rattle.finding_chain.specs.Finding.{Begun, points_at}

module _ {price : ℕ} {rs : List Row} {work scores : List ℕ} {d : ℕ} where
  pub linked-none :
      Begun rs work d → 4 * length rs ≤ length work → length rs ≤ length scores → Linked price rs d 0 work scores 0
  linked-none b w s =
      record {
        places = links_in (length rs) work;
        arranged = b.arranged;
        counted = b.counted;
        so_far = omega arith;
        work_room = w;
        score_room = s;
        waiting = λ i l h. refl;
        linked = λ k m. absurd (Memᴰ.not-nil m);
        holding = record { holding = λ i h. omega (arith, b.none_held i) };
        halved = halved-empty (λ i _ _. b.none_held i);
        begins = inl (refl, refl);
      }

-- the links lead from the first row through the backbone
pub record Told (price : ℕ) (rs : List Row) (work scores : List ℕ) (first : ℕ) : Type 0 where
  pub chain : List ℕ
  pub trail : Trail (links_in (length rs) work) first chain
  pub backbone : Backbone price rs chain (points_at scores first)
  pub short : length chain ≤ length rs
  pub there : first ≤ length rs

module _ {price : ℕ} {rs : List Row} {work scores : List ℕ} {d first : ℕ} (apart : Apart rs)
    (l : Linked price rs d d work scores first) where
  -- with no direct row
  none_told : d ≡ 0 → first ≡ 0 → Told price rs work scores first
  none_told z f =
      let no_row : (k : ℕ) → ¬ Direct rs k = λ k q. Memᴰ.not-nil (rw z at ((l.arranged.direct k).1 q)) in
      rw f
      (record {
        chain = [];
        trail = ends;
        backbone = backbone-none price rs no_row;
        short = omega arith;
        there = omega arith;
      })

  -- with some, from the foremost
  some-told : Foremost scores (take d work) first → Told price rs work scores first
  some-told m =
      let row = l.linked first m.one in
      let q = (l.arranged.direct first).0 m.one in
      let known : (j : ℕ) → Direct rs j → Known price rs j (λ n. Outdone n (score_at scores first) first j) = λ j r.
      let i = (l.arranged.direct j).1 r in
      let other = l.linked j i in
      record { rest = other.rest; score = score_at scores j; best = other.best; such = m.most j i }
      in
      record {
        chain = first ∷ row.rest;
        trail = row.trail;
        backbone =
            rw (ne_eqb first 0 (λ z. omega (arith, q.from_one))) (backbone-from price rs row.best known apart);
        short = chain-short apart row.best.chain;
        there = q.to_last;
      }

  -- either way
  told-by : ((d ≡ 0) × (first ≡ 0)) ⊎ Foremost scores (take d work) first → Told price rs work scores first
  told-by (inl z) = none_told z.0 z.1
  told-by (inr m) = some-told m

  pub told : Told price rs work scores first
  told = told-by l.begins
