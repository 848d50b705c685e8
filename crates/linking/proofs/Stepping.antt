-- The best chain from the next row, by the best row that may follow it.
--     top-none, top_one, top-best     there is none of the rows asked for; it is one of them; no other is better
--     onward                          the link to the best follower, made or not, begins the best chain
--     extendable                      what is asked of the two rows: the sum fits 32 bits
-- Assumes nothing.
use Prim.Native.Nat.{ℕ, ◌+◌, ◌≤◌}
use mathlib.Core.List.{List, [], ◌∷◌}
use native.Mathlib.Omega.{arith}
use lib.ListN.{length}
use Rattle.rows.specs.declared.Row.{Row}
use Rattle.refinement.specs.declared.Side.TheVariants.{A, B}
use Rattle.table.specs.Covering.{right_of}
use Rattle.backbone.specs.Chains.{row_numbered, Direct, Follows, skipped}
use Rattle.best_chains.specs.Best.{Apart, Outdone, Known}
use Rattle.best_chains.proofs.Chains.{score-bound}
use Rattle.best_chains.proofs.Best.{outdone-most, best-alone, best-linked}
use Rattle.weighing.specs.Weighing.{Top, none, some, NoWorse, score_at}
use Rattle.weighing.proofs.Top.{link-no-worse}
use Rattle.walking.specs.Trail.{ends}
use Rattle.linking.specs.Linking.{LinkedRow, cost_of, Extendable, Extended, Onward}
use Rattle.linking.specs.declared.Link.{Link}
use Rattle.linking.proofs.Following.{Follower}

module _ {price : ℕ} {rs : List Row} {scores : List ℕ} {P : ℕ → Type 0} where
  top-none : Top price rs scores P 0 → (k : ℕ) → ¬ P k
  top-none (none f) = f
  top-none (some l p best) = absurd (omega arith)

  top_one : {v : ℕ} → 1 ≤ v → Top price rs scores P v → P v
  top_one l (none f) = absurd (omega arith)
  top_one l (some l' p best) = p

  top-best : {v : ℕ} → 1 ≤ v → Top price rs scores P v → (k : ℕ) → P k → NoWorse price rs scores v k
  top-best l (none f) = absurd (omega arith)
  top-best l (some l' p best) = best

module _ {price : ℕ} {rs : List Row} {links scores : List ℕ} {k next : ℕ} (direct : Direct rs k)
    (linked : (j : ℕ) → Follower rs k j → LinkedRow price rs links scores j)
    (top : Top price rs scores (Follower rs k) next) where
  -- no other link has a higher sum, or the same and a lower number
  best-sum : 1 ≤ next → (i : ℕ) → Follower rs k i
      → Outdone (score_at scores i + cost_of price rs k next) (score_at scores next + cost_of price rs k i) next i
  best-sum l i f =
      let n = top_one l top in
      link-no-worse (top-best l top i f) (right_of A (row_numbered rs k) + right_of B (row_numbered rs k))
      (skipped (row_numbered rs k) (row_numbered rs next)) (skipped (row_numbered rs k) (row_numbered rs i))
      (omega (arith, n.follows.at_or_past A, n.follows.at_or_past B))
      (omega (arith, f.follows.at_or_past A, f.follows.at_or_past B))

  -- the best chain from a row that may follow is known
  known : (P : ℕ → Type 0) (i : ℕ) → Direct rs i → Follows (row_numbered rs k) (row_numbered rs i)
      → (Follower rs k i → P (score_at scores i)) → Known price rs i P
  known P i d f such =
      let follower : Follower rs k i = record { direct = d; follows = f } in
      let row = linked i follower in
      record { rest = row.rest; score = score_at scores i; best = row.best; such = such follower }

  pub onward : {r : Link} → Extended rs scores price k next r → Onward price rs links k r.next r.score
  onward (Extended.none e ends-here scored) =
      let none-follow = top-none (rw e at top) in
      let alone = best-alone price rs direct λ j d f. absurd (none-follow j (record { direct = d; follows = f })) in
      record { rest = []; best = rw scored alone; trail = rw ends-here ends }
  onward (Extended.lost l low ends-here scored) =
      let alone = best-alone price rs direct λ j d f.
      known (λ s. s ≤ cost_of price rs k j) j d f λ g. omega (arith, outdone-most (best-sum l j g)) in
      record { rest = []; best = rw scored alone; trail = rw ends-here ends }
  onward (Extended.gained l gain goes_on scored) =
      let n = top_one l top in
      let row = linked next n in
      let sum = score_at scores next in
      let both = best-linked price rs direct n.follows row.best gain λ i d f.
      known (λ s. Outdone (s + cost_of price rs k next) (sum + cost_of price rs k i) next i) i d f (best-sum l i) in
      record { rest = next ∷ row.rest; best = rw scored both; trail = rw goes_on row.trail }

  pub extendable : Apart rs → length rs ≤ length scores → price ≤ 1000 → next ≤ length rs
      → Extendable rs scores price k next
  extendable apart room priced named =
      record {
        direct = direct;
        scored = room;
        priced = priced;
        named = named;
        follows = λ l. (top_one l top).follows;
        fits = λ l.
            let n = top_one l top in
            omega (arith, n.follows.at_or_past A, score-bound apart (linked next n).best);
      }
