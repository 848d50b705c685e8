-- What a pass over the rows keeps.
--     SameRoom           the arrays are as long as they were
--     Passing            the first k rows are taken in
--     passing-starts, passing-more     before the first row, and after one more
-- Assumes nothing.
use Prim.Native.Nat.{ℕ, ◌+◌, ◌≤◌, ◌<◌}
use mathlib.Core.Path.{◌≡◌, sym, ◌∙◌}
use mathlib.Core.List.{List}
use native.Mathlib.Omega.{arith}
use lib.ListN.{length, take}
use Rattle.refinement.specs.declared.Side.{Side}
use Rattle.rows.specs.Rows.{row_at}
use Rattle.rows.specs.declared.Row.{Row}
use Rattle.table.specs.Tally.{is_covered}
use Rattle.table.proofs.Covers.{covered_more}
use Rattle.table.proofs.Tally.{within-behind}
use Rattle.row_stretches.specs.Passes.{end, StretchOf, under_pass, Running, TakenIn}
use Rattle.stretches.specs.declared.Stretch.{Stretch}
use Rattle.row_stretches.specs.declared.Pass.{Pass}
use Rattle.stretches.proofs.Adding.{stored-none, under_none}

-- the arrays are as long as they were
pub record SameRoom (lows₀ highs₀ lows highs : List ℕ) : Type 0 where
  pub low : length lows ≡ length lows₀
  pub high : length highs ≡ length highs₀

pub record Passing (s : Side) (rs : List Row) (from : ℕ) (lows highs : List ℕ) (p : Pass) (k : ℕ) : Type 0 where
  pub rows : k ≤ length rs
  pub running : Running from lows highs p
  pub shorter : p.store.to ≤ end
  pub all : (h : ℕ) → from ≤ h → h < p.store.to → under_pass lows highs p h ≡ is_covered s (take k rs) h

pub passing-starts : (s : Side) (rs : List Row) {from to : ℕ} (lows highs : List ℕ) → length highs ≡ length lows
    → from < to → to ≤ end → Passing s rs from lows highs (record { store = record { used = 0; to = to }; run = record { low = from; high = from } }) 0
unfolding is_covered
passing-starts s rs {from} {to} lows highs as_many onward inside =
    record {
      rows = omega arith;
      running = record {
        held = record { room = omega arith; as_many = as_many; onward = onward; stored = stored-none from to };
        order = omega arith;
      };
      shorter = inside;
      all = λ h l l'. rw (within-behind from from h l) (under_none h);
    }

pub passing-more : {s : Side} {rs : List Row} {from : ℕ} {lows highs lows' highs' : List ℕ} {p p' : Pass} {k : ℕ}
    {x : Stretch} → Passing s rs from lows highs p k → k < length rs → StretchOf s (row_at rs k) x
    → TakenIn from x lows highs p lows' highs' p' → Passing s rs from lows' highs' p' (k + 1)
passing-more {s} {rs} {k = k} g inside it t =
    record {
      rows = omega arith;
      running = t.running;
      shorter = omega (arith, t.shorter, g.shorter);
      all = λ h l l'.
          t.more h l l'
          ∙ rw (g.all h l (omega (arith, t.shorter)), it.left, it.right) (sym (covered_more s rs k h inside));
    }
