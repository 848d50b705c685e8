-- The loop that finds the best row behind a place: it halves the places about it, and takes in the later half whenever
-- the place is in the first.
--     Nearing           the loop's invariant: the place is one of those from lo up to hi, the numbers there are right,
--                       and the row is the best of those at hi or behind
--     middle-named      what the middle has is a row's number, or 0
--     nearing-start, nearing-first, nearing-later     the start, and the place in either half
-- Assumes nothing.
use Prim.Native.Nat.{ℕ, ◌+◌, ◌≤◌, ◌<◌}
use mathlib.Core.Logic.{◌⊎◌, inl, inr, ⊎_elim, ◌↔◌}
use mathlib.Core.List.{List}
use native.Mathlib.Omega.{arith}
use native.Mathlib.Decide.{dec_lt}
use lib.ListN.{length, get_or}
use Rattle.rows.specs.declared.Row.{Row}
use Rattle.direct_rows.specs.Direct.{place_at}
use Rattle.weighing.specs.Weighing.{Top, better_of}
use Rattle.weighing.specs.Weighing.Top.{none}
use Rattle.weighing.proofs.Top.{better-top, top-same}
use Rattle.best_rows.specs.Halves.{middle, Within, Halved, Holding}
use Rattle.best_rows.proofs.Halves.{middle-within, middle-there, halved-parts, better-named}

pub record Nearing (price : ℕ) (rs : List Row) (scores held : List ℕ) (count place lo hi best : ℕ) : Type 0 where
  pub from : lo ≤ place
  pub to : place < hi
  pub end : hi ≤ count
  pub named : best ≤ length rs
  pub halved :
      (es places : List ℕ) → Halved price rs scores es places held 0 count
      → Halved price rs scores es places held lo hi
  pub behind :
      (es places : List ℕ) → Halved price rs scores es places held 0 count
      → Top price rs scores (Within es places hi count) best

-- a row is entered from mid on if it is so from hi on, or from mid up to hi
within-joined :
    {es places : List ℕ} {mid hi count : ℕ} → mid ≤ hi → hi ≤ count
    → (k : ℕ) → (Within es places hi count k ⊎ Within es places mid hi k) ↔ Within es places mid count k
within-joined {es} {places} {mid} {hi} {count} l m k = (⊎_elim later between, λ w. go w (dec_lt (place_at places k) hi))
  where
    later : Within es places hi count k → Within es places mid count k
    later w = record { entered = w.entered; from = omega (arith, w.from); to = w.to }

    between : Within es places mid hi k → Within es places mid count k
    between w = record { entered = w.entered; from = w.from; to = omega (arith, w.to) }

    go :
        Within es places mid count k → Dec (place_at places k < hi)
        → Within es places hi count k ⊎ Within es places mid hi k
    go w (yes b) = inr (record { entered = w.entered; from = w.from; to = b })
    go w (no b) = inl (record { entered = w.entered; from = omega arith; to = w.to })

module _ {price : ℕ} {rs : List Row} {scores held : List ℕ} {count place : ℕ} where
  pub nearing-start : place < count → Nearing price rs scores held count place 0 count 0
  nearing-start l = record {
    from = omega arith;
    to = l;
    end = omega arith;
    named = omega arith;
    halved = λ es places h. h;
    behind = λ es places h. none (λ k w. omega (arith, w.from, w.to));
  }

  module _ {lo hi best : ℕ} (n : Nearing price rs scores held count place lo hi best) where
    pub middle-named :
        Holding rs held → count ≤ length held → lo + 1 < hi → get_or held (middle lo hi) 0 ≤ length rs
    middle-named h l m = h.holding (middle lo hi) (middle-there lo hi m (omega (arith, n.end)))

    pub nearing-first :
        Holding rs held → count ≤ length held → lo + 1 < hi → place < middle lo hi
        → Nearing price rs scores held count place lo (middle lo hi)
        (better_of price rs scores best (get_or held (middle lo hi) 0))
    nearing-first h c l b =
        let mid = middle-within lo hi l in
        record {
          from = n.from;
          to = b;
          end = omega (arith, n.end);
          named = better-named price rs scores n.named (middle-named h c l);
          halved = λ es places f. (halved-parts l (n.halved es places f)).1;
          behind = λ es places f.
              top-same (within-joined (omega arith) n.end)
              (better-top (Within es places hi count) (Within es places (middle lo hi) hi) (n.behind es places f)
              (halved-parts l (n.halved es places f)).0);
        }

    pub nearing-later :
        lo + 1 < hi → middle lo hi ≤ place → Nearing price rs scores held count place (middle lo hi) hi best
    nearing-later l b = record {
      from = b;
      to = n.to;
      end = n.end;
      named = n.named;
      halved = λ es places h. (halved-parts l (n.halved es places h)).2;
      behind = n.behind;
    }
