-- The numbers that are gathered, as a part of all there is room for.
--     among-taken, taken-among      a row is in the part where it is in the whole up to there
--     taken-length, taken-named     the part has so many numbers, and each names a row
--     cut-front                     once the part's span is cut, what is left stands at the front of the whole
-- Assumes nothing.
use Prim.Native.Nat.{ℕ, ◌≤◌, ◌<◌}
use mathlib.Core.Path.{◌≡◌}
use mathlib.Core.List.{List, ◌++◌}
use native.Mathlib.Omega.{arith}
use lib.ListN.{length, get_or, take, drop, length-append, get_or-append}
use lib.Seq.{length-take-le, get_or-take}
use Rattle.sorted_pieces.specs.Order.{Numbers, Among}
use Rattle.piece_windows.specs.Windows.{Gathered, Roomier}
use Rattle.rows.specs.declared.Row.{Row}
use Rattle.piece_windows.specs.declared.Span.{Span}
use Rattle.piece_windows.specs.declared.Window.{Window}

module _ (rs : List Row) (ns : List ℕ) (used : ℕ) (within : used ≤ length ns) where
  pub among-taken : (r : Row) → Among rs ns used r → Among rs (take used ns) (length (take used ns)) r
  among-taken r a =
      record {
        place = a.place;
        below = omega (arith, a.below, length-take-le used ns within);
        it = rw (get_or-take used ns a.place 0 a.below) a.it;
      }

  pub taken-among : (r : Row) → Among rs (take used ns) (length (take used ns)) r → Among rs ns used r
  taken-among r a =
      let below : a.place < used = omega (arith, a.below, length-take-le used ns within) in
      record { place = a.place; below = below; it = rw (get_or-take used ns a.place 0 below) at a.it }

module _ {rs : List Row} {k : ℕ} {ns : List ℕ} {used : ℕ} {span : Span} (g : Gathered rs k ns used span) where
  pub taken-length : length (take used ns) ≡ used
  taken-length = length-take-le used ns g.within

  pub taken-named : Numbers rs (take used ns)
  taken-named =
      record {
        inside = λ i l.
            let below : i < used = omega (arith, l, taken-length) in
            rw (get_or-take used ns i 0 below) (g.named i below);
      }

  gathered-taken : Gathered rs k (take used ns) (length (take used ns)) span
  gathered-taken =
      record {
        within = omega arith;
        named = taken-named.inside;
        inside = λ r a. g.inside r (taken-among rs ns used g.within r a);
        complete = λ r e o. among-taken rs ns used g.within r (g.complete r e o);
        spanned = record {
          some = λ e. omega (arith, taken-length, g.spanned.some e);
          forward = g.spanned.forward;
        };
      }

  gathered-front : (rest : List ℕ) → Gathered rs k (ns ++ rest) used span
  gathered-front rest =
      record {
        within = omega (arith, length-append ns rest, g.within);
        named = λ i l. rw (kept i l) (g.named i l);
        inside = λ r a.
            g.inside r
            (record { place = a.place; below = a.below; it = rw (kept a.place a.below) at a.it });
        complete = λ r e o.
            let a = g.complete r e o in
            record { place = a.place; below = a.below; it = rw (kept a.place a.below) a.it };
        spanned = g.spanned;
      }
    where
      kept : (i : ℕ) → i < used → get_or (ns ++ rest) i 0 ≡ get_or ns i 0
      kept i l = get_or-append ns rest 0 i (omega (arith, g.within))

module _ {rs : List Row} {k : ℕ} {ns part : List ℕ} {used at : ℕ} {span : Span} {w : Window}
    (g : Gathered rs k ns used span) (roomier : Roomier rs (take used ns) span at part w) where
  pub cut-front : Gathered rs k (part ++ drop used ns) w.used w.span
  cut-front = gathered-front (roomier.gathered k (gathered-taken g)) (drop used ns)
