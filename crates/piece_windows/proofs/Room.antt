-- Room in a window, once what it has gathered is sorted.
--     sorted-some     some numbers stay some
--     room-enough     few pieces are left: only their order is another
--     room_cut        the span is cut at one of the pieces: what stands before it are the numbers up to there
-- Assumes nothing.
use Prim.Native.Nat.{ℕ, ◌≤◌, ◌<◌}
use mathlib.Core.Bool.{true}
use mathlib.Core.Path.{◌≡◌, refl}
use mathlib.Core.List.{List}
use native.Mathlib.Omega.{arith}
use native.Mathlib.Decide.{dec_lt, ℕ_discrete}
use lib.ListN.{length}
use Rattle.table.specs.Distinct.{same}
use Rattle.sorted_pieces.specs.Order.{before, piece_at, Among, Sorted}
use Rattle.piece_windows.specs.Windows.{in_span, Gathered, Roomier}
use Rattle.rows.specs.declared.Row.{Row}
use Rattle.piece_windows.specs.declared.Span.{Span}
use Rattle.table.proofs.Pieces.{same-itself, same-sym}
use Rattle.sorted_pieces.proofs.Order.{before_same, same-before, before-trans}
use Rattle.sorted_pieces.proofs.Order.{before-not-same, before-not-after}
use Rattle.piece_windows.proofs.Spans.{span-start, span-end, span-is}

abbrev cut : Span → Row → Span
cut span to = record { from = span.from; to = to; closed = true }

among-at : (rs : List Row) (ns : List ℕ) (c i : ℕ) → i < c → Among rs ns c (piece_at rs ns i)
among-at rs ns c i below = record { place = i; below = below; it = same-itself (piece_at rs ns i) }

pub sorted-some : {rs : List Row} {ns ns' : List ℕ} {kept : ℕ} → Sorted rs ns ns' kept → 0 < length ns → 0 < kept
sorted-some {rs} {ns} s some = omega (arith, (s.all (piece_at rs ns 0) (among-at rs ns (length ns) 0 some)).below)

module _ {rs : List Row} {ns ns' : List ℕ} {kept : ℕ} (s : Sorted rs ns ns' kept) (span : Span)
    (same-room : length ns' ≡ length ns) where
  pub room-enough : {at : ℕ} → kept ≤ at → Roomier rs ns span at ns' (record { used = kept; span = span })
  room-enough few =
      record {
        start = refl;
        fewer = few;
        gathered = λ k g.
            record {
              within = omega (arith, s.room);
              named = s.named;
              inside = λ r a. g.inside r (s.of_them r a);
              complete = λ r e o. s.all r (g.complete r e o);
              spanned = record { some = λ e. sorted-some s (g.spanned.some e); forward = g.spanned.forward };
            };
      }

  module _ {at : ℕ} (more : at < kept) where
    abbrev to : Row
    to = piece_at rs ns' at

    before-cut : (r : Row) → Among rs ns' at r → before r to ≡ true
    before-cut r a =
        let it = piece_at rs ns' a.place in
        same-before r it to (same-sym it r a.it) (s.rising.rising a.place at a.below more)

    not_behind : (r : Row) (i : ℕ) → at ≤ i → i < kept → same (piece_at rs ns' i) r ≡ true → before r to ≡ true → ⊥
    not_behind r i behind below it b =
        elim (ℕ_discrete i at) [
          | yes e ↦ before-not-same r to b (same-sym to r (rw e at it))
          | no apart ↦
              before-not-after r to b
              (before_same to (piece_at rs ns' i) r (s.rising.rising at i (omega arith) below) it)
        ]

    in-front : (r : Row) → before r to ≡ true → Among rs ns' kept r → Among rs ns' at r
    in-front r b a =
        elim (dec_lt a.place at) [
          | yes l ↦ record { place = a.place; below = l; it = a.it }
          | no l ↦ absurd (not_behind r a.place (omega arith) a.below a.it b)
        ]

    module _ {k : ℕ} (g : Gathered rs k ns (length ns) span) where
      was-inside : (r : Row) → Among rs ns' kept r → in_span span r ≡ true
      was-inside r a = g.inside r (s.of_them r a)

      to_inside : in_span span to ≡ true
      to_inside = was-inside to (among-at rs ns' kept at more)

      within-old : (r : Row) → in_span (cut span to) r ≡ true → in_span span r ≡ true
      within-old r e =
          span-is span r (span-start (cut span to) r e)
          (λ l. before-trans r to span.to (span-end (cut span to) r e refl) (span-end span to to_inside l))

      gathered-cut : 0 < at → Gathered rs k ns' at (cut span to)
      gathered-cut some =
          record {
            within = omega (arith, s.room);
            named = λ i l. s.named i (omega arith);
            inside = λ r a.
                let wider : Among rs ns' kept r
                = record { place = a.place; below = omega (arith, a.below); it = a.it } in
                span-is (cut span to) r (span-start span r (was-inside r wider)) (λ l. before-cut r a);
            complete = λ r e o.
                in-front r (span-end (cut span to) r e refl) (s.all r (g.complete r (within-old r e) o));
            spanned = record { some = λ e. some; forward = λ e. span-start span to to_inside };
          }

    pub room_cut : 0 < at → {row : Row} → row ≡ to
        → Roomier rs ns span at ns' (record { used = at; span = cut span row })
    room_cut some e =
        rw e
        (record { start = refl; fewer = omega arith; gathered = λ k g. gathered-cut g some })
