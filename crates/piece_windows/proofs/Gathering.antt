-- What a pass over the rows keeps, that gathers the numbers of the rows of a span, or of every step-th of them.
--     gathered-starts                    before any pass
--     Filling                            between two rows: rows of the span are gathered, if the step is one all so far
--     filling-other, filling-one         after a row outside the span, and after one of it
--     filling-roomier                    after room was made
-- Assumes nothing.
use Prim.Native.Nat.{ℕ, ◌+◌, ◌<◌, zero-le}
use mathlib.Core.Bool.{true, false}
use mathlib.Core.Logic.{⊎_elim}
use mathlib.Core.Path.{◌≡◌, refl, sym, ◌∙◌}
use mathlib.Core.List.{List}
use native.Mathlib.Omega.{arith}
use native.Mathlib.Decide.{ℕ_discrete}
use lib.ListN.{length, get_or, set, length-set}
use lib.Seq.{get_or-set_same, get_or-set_other}
use Rattle.rows.specs.Rows.{row_at}
use Rattle.table.specs.Distinct.{same, occurs}
use Rattle.sorted_pieces.specs.Order.{piece_at, Among}
use Rattle.piece_windows.specs.Windows.{in_span, Gathered, Roomier}
use Rattle.rows.specs.declared.Row.{Row}
use Rattle.piece_windows.specs.declared.Span.{Span}
use Rattle.piece_windows.specs.declared.Window.{Window}
use Rattle.table.proofs.Pieces.{never_both, same-itself, same-trans, occurs-passed}
use Rattle.piece_windows.proofs.Spans.{in-span-same}

-- ---- what is gathered, row by row

pub gathered-starts : (rs : List Row) (ns : List ℕ) (span : Span) → span.closed ≡ false → Gathered rs 0 ns 0 span
unfolding occurs
gathered-starts rs ns span unclosed =
    record {
      within = zero-le;
      named = λ i l. absurd (omega arith);
      inside = λ r a. absurd (omega (arith, a.below));
      complete = λ r e o. absurd (never_both o refl);
      spanned = record {
        some = λ e. absurd (never_both e unclosed);
        forward = λ e. absurd (never_both e unclosed);
      };
    }

-- after row k, if its piece is gathered or outside the span
gathered_next : {rs : List Row} {k : ℕ} {ns : List ℕ} {used : ℕ} {span : Span} → Gathered rs k ns used span
    → k < length rs → (in_span span (row_at rs k) ≡ true → Among rs ns used (row_at rs k))
    → Gathered rs (k + 1) ns used span
gathered_next {rs} {k} {ns} {used} {span} g inside there =
    record {
      within = g.within;
      named = g.named;
      inside = g.inside;
      complete = λ r e o.
          ⊎_elim (λ passed. g.complete r e passed)
          (λ now. among_same (there (in-span-same span (row_at rs k) r now ∙ e)) r now)
          (occurs-passed rs k inside r o);
      spanned = g.spanned;
    }
  where
    among_same : Among rs ns used (row_at rs k) → (r : Row) → same (row_at rs k) r ≡ true → Among rs ns used r
    among_same a r one =
        let it = same-trans (piece_at rs ns a.place) (row_at rs k) r a.it one in
        record { place = a.place; below = a.below; it = it }

module _ {rs : List Row} {j : ℕ} {ns : List ℕ} {used : ℕ} {span : Span} (g : Gathered rs j ns used span) (k : ℕ)
    (inside : k < length rs) (room : used < length ns) where
  here : get_or (set ns used k) used 0 ≡ k
  here = get_or-set_same ns used k 0 room

  there : (i : ℕ) → (i ≡ used → ⊥) → get_or (set ns used k) i 0 ≡ get_or ns i 0
  there i apart = get_or-set_other ns used i k 0 apart

  among-last : Among rs (set ns used k) (used + 1) (row_at rs k)
  among-last = record { place = used; below = omega arith; it = rw here (same-itself (row_at rs k)) }

  among-more : (r : Row) → Among rs ns used r → Among rs (set ns used k) (used + 1) r
  among-more r a =
      let apart : a.place ≡ used → ⊥ = λ e. omega (arith, a.below) in
      record { place = a.place; below = omega (arith, a.below); it = rw (there a.place apart) a.it }

  gathered-more : in_span span (row_at rs k) ≡ true → Gathered rs j (set ns used k) (used + 1) span
  gathered-more it =
      record {
        within = rw length-set (omega arith);
        named = λ i l.
            elim (ℕ_discrete i used) [
              | yes e ↦ rw (e, here) inside
              | no apart ↦ rw (there i apart) (g.named i (omega arith))
            ];
        inside = λ r a.
            elim (ℕ_discrete a.place used) [
              | yes e ↦
                  let one : same (row_at rs k) r ≡ true = rw (e, here) at a.it in
                  sym (in-span-same span (row_at rs k) r one) ∙ it
              | no apart ↦
                  g.inside r
                  (record {
                    place = a.place;
                    below = omega (arith, a.below);
                    it = rw (there a.place apart) at a.it;
                  })
            ];
        complete = λ r e o. among-more r (g.complete r e o);
        spanned = record { some = λ e. omega arith; forward = g.spanned.forward };
      }

-- ---- what the pass keeps

pub record Filling (rs : List Row) (from : Row) (step : ℕ) (ns₀ spare₀ ns spare : List ℕ) (used : ℕ) (span : Span)
    (k : ℕ) : Type 0 where
  pub room : length ns ≡ length ns₀
  pub spare_room : length spare ≡ length spare₀
  pub start : span.from ≡ from
  pub gathered : Gathered rs 0 ns used span
  pub all : step ≡ 1 → Gathered rs k ns used span

module _ {rs : List Row} {from : Row} {step : ℕ} {ns₀ spare₀ ns spare : List ℕ} {used : ℕ} {span : Span} {k : ℕ}
    (f : Filling rs from step ns₀ spare₀ ns spare used span k) where
  module _ (inside : k < length rs) where
    pub filling-other : in_span span (row_at rs k) ≡ false
        → Filling rs from step ns₀ spare₀ ns spare used span (k + step)
    filling-other other =
        record {
          room = f.room;
          spare_room = f.spare_room;
          start = f.start;
          gathered = f.gathered;
          all = λ e. rw e (gathered_next (f.all e) inside (λ it. absurd (never_both it other)));
        }

    pub filling-one : used < length ns → in_span span (row_at rs k) ≡ true
        → Filling rs from step ns₀ spare₀ (set ns used k) spare (used + 1) span (k + step)
    filling-one room it =
        record {
          room = length-set ns used k ∙ f.room;
          spare_room = f.spare_room;
          start = f.start;
          gathered = gathered-more f.gathered k inside room it;
          all = λ e.
              let g = gathered-more (f.all e) k inside room it in
              rw e (gathered_next g inside (λ i. among-last (f.all e) k inside room));
        }

  module _ (full : used ≡ length ns) where
    pub filling-roomier : {at : ℕ} {ns' spare' : List ℕ} {w : Window} → Roomier rs ns span at ns' w
        → length ns' ≡ length ns → length spare' ≡ length spare
        → Filling rs from step ns₀ spare₀ ns' spare' w.used w.span k
    filling-roomier roomier kept spare-kept =
        record {
          room = kept ∙ f.room;
          spare_room = spare-kept ∙ f.spare_room;
          start = roomier.start ∙ f.start;
          gathered = roomier.gathered 0 (rw full at f.gathered);
          all = λ e. roomier.gathered k (rw full at (f.all e));
        }
