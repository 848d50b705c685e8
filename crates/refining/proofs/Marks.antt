-- What marks are to refining. 02, #106: "A mark that some match spans must be a cut; others change nothing."
--     spanned-cut            a spanned mark is a cut of every resolved refinement of what a script gives ..
--     spanned-stands         .. and of the rows that a call leaves in the table
--     Unspanned              no match spans a place: none whose track it is on does, on the side of that track
--     unspanned-resolved     a mark that is unspanned may be left out: the same refinements are resolved ..
--     unspanned-least        .. the least table is the same ..
--     unspanned-refining     .. and so are the reply and both buffers
--     none-spanned           with marks of which none is spanned the call is what it is without marks
--     mark-unheeded-refused  a spanned mark that is no cut, as if it were on the other side (demand 2)
--     mark-stored-refused    a cut at a mark that no match spans, as if it were on the other side (demand 3)
--     run-marked             01's run with the mark A 1, and with A 9
-- Assumes nothing.
use Prim.Native.Nat.{ℕ}
use mathlib.Core.Path.{◌≡◌, refl, sym, ap, ap₂, subst, ◌∙◌}
use mathlib.Core.Logic.Dec
use mathlib.Core.Logic.{◌↔◌, ⊎_elim, if_neg}
use mathlib.Core.Bool.{true, false}
use mathlib.Core.List.Memᴰ
use mathlib.Core.List.{List, [], ◌∷◌, ◌++◌, map, flat_map, filter}
use mathlib.Core.List.Memᴰ.{head as here}
use mathlib.Core.List.Memᴰ.{tail as there}
use native.Mathlib.Omega.{arith}
use native.Mathlib.Decide.{dec_le, dec_lt, ℕ_discrete}
use lib.ListN.{length}
use Rattle.script.specs.Reading.{read_from, read_script}
use Rattle.script.specs.Answers.{value}
use Rattle.script.specs.declared.command.Match.{Match as ScriptMatch}
use Rattle.script.specs.declared.command.Mark.{Mark}
use Rattle.refinement.specs.declared.Side.{Side}
use Rattle.refinement.specs.declared.Side.TheVariants.{A, B}
use Rattle.refinement.specs.Order.{◌∈◌, insert_by, sort_by}
use Rattle.refinement.specs.Match.{Match, match_ab, track, Place, place, Spans}
use Rattle.refinement.specs.Refinement.{CutOf, ResolvedRefinement}
use Rattle.refinement.specs.Least
use Rattle.refinement.proofs.Theorem.{table_resolved, table-least}
use Rattle.refining.specs.Refining.{mark_place, Given, given_by, least_of, refining_of_matches}
use Rattle.refining.specs.Demands.{Admitted, Stand, Demand2, Demand3}
use Rattle.refining.proofs.Numbered.{admitted_of, admitted-matches}

-- ---- a mark that a match spans is a cut

module _ (ms : List ScriptMatch) {ks : List Mark} {k : Mark} (listed : k ∈ ks) {m : Match}
    (i : m ∈ (given_by ms ks).matches) (s : Side) (on : k.side ≡ track m s) (spans : Spans m s k.position) where
  pub spanned-cut : (rs : List Match) → ResolvedRefinement (given_by ms ks).matches (given_by ms ks).marks rs
      → CutOf rs (mark_place k)
  spanned-cut rs R =
      let here : place m s k.position ≡ mark_place k = λ j. record { track = sym on j; position = k.position } in
      let marked = Memᴰ.cast here (Memᴰ.map mark_place listed) in
      subst (CutOf rs) here (R.resolved.marked m i s k.position marked spans)

  pub spanned-stands : {script table work table' : List ℕ} {n : ℕ} → Admitted script (given_by ms ks)
      → Demand2 script table work (value n) table' → (rs : List Match) × Stand rs n table' × CutOf rs (mark_place k)
  spanned-stands {n = n} a d =
      let P = (d.of_matches (given_by ms ks) a).pieces n refl in
      (P.rows, P.stand, spanned-cut P.rows P.resolved)

-- ---- others change nothing

abbrev pub Unspanned : List Match → Place → Type 0
Unspanned ms p = (m : Match) → m ∈ ms → (s : Side) → p.track ≡ track m s → ¬ Spans m s p.position

-- no match spans it, by the decision
none-spanning : (ms : List Match) (p : Place) → Unspanned ms p → Least.spanning ms p ≡ []
unfolding Least.spanning flat_map
none-spanning [] p none = refl
none-spanning (m ∷ ms) p none =
    let off : (s : Side) → ¬ ((p.track ≡ track m s) × Spans m s p.position) =
    λ s t. none m (here refl) s t.0 t.1 in
    let on_b = if_neg (Least.spans_place? m p B) (off B) (B ∷ []) [] in
    let neither = if_neg (Least.spans_place? m p A) (off A) (A ∷ filter (Least.spans_place? m p) (B ∷ [])) _ ∙ on_b in
    ap₂ ◌++◌ (ap (map (λ (s : Side). (m, s))) neither) (none-spanning ms p (λ m' i. none m' (there i)))

module _ {ms : List Match} {p : Place} (none : Unspanned ms p) where
  -- with the mark, and without it
  abbrev marked : List Place → List Place → Given
  marked before after = record { matches = ms; marks = before ++ p ∷ after }

  abbrev unmarked : List Place → List Place → Given
  unmarked before after = record { matches = ms; marks = before ++ after }

  pub unspanned-resolved :
      (before after : List Place) (rs : List Match)
      → ResolvedRefinement ms (before ++ p ∷ after) rs ↔ ResolvedRefinement ms (before ++ after) rs
  unspanned-resolved before after rs = (
    λ R. record {
      refines = R.refines;
      resolved = record {
        uncut = R.resolved.uncut;
        marked = λ m i s h j t. R.resolved.marked m i s h (more j) t;
      };
    },
    λ R. record {
      refines = R.refines;
      resolved = record {
        uncut = R.resolved.uncut;
        marked = λ m i s h j t. R.resolved.marked m i s h (fewer m i s h t j) t;
      };
    },
  )
    where
      more : {q : Place} → q ∈ (before ++ after) → q ∈ (before ++ p ∷ after)
      more j =
          ⊎_elim (λ b. Memᴰ.append_left (p ∷ after) b) (λ a. Memᴰ.append_right before (there a))
          (Memᴰ.append_cases before j)

      fewer :
          (m : Match) → m ∈ ms → (s : Side) (h : ℕ) → Spans m s h → place m s h ∈ (before ++ p ∷ after)
          → place m s h ∈ (before ++ after)
      fewer m i s h t j =
          let other : place m s h ≡ p → ⊥ = λ e.
          none m i s (ap (λ z. z.track) (sym e)) (subst (Spans m s) (ap (λ z. z.position) e) t) in
          ⊎_elim (λ b. Memᴰ.append_left after b)
          (λ a. ⊎_elim (λ e. absurd (other e)) (λ k. Memᴰ.append_right before k) (Memᴰ.cases_cons a))
          (Memᴰ.append_cases before j)

  unspanned-marks : (before after : List Place)
      → Least.spanned_marks ms (before ++ p ∷ after) ≡ Least.spanned_marks ms (before ++ after)
  unfolding Least.spanned_marks flat_map
  unspanned-marks [] after = rw (none-spanning ms p none)
  unspanned-marks (q ∷ before) after =
      ap (λ (ps : List Place). map (λ v. q) (Least.spanning ms q) ++ ps) (unspanned-marks before after)

  pub unspanned-least :
      (before after : List Place) → least_of (marked before after) ≡ least_of (unmarked before after)
  unfolding Least.least_table Least.least_cuts
  unspanned-least before after = rw (unspanned-marks before after)

  pub unspanned-refining :
      (before after : List Place) (table work : List ℕ)
      → refining_of_matches (marked before after) table work ≡ refining_of_matches (unmarked before after) table work
  unfolding refining_of_matches
  unspanned-refining before after table work = rw (unspanned-least before after)

pub none-spanned :
    {ms : List Match} (marks : List Place) → ((p : Place) → p ∈ marks → Unspanned ms p) → (table work : List ℕ)
    → refining_of_matches (record { matches = ms; marks = marks }) table work
    ≡ refining_of_matches (record { matches = ms; marks = [] }) table work
none-spanned [] none table work = refl
none-spanned (p ∷ marks) none table work =
    unspanned-refining (none p (here refl)) [] marks table work
    ∙ none-spanned marks (λ q i. none q (there i)) table work

-- ---- marks of the wrong side, and 01's run

-- the position h of the track as a mark
at : ℕ → ℕ → List Place
at track h = record { track = track; position = h } ∷ []

-- lengths 10 10, direct 0 4 4, the mark 2 of the side, end: A 2 lies in the match, B 2 before it
bytes : ℕ → List ℕ
bytes side =
    0x4C ∷ 10 ∷ 0 ∷ 0 ∷ 0 ∷ 10 ∷ 0 ∷ 0 ∷ 0 ∷ 0x44 ∷ 0 ∷ 0 ∷ 0 ∷ 0 ∷ 4 ∷ 0 ∷ 0 ∷ 0 ∷ 4 ∷ 0 ∷ 0 ∷ 0 ∷ 0x4D ∷ side
    ∷ 2 ∷ 0 ∷ 0 ∷ 0 ∷ 0x45 ∷ []

given : ℕ → Given
given side = record { matches = match_ab 1 0 4 4 false ∷ []; marks = at side 2 }

-- 01's run with a mark on A
run : ℕ → Given
run h = record { matches = match_ab 1 0 0 6 false ∷ match_ab 2 2 3 5 true ∷ []; marks = at 0 h }

-- what the laws need of the definitions, by one computation
record Computed : Type 0 where
  on_a : Admitted (bytes 0) (given 0)
  on_b : Admitted (bytes 1) (given 1)
  cut : length (least_of (given 0)) ≡ 2
  uncut : length (least_of (given 1)) ≡ 1
  run_cut : length (least_of (run 1)) ≡ 9
  run_uncut : length (least_of (run 9)) ≡ 8

computed : Computed
unfolding at bytes given run read_from read_script flat_map insert_by sort_by Dec.and dec_le dec_lt ℕ_discrete Least.spans?
    Least.spans_place? Least.same? Least.in? Least.ends Least.spanning Least.images Least.spanned_marks Least.add_new
    Least.grow Least.span_count Least.least_cuts Least.cuts_within Least.piece_of Least.pieces_between Least.pieces_of
    Least.table_from Least.least_table
computed = record {
  on_a = admitted_of refl;
  on_b = admitted_of refl;
  cut = refl;
  uncut = refl;
  run_cut = refl;
  run_uncut = refl;
}

module _ {table work table' : List ℕ} where
  mark-unheeded-refused : ¬ Demand2 (bytes 0) table work (value 1) table'
  mark-unheeded-refused d =
      let g = given 0 in
      let P = (d.of_matches g computed.on_a).pieces 1 refl in
      let least = table-least g.matches g.marks (admitted-matches computed.on_a) in
      omega (arith, least.fewest P.rows P.resolved, P.stand.count, computed.cut)

  mark-stored-refused : ¬ Demand3 (bytes 1) table work (value 2) table'
  mark-stored-refused d =
      let g = given 1 in
      let L = (d.of_matches g computed.on_b).otherwise 2 refl in
      let resolved = table_resolved g.matches g.marks (admitted-matches computed.on_b) in
      omega (arith, L.least.fewest (least_of g) resolved, L.stand.count, computed.uncut)

run-marked : (length (least_of (run 1)) ≡ 9) × (length (least_of (run 9)) ≡ 8)
run-marked = (computed.run_cut, computed.run_uncut)
