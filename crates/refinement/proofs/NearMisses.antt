-- Near misses: rows that come close to an answer, shown to be none, and a bound that comes close to a law.
--     run-needless          single letters on 01's run: resolved, but 11 rows for 8, with a needless cut at A 1
--     doubled-refused       a row written twice tiles no match
--     two-per-track-refused two cuts for each row hold on a side, not on a track that a match joins to itself
-- Assumes nothing.
use Prim.Native.Nat.{ℕ, ◌*◌, ◌≤◌, ◌<◌}
use mathlib.Core.Path.{◌≡◌, refl, sym, ◌∙◌}
use mathlib.Core.Bool.{true, false, decide, decide_iff, true≢false}
use mathlib.Core.Logic.Dec
use mathlib.Core.Logic.{◌⊎◌, inl, inr}
use mathlib.Core.List.Memᴰ
use mathlib.Core.List.{List, [], ◌∷◌, flat_map}
use mathlib.Core.List.Memᴰ.{head as here}
use native.Mathlib.Omega.{arith}
use native.Mathlib.Decide.{dec_le, dec_lt, ℕ_discrete}
use lib.ListN.{length}
use Rattle.refinement.specs.declared.Side.{Side}
use Rattle.refinement.specs.declared.Side.TheVariants.{A, B}
use Rattle.refinement.specs.Order.{◌∈◌, Distinct, insert_by, sort_by}
use Rattle.refinement.specs.Match.{Match, match_ab, track, Place, Spans}
use Rattle.refinement.specs.Refinement.{Matches, Refines, holds?, rows_over, CutOf, ResolvedRefinement}
use Rattle.refinement.specs.Least
use Rattle.refinement.proofs.Table.{table-has}
use Rattle.refinement.proofs.Closure.{added, ∈-spanned, cut-on-match, least-closed, spanned-closed}
use Rattle.refinement.proofs.Theorem.{cuts-computed, table-cuts, single-resolved}

-- a match or a row: number, left-A, left-B, length
direct : ℕ → ℕ → ℕ → ℕ → Match
direct n i k d = match_ab n i k d false

reversed : ℕ → ℕ → ℕ → ℕ → Match
reversed n i k d = match_ab n i k d true

-- 01's run
run : List Match
run = direct 1 0 0 6 ∷ reversed 2 2 3 5 ∷ []

-- A 1, where the run is not cut
extra : Place
extra = record { track = 0; position = 1 }

-- a match that joins a track to itself: the stretch from 0 to 4 beside the one from 10 to 14
self_joined : Match
self_joined = record { number = 1; track_a = 0; left_a = 0; track_b = 0; left_b = 10; length = 4; reversed = false }

-- what the near misses need of the definitions, by one computation
record Computed : Type 0 where
  run_least : length (Least.least_table run []) ≡ 8
  run_single : length (Least.single_letters run) ≡ 11
  run_uncut : decide (Least.in? extra (Least.least_cuts run [])) ≡ false
  twice : rows_over 1 A 0 (direct 1 0 0 4 ∷ direct 1 0 0 4 ∷ []) ≡ 2
  self_least : length (Least.least_table (self_joined ∷ []) []) ≡ 1
  self_cuts : length (Least.least_cuts (self_joined ∷ []) []) ≡ 4

computed : Computed
unfolding direct reversed run extra self_joined flat_map insert_by sort_by Dec.and dec_le dec_lt ℕ_discrete decide holds?
    rows_over Least.spans? Least.spans_place? Least.same? Least.in? Least.ends Least.spanning Least.images
    Least.spanned_marks Least.add_new Least.grow Least.span_count Least.least_cuts Least.cuts_within Least.piece_of
    Least.pieces_between Least.pieces_of Least.table_from Least.least_table Least.spanned_from Least.spanned_places
    Least.single_letters
computed = record {
  run_least = refl;
  run_single = refl;
  run_uncut = refl;
  twice = refl;
  self_least = refl;
  self_cuts = refl;
}

run_matches : Matches run
unfolding run direct reversed
run_matches = record {
  lettered = λ m i. lettered m (Memᴰ.cases_cons i);
  numbered = (λ m i. rw (Memᴰ.eq_of_singleton i) (omega arith), ((λ m i. absurd (Memᴰ.not-nil i)), tt));
}
  where
    lettered : (m : Match) → (m ≡ direct 1 0 0 6) ⊎ (m ∈ (reversed 2 2 3 5 ∷ [])) → 1 ≤ m.length
    lettered m (inl e) = rw e (omega arith)
    lettered m (inr i) = rw (Memᴰ.eq_of_singleton i) (omega arith)

-- 01, "Where the sheet went wrong": "Chopping every match to single letters: resolved, and far from least."
record Needless : Type 0 where
  resolved : ResolvedRefinement run [] (Least.single_letters run)
  more : length (Least.least_table run []) < length (Least.single_letters run)
  needless : CutOf (Least.single_letters run) extra
  missing : ¬ CutOf (Least.least_table run []) extra

run-needless : Needless
unfolding Least.single_letters run direct extra
run-needless =
    let on : Spans (direct 1 0 0 6) A 1 = omega arith in
    let uncut = Least.in? extra (Least.least_cuts run []) in
    record {
      resolved = single-resolved run [] run_matches;
      more = omega (arith, computed.run_least, computed.run_single);
      needless =
          table-has run_matches (spanned-closed run []) (here refl) A 1 on (added [] (∈-spanned (here refl) A 1 on));
      missing = λ c.
          let i = (cuts-computed run [] extra).1 ((table-cuts run [] run_matches extra).0 c) in
          true≢false (sym ((decide_iff uncut).1 i) ∙ computed.run_uncut);
    }

doubled-refused : ¬ Refines (direct 1 0 0 4 ∷ []) (direct 1 0 0 4 ∷ direct 1 0 0 4 ∷ [])
unfolding direct
doubled-refused T =
    let once = T.once (direct 1 0 0 4) (here refl) 0 (omega arith) in
    omega (arith, computed.twice, once)

-- The match's least table is one row, and its least cuts are four, all on the one track: what `two-per-side` grants on
-- A and on B together. So its bound is one of a side, and not of a track.
two-per-track-refused :
    ¬ ((ps : List Place) → Distinct ps
    → ((p : Place) → p ∈ ps → (p.track ≡ 0) × CutOf (Least.least_table (self_joined ∷ []) []) p)
    → length ps ≤ 2 * length (Least.least_table (self_joined ∷ []) []))
unfolding self_joined
two-per-track-refused bound =
    let ms = self_joined ∷ [] in
    let few =
    bound (Least.least_cuts ms []) (least-closed ms []).once (λ p i.
    let c = (cuts-computed ms [] p).0 i in
    let v = cut-on-match c in
    (v.3 ∙ one-track v.0 (Memᴰ.eq_of_singleton v.1) v.2, (table-cuts ms [] self_matches p).1 c))
    in
    omega (arith, computed.self_least, computed.self_cuts, few)
  where
    self_matches : Matches (self_joined ∷ [])
    self_matches = record {
      lettered = λ m i. rw (Memᴰ.eq_of_singleton i) (omega arith);
      numbered = (λ m i. absurd (Memᴰ.not-nil i), tt);
    }

    one-track : (m : Match) → m ≡ self_joined → (s : Side) → track m s ≡ 0
    one-track m e A = rw e refl
    one-track m e B = rw e refl
