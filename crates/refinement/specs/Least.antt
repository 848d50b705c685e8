-- The least cuts and the least table, computed. TO READ: contracts mean what stands here.
--     least_cuts ms marks     the places of Cut, each once, by rounds of carrying until a round adds none
--     cuts_within ps m s      the positions among ps that m spans on its side s, rising
--     table_from ps ms        each match cut at the places ps: a piece between each two neighbours
--     least_table ms marks    the matches cut at the least cuts
--     single_letters ms       the matches cut at every place: resolved, and far from least
-- 01, "Resolved refinement". That least_cuts is Cut, and that least_table is Least, are laws. Assumes nothing.
use Rattle.std.specs.Prelude.{ℕ, zero, suc, ◌+◌, ◌-◌, ◌*◌, ◌≤◌, min, ◌≡◌, length}
use Rattle.std.proofs.Common.{ap, ⊎_elim}
use Rattle.std.proofs.Math.Logic.{ite}
use Rattle.std.proofs.Math.Logic.Dec.{and}
use mathlib.Core.List.Memᴰ
use mathlib.Core.List.{List, [], ◌∷◌, ◌++◌, map, flat_map, filter}
use mathlib.Core.List.Memᴰ.{head as here}
use mathlib.Core.List.Memᴰ.{tail as there}
use Rattle.std.proofs.Math.Decide.{dec_le, dec_lt, ℕ_discrete}
use Rattle.refinement.specs.declared.Side.{Side}
use Rattle.refinement.specs.declared.Side.TheVariants.{A, B}
use Rattle.refinement.specs.Order.{◌∈◌, sort_by}
use Rattle.refinement.specs.Match.{Match, other, track, left, right, Place, place, Spans, carry}

-- Decisions: their types say what they decide.
unfoldable pub spans? : (m : Match) (s : Side) (h : ℕ) → Dec (Spans m s h)
spans? m s h = go (and (dec_le (left m s) h) (dec_le h (right m s)))
  where
    go : Dec ((left m s ≤ h) × (h ≤ right m s)) → Dec (Spans m s h)
    go (yes t) = yes (record { from_left = t.0; to_right = t.1 })
    go (no n) = no (λ t. n (t.from_left, t.to_right))

unfoldable pub spans_place? : (m : Match) (p : Place) (s : Side) → Dec ((p.track ≡ track m s) × Spans m s p.position)
spans_place? m p s = and (ℕ_discrete p.track (track m s)) (spans? m s p.position)

unfoldable pub same? : (p q : Place) → Dec (p ≡ q)
same? p q = go (and (ℕ_discrete p.track q.track) (ℕ_discrete p.position q.position))
  where
    go : Dec ((p.track ≡ q.track) × (p.position ≡ q.position)) → Dec (p ≡ q)
    go (yes e) = yes (λ i. record { track = e.0 i; position = e.1 i })
    go (no n) = no (λ e. n (ap (λ z. z.track) e, ap (λ z. z.position) e))

unfoldable pub in? : (p : Place) (ps : List Place) → Dec (p ∈ ps)
in? p [] = no (λ h. Memᴰ.not-nil h)
in? p (q ∷ ps) = go (same? p q) (in? p ps)
  where
    go : Dec (p ≡ q) → Dec (p ∈ ps) → Dec (p ∈ (q ∷ ps))
    go (yes e) d = yes (here e)
    go (no e) (yes h) = yes (there h)
    go (no e) (no h) = no (λ t. ⊎_elim e h (Memᴰ.cases_cons t))

abbrev pub sides : List Side
sides = A ∷ B ∷ []

-- SCOPE, "Least cuts": what the rounds begin with
abbrev pub ends_of : Match → Side → List Place
ends_of m s = place m s (left m s) ∷ place m s (right m s) ∷ []

unfoldable pub ends : List Match → List Place
ends ms = flat_map (λ m. flat_map (ends_of m) sides) ms

-- the matches that span a place, each with the side on which it does
unfoldable pub spanning : List Match → Place → List (Match × Side)
spanning ms p = flat_map (λ m. map (λ s. (m, s)) (filter (spans_place? m p) sides)) ms

-- SCOPE, "Least cuts": where a match that spans a cut carries it to
abbrev pub carried_by : Place → Match × Side → Place
carried_by p v = place v.0 (other v.1) (carry v.0 v.1 p.position)

unfoldable pub images : List Match → List Place → List Place
images ms ps = flat_map (λ p. map (carried_by p) (spanning ms p)) ps

-- #106: the marks that some match spans; others change nothing
unfoldable pub spanned_marks : List Match → List Place → List Place
spanned_marks ms marks = flat_map (λ p. map (λ v. p) (spanning ms p)) marks

-- the places qs, each that is not there yet, on top of ps
unfoldable pub add_new : List Place → List Place → List Place
add_new [] ps = ps
add_new (q ∷ qs) ps = let all = add_new qs ps in ite (in? q all) all (q ∷ all)

-- SCOPE, "Least cuts": rounds until one adds nothing, at most n of them
unfoldable pub grow : ℕ → List Match → List Place → List Place
grow zero ms ps = ps
grow (suc n) ms ps =
    let next = add_new (images ms ps) ps in
    let more = grow n ms next in
    ite (ℕ_discrete (length next) (length ps)) ps more

-- the positions that the matches span, counted for each match anew: so many rounds are enough
unfoldable pub span_count : List Match → ℕ
span_count [] = 0
span_count (m ∷ ms) = 2 * suc m.length + span_count ms

unfoldable pub least_cuts : List Match → List Place → List Place
least_cuts ms marks = grow (span_count ms) ms (add_new (ends ms ++ spanned_marks ms marks) [])

unfoldable pub cuts_within : List Place → Match → Side → List ℕ
cuts_within ps m s = sort_by dec_lt (map (λ p. p.position) (filter (λ p. spans_place? m p s) ps))

-- the piece of m from x to y on A: its left-B is the lower one of what its two ends carry to
unfoldable pub piece_of : Match → ℕ → ℕ → Match
piece_of m x y = record {
  number = m.number;
  track_a = m.track_a;
  left_a = x;
  track_b = m.track_b;
  left_b = min (carry m A x) (carry m A y);
  length = y - x;
  reversed = m.reversed;
}

unfoldable pub pieces_between : Match → List ℕ → List Match
pieces_between m [] = []
pieces_between m (x ∷ []) = []
pieces_between m (x ∷ y ∷ xs) = piece_of m x y ∷ pieces_between m (y ∷ xs)

unfoldable pub pieces_of : List Place → Match → List Match
pieces_of ps m = pieces_between m (cuts_within ps m A)

unfoldable pub table_from : List Place → List Match → List Match
table_from ps ms = flat_map (pieces_of ps) ms

unfoldable pub least_table : List Match → List Place → List Match
least_table ms marks = table_from (least_cuts ms marks) ms

-- every place that the matches span, from the right end of each to its left end
unfoldable pub spanned_from : Match → Side → ℕ → List Place
spanned_from m s zero = place m s (left m s) ∷ []
spanned_from m s (suc n) = place m s (left m s + suc n) ∷ spanned_from m s n

unfoldable pub spanned_places : List Match → List Place
spanned_places ms = flat_map (λ m. flat_map (λ s. spanned_from m s m.length) sides) ms

-- SCOPE, "Single letters": the wrong table that is resolved too
unfoldable pub single_letters : List Match → List Match
single_letters ms = table_from (add_new (spanned_places ms) []) ms
