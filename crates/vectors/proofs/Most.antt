-- 2,048 matches pass the reader, and one more gives 6 at 26633; 512 marks pass it, and one more gives 19 at 3081: the
-- reading goes on behind each command as it began.
--     on-and-on                   the same command again and again, while there is room
--     most-pass, one_more-comes   the two lines of matches
--     most-marks, one-mark-more   the two of marks
-- Assumes nothing.
use Prim.Native.Nat.{ℕ, zero, suc, ◌+◌, ◌*◌, ◌-◌, ◌≤◌, ◌<◌}
use mathlib.Core.Path.{◌≡◌, refl, ap, ap₂, ◌∙◌}
use mathlib.Core.Bool.{false}
use mathlib.Core.List.{List, [], ◌∷◌, ◌++◌, append_assoc}
use native.Mathlib.Omega.{arith}
use borrow.Author.Tests.{le-ltb, le-leb, lt-leb, ne_eqb}
use lib.ListN.{length, length-append, replicate, length-replicate}
use Rattle.script.specs.Commands.{lengths_width, match_width, mark_width}
use Rattle.script.specs.Reading.{Reading, admitted, refused, read_from, read_script}
use Rattle.script.specs.declared.command.Match.{Match}
use Rattle.script.specs.declared.command.Mark.{Mark}
use Rattle.script.specs.declared.refusal.Refusal.{Refusal}
use Rattle.vectors.specs.Lines.{lengths, direct, mark, end, many, most_pass, one_more, most_marks_pass, one_mark_more}

-- ---- a command again and again

replicate-snoc : {X : Type 0} (n : ℕ) (x : X) → replicate n x ++ x ∷ [] ≡ replicate (suc n) x
replicate-snoc zero x = refl
replicate-snoc (suc n) x = ap (λ l. x ∷ l) (replicate-snoc n x)

-- what is read of s, with so much fuel, behind n of the commands
module _ (command : List ℕ) (most : ℕ) (behind : ℕ → ℕ → List ℕ → Reading)
    (next : (fuel n : ℕ) (s : List ℕ) → n < most → behind (suc fuel) n (command ++ s) ≡ behind fuel (suc n) s) where
  on-and-on : (k fuel n : ℕ) (s : List ℕ) → n + k ≤ most → k ≤ fuel
      → behind fuel n (many command k ++ s) ≡ behind (fuel - k) (n + k) s
  unfolding many
  on-and-on zero fuel n s few enough =
      let same : fuel ≡ fuel - 0 = omega arith in
      let none : n ≡ n + 0 = omega arith in
      ap₂ (λ (f m : ℕ). behind f m s) same none
  on-and-on (suc k) zero n s few enough = absurd (omega arith)
  on-and-on (suc k) (suc fuel) n s few enough =
      let fuels : fuel - k ≡ suc fuel - suc k = omega arith in
      let counts : suc n + k ≡ n + suc k = omega arith in
      ap (behind (suc fuel) n) (append_assoc command (many command k) s)
      ∙ next fuel n (many command k ++ s) (omega arith)
      ∙ on-and-on k fuel (suc n) s (omega arith) (omega arith)
      ∙ ap₂ (λ (f m : ℕ). behind f m s) fuels counts

  length-many : (k : ℕ) (s : List ℕ) → 1 ≤ length command → k ≤ length (many command k ++ s)
  unfolding many
  length-many zero s some = omega arith
  length-many (suc k) s some =
      omega (
        arith,
        length-many k s some,
        ap length (append_assoc command (many command k) s),
        length-append command (many command k ++ s),
      )

-- ---- matches

-- the match direct 0 0 1, n of which were read
abbrev one : Match
one = record { track_a = 0; track_b = 1; left_a = 0; left_b = 0; length = 1; reversed = false }

abbrev behind_matches : ℕ → ℕ → List ℕ → Reading
behind_matches fuel n s = read_from fuel 1 1 (lengths_width + match_width * n) (replicate n one) [] s

match-next : (fuel n : ℕ) (s : List ℕ) → n < 2048
    → behind_matches (suc fuel) n (direct 0 0 1 ++ s) ≡ behind_matches fuel (suc n) s
unfolding read_from
match-next fuel n s room =
    let at : lengths_width + match_width * n + match_width ≡ lengths_width + match_width * suc n = omega arith in
    rw (
      ne_eqb (length (direct 0 0 1 ++ s)) 0 (λ e. omega arith),
      le-ltb (length (direct 0 0 1 ++ s)) match_width (omega arith),
      lt-leb 2048 (length (replicate n one)) (omega (arith, length-replicate n one)),
      replicate-snoc n one,
      at,
    )

match-full : (fuel n : ℕ) (s : List ℕ) → n ≡ 2048
    → behind_matches (suc fuel) n (direct 0 0 1 ++ s) ≡ refused (Refusal.TooManyMatches (lengths_width + match_width * n))
unfolding read_from
match-full fuel n s full =
    rw (
      ne_eqb (length (direct 0 0 1 ++ s)) 0 (λ e. omega arith),
      le-ltb (length (direct 0 0 1 ++ s)) match_width (omega arith),
      le-leb 2048 (length (replicate n one)) (omega (arith, length-replicate n one)),
    )

-- ---- marks

-- the mark B 0, n of which were read
abbrev point : Mark
point = record { side = 1; position = 0 }

abbrev behind_marks : ℕ → ℕ → List ℕ → Reading
behind_marks fuel n s = read_from fuel 1 1 (lengths_width + mark_width * n) [] (replicate n point) s

mark-next : (fuel n : ℕ) (s : List ℕ) → n < 512
    → behind_marks (suc fuel) n (mark 1 0 ++ s) ≡ behind_marks fuel (suc n) s
unfolding read_from
mark-next fuel n s room =
    let at : lengths_width + mark_width * n + mark_width ≡ lengths_width + mark_width * suc n = omega arith in
    rw (
      ne_eqb (length (mark 1 0 ++ s)) 0 (λ e. omega arith),
      le-ltb (length (mark 1 0 ++ s)) mark_width (omega arith),
      lt-leb 512 (length (replicate n point)) (omega (arith, length-replicate n point)),
      replicate-snoc n point,
      at,
    )

mark-full : (fuel n : ℕ) → n ≡ 512
    → behind_marks (suc fuel) n (0x4D ∷ []) ≡ refused (Refusal.TooManyMarks (lengths_width + mark_width * n))
unfolding read_from
mark-full fuel n full = rw (le-leb 512 (length (replicate n point)) (omega (arith, length-replicate n point)))

-- ---- the whole script

opened : (s : List ℕ) → read_script (lengths 1 1 ++ s) ≡ read_from (length (lengths 1 1 ++ s)) 1 1 lengths_width [] [] s
unfolding read_script
opened s =
    rw (
      ne_eqb (length (lengths 1 1 ++ s)) 0 (λ e. omega arith),
      le-ltb (length (lengths 1 1 ++ s)) lengths_width (omega arith),
    )

-- the fuel that is left, of as many bytes as there are
record Fuel (n : ℕ) : Type 0 where
  less : ℕ
  is : n ≡ suc less

some-fuel : (n : ℕ) → 0 < n → Fuel n
some-fuel zero h = absurd (omega arith)
some-fuel (suc n) h = record { less = n; is = refl }

-- behind n of the commands, and s
module _ (command : List ℕ) (most : ℕ) (behind : ℕ → ℕ → List ℕ → Reading)
    (next : (fuel n : ℕ) (s : List ℕ) → n < most → behind (suc fuel) n (command ++ s) ≡ behind fuel (suc n) s)
    (start : (s : List ℕ) → read_script (lengths 1 1 ++ s) ≡ behind (length (lengths 1 1 ++ s)) 0 s)
    (some : 1 ≤ length command) where
  whole : (n : ℕ) (s : List ℕ) → n ≤ most
      → (less : ℕ) × (read_script (lengths 1 1 ++ (many command n ++ s)) ≡ behind (suc less) n s)
  whole n s few =
      let rest = many command n ++ s in
      let bytes = length (lengths 1 1 ++ rest) in
      let enough : n < bytes = omega (arith, length-many command most behind next n s some) in
      let fuel = some-fuel (bytes - n) (omega (arith, enough)) in
      let none : 0 + n ≡ n = omega arith in (
        fuel.less,
        start rest ∙ on-and-on command most behind next n bytes 0 s (omega arith) (omega (arith, enough))
            ∙ ap₂ (λ (f m : ℕ). behind f m s) fuel.is none,
      )

match-whole : (n : ℕ) (s : List ℕ) → n ≤ 2048
    → (less : ℕ) × (read_script (lengths 1 1 ++ (many (direct 0 0 1) n ++ s)) ≡ behind_matches (suc less) n s)
match-whole = whole (direct 0 0 1) 2048 behind_matches match-next opened (omega arith)

mark-whole : (n : ℕ) (s : List ℕ) → n ≤ 512
    → (less : ℕ) × (read_script (lengths 1 1 ++ (many (mark 1 0) n ++ s)) ≡ behind_marks (suc less) n s)
mark-whole = whole (mark 1 0) 512 behind_marks mark-next opened (omega arith)

matches-end : (fuel n : ℕ) → behind_matches (suc fuel) n end ≡ admitted (1 ∷ 1 ∷ []) (replicate n one) []
unfolding read_from
matches-end fuel n = refl

marks-end : (fuel n : ℕ) → behind_marks (suc fuel) n end ≡ admitted (1 ∷ 1 ∷ []) [] (replicate n point)
unfolding read_from
marks-end fuel n = refl

-- for a number that is not computed with
module _ (n : ℕ) where
  matches-pass : n ≤ 2048 → read_script (lengths 1 1 ++ (many (direct 0 0 1) n ++ end))
      ≡ admitted (1 ∷ 1 ∷ []) (replicate n one) []
  matches-pass few = let w = match-whole n end few in w.1 ∙ matches-end w.0 n

  matches-crowd : n ≡ 2048 → read_script (lengths 1 1 ++ (many (direct 0 0 1) n ++ (direct 0 0 1 ++ end)))
      ≡ refused (Refusal.TooManyMatches (lengths_width + match_width * n))
  matches-crowd most =
      let w = match-whole n (direct 0 0 1 ++ end) (omega arith) in w.1 ∙ match-full w.0 n end most

  marks-pass : n ≤ 512 → read_script (lengths 1 1 ++ (many (mark 1 0) n ++ end))
      ≡ admitted (1 ∷ 1 ∷ []) [] (replicate n point)
  marks-pass few = let w = mark-whole n end few in w.1 ∙ marks-end w.0 n

  marks-crowd : n ≡ 512 → read_script (lengths 1 1 ++ (many (mark 1 0) n ++ (0x4D ∷ [])))
      ≡ refused (Refusal.TooManyMarks (lengths_width + mark_width * n))
  marks-crowd most = let w = mark-whole n (0x4D ∷ []) (omega arith) in w.1 ∙ mark-full w.0 n most

most-pass : most_pass.comes ≡ most_pass.leaves
most-pass = rw (matches-pass 2048 (omega arith), length-replicate 2048 one)

one_more-comes : one_more.comes ≡ one_more.leaves
one_more-comes = rw (matches-crowd 2048 refl)

most-marks : most_marks_pass.comes ≡ most_marks_pass.leaves
most-marks = rw (marks-pass 512 (omega arith), length-replicate 512 point)

one-mark-more : one_mark_more.comes ≡ one_mark_more.leaves
one-mark-more = rw (marks-crowd 512 refl)
