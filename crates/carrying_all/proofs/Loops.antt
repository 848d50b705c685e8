-- The loops over the positions: one tests them, and one writes them.
--     Testing          the first loop's invariant: what is tested so far and what is left decide
--     Writing          the second loop's invariant: the first k numbers are written
--     writing_step     one number more
--     decided_behind   a block on the match leaves what is behind it to decide
--     block_ends       and the positions that make no whole block are those behind it that make none
-- Assumes nothing.
use Prim.Native.Nat.{ℕ, suc, ◌+◌, ◌-◌, ◌%◌, ◌≤◌, ◌<◌}
use mathlib.Core.Path.{◌≡◌, refl, sym, ap₂, ◌∙◌}
use mathlib.Core.Bool.{Bool, true, false, ◌&&◌, and_assoc}
use mathlib.Core.List.{List, [], ◌∷◌, ◌++◌, map, append_assoc, map-append}
use native.Mathlib.Omega.{arith}
use native.Mathlib.Numerals.{add-one}
use lib.ListN.{length, get_or, take, drop, set, length-append, length-map, length-set}
use lib.Seq.{length-take-le, take-suc, drop-cons, set_at}
use Rattle.std.proofs.Math.Nat.{add-mod_left, mod-le}
use Rattle.std.proofs.Math.Seq.{drop-append-add}
use Rattle.positions.specs.CarryingAll.{every}

-- ---- the test

-- what is tested so far, and what is left, decide
pub record Testing (test : ℕ → Bool) (positions : List ℕ) (all : Bool) (k : ℕ) : Type 0 where
  pub to : k ≤ length positions
  pub decides : every test positions ≡ (all && every test (drop k positions))

-- of any positions from k on the first is the next one
next : (test : ℕ → Bool) (positions : List ℕ) {k : ℕ} → k < length positions
    → every test (drop k positions) ≡ (test (get_or positions k 0) && every test (drop (k + 1) positions))
next test positions {k} inside = rw (drop-cons positions k 0 inside, add-one)

-- ---- the blocks

-- of two parts of a list each decides
every-parts : (test : ℕ → Bool) (xs ys : List ℕ) → every test (xs ++ ys) ≡ (every test xs && every test ys)
every-parts test [] ys = refl
every-parts test (x ∷ xs) ys =
    rw (every-parts test xs ys) (sym (and_assoc (test x) (every test xs) (every test ys)))

-- what is behind the last whole block of 64
abbrev pub behind_blocks : List ℕ → List ℕ
behind_blocks positions = drop (length positions - length positions % 64) positions

module _ {rest : List ℕ} (block rest' : List ℕ) (parted : rest ≡ block ++ rest') where
  pub decided_behind : (test : ℕ → Bool) (positions : List ℕ) → every test positions ≡ every test rest
      → every test block ≡ true → every test positions ≡ every test rest'
  decided_behind test positions decides on = decides ∙ rw parted (every-parts test block rest' ∙ rw on refl)

  pub block_ends : {end end' : List ℕ} → end ≡ behind_blocks rest → end' ≡ end → length block ≡ 64
      → end' ≡ behind_blocks rest'
  block_ends behind kept whole =
      let long : length (block ++ rest') ≡ 64 + length rest' = omega (arith, length-append block rest') in
      let over : (64 + length rest') % 64 ≡ length rest' % 64 = add-mod_left 64 (length rest') in
      let less : length rest' % 64 ≤ length rest' = mod-le (length rest') 64 in
      let from : length (block ++ rest') - length (block ++ rest') % 64
      ≡ length block + (length rest' - length rest' % 64) =
      rw long (omega (arith, over, less, whole)) in
      kept ∙ behind ∙ rw (parted, from) (drop-append-add block rest' (length rest' - length rest' % 64))

-- ---- the numbers

-- the first k positions are carried, and behind them the buffer is as it was
abbrev written_to : (ℕ → ℕ) → List ℕ → List ℕ → ℕ → List ℕ
written_to carries positions before k = map carries (take k positions) ++ drop k before

-- so far k numbers are written, and what is left passes the test
pub record Writing (test : ℕ → Bool) (carries : ℕ → ℕ) (positions before carried : List ℕ) (k : ℕ) : Type 0 where
  pub to : k ≤ length positions
  pub passes : every test (drop k positions) ≡ true
  pub room : length positions ≡ length before
  pub long : length carried ≡ length before
  pub made : carried ≡ written_to carries positions before k

module _ {test : ℕ → Bool} {carries : ℕ → ℕ} {positions before carried : List ℕ} {k : ℕ}
    (w : Writing test carries positions before carried k) where
  -- a number is written behind the others
  one_more : k < length positions
      → set (written_to carries positions before k) k (carries (get_or positions k 0))
      ≡ written_to carries positions before (k + 1)
  one_more inside =
      let front = map carries (take k positions) in
      let long : length front ≡ k =
      length-map (take k positions) carries ∙ length-take-le k positions (omega arith) in
      rw (
        add-one,
        take-suc positions k 0 inside,
        map-append,
        append_assoc,
        drop-cons before k 0 (omega (arith, w.room)),
      )
      (set_at front (get_or before k 0) (drop (suc k) before) (carries (get_or positions k 0)) k long)

  -- of positions that all pass the next one does, and so do those behind it
  here-passes : k < length positions
      → (test (get_or positions k 0) ≡ true) × (every test (drop (k + 1) positions) ≡ true)
  here-passes inside =
      both (test (get_or positions k 0)) (every test (drop (k + 1) positions))
      (sym (next test positions inside) ∙ w.passes)
    where
      both : (b c : Bool) → (b && c) ≡ true → (b ≡ true) × (c ≡ true)
      both true c e = (refl, e)
      both false c e = let z : ◌≡◌ {A = ℕ} 0 1 = cc in absurd (omega arith)

  pub writing_step : k < length positions → {x : ℕ} → x ≡ carries (get_or positions k 0)
      → Writing test carries positions before (set carried k x) (k + 1)
  writing_step inside {x} e = record {
    to = omega arith;
    passes = (here-passes inside).1;
    room = w.room;
    long = length-set carried k x ∙ w.long;
    made = ap₂ (λ (l : List ℕ) (y : ℕ). set l k y) w.made e ∙ one_more inside;
  }
