-- Making the levels of an index, over plain lists.
--     bounding                                 the highest of a part, or 0 where there is none, bounds it
--     OverlaidTo                               the invariant of making a level: its blocks before block b are bounded
--     raised-top, raised-above                 no level above one block; a level, and those above it
--     indexed                                  the order, the ends and the levels make an index
-- Assumes nothing.
use Prim.Native.Nat.{ℕ, ◌+◌, ◌-◌, ◌/◌, ◌≤◌, ◌<◌}
use native.Mathlib.Omega.{arith}
use mathlib.Core.Path.{◌≡◌, refl, ◌∙◌}
use mathlib.Core.List.{List}
use lib.ListN.{length, get_or}
use Rattle.std.specs.Prelude.{Option, MatchOption, EachIndex, slice_range}
use Rattle.std.specs.Option.{unwrap_or}
use Rattle.std.specs.declared.option.Option.TheVariants.{None, Some}
use Rattle.std.proofs.lemmas.List.Edits.{length-between, get_or-between}
use Rattle.runs.specs.Runs.{Same}
use Rattle.arrangement.specs.Index.{blocks_of, block_start, index_room, starts_at, ends_at}
use Rattle.arrangement.specs.Index.{Levels, Indexed}
use Rattle.arranging.proofs.Ordering.{order_same}
use Rattle.indexing.specs.Bounds.{Bounding, Listed, Overlaid, Raised}

-- ---- the highest of a block

pub bounding :
    {xs : List ℕ} {first last : ℕ} (r : Option ℕ) → last ≤ length xs
    → MatchOption r (length (slice_range xs first last) ≡ 0)
    (λ m. EachIndex (slice_range xs first last) (λ k. get_or (slice_range xs first last) k 0 ≤ m))
    → Bounding xs first last (unwrap_or r 0)
bounding {xs} {first} {last} None w h = record { bound = λ k l u. absurd (omega (arith, length-between xs first last w)) }
bounding {xs} {first} {last} (Some m) w h = record {
  bound = λ k l u.
      let e : first + (k - first) ≡ k = omega arith in
      let at : get_or (slice_range xs first last) (k - first) 0 ≡ get_or xs k 0 =
      rw e at (get_or-between xs first last (k - first) 0 (omega arith))
      in
      omega (arith, at, h (k - first) (omega (arith, length-between xs first last w)));
}

-- ---- a level

pub record OverlaidTo (xs : List ℕ) (at count : ℕ) (ys : List ℕ) (b : ℕ) : Type 0 where
  pub long : length ys ≡ length xs
  pub kept : Same xs ys 0 (at + count)
  pub bounds : (j : ℕ) → j < block_start b count → get_or ys (at + j) 0 ≤ get_or ys (at + count + j / 16) 0

-- ---- all levels

pub raised-top : {xs : List ℕ} {at count : ℕ} → count ≤ 16 → Raised xs at count xs
raised-top h = record { kept = λ j l u. refl; levels = Levels.top h }

pub raised-above :
    {xs ys zs : List ℕ} {at count blocks : ℕ} → Overlaid xs at count ys → blocks ≡ blocks_of count
    → Raised ys (at + count) blocks zs → Raised xs at count zs
raised-above {at = at} {count} o e r = record {
  kept = λ j l u. r.kept j l (omega arith) ∙ o.kept j l u;
  levels = Levels.above {at = at} {count = count}
      (λ j u.
      rw (
        r.kept (at + j) (omega arith) (omega arith),
        r.kept (at + count + j / 16) (omega arith) (omega arith),
      )
      (o.covered j u))
      (rw e at r.levels);
}

-- ---- the index

pub indexed :
    {xs f g ys : List ℕ} → index_room (length f) ≤ length ys → Listed xs f g
    → Raised xs (length f + length f) (length f) ys → Indexed ys f g
indexed {f = f} room b r = record {
  room = room;
  order = order_same (λ k l u. r.kept k l (omega arith)) b.order;
  listed = record {
    starts = λ k j l u.
        rw (
          r.kept j (omega arith) (omega arith),
          r.kept (starts_at (length f) + k) (omega arith) (omega arith),
        )
        (b.listed.starts k j l u);
    ends = λ k u.
        rw (
          r.kept k (omega arith) (omega arith),
          r.kept (ends_at (length f) + k) (omega arith) (omega arith),
        )
        (b.listed.ends k u);
  };
  levels = r.levels;
}
