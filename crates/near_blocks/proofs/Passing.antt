-- The matches of an index that are passed over.
--     passed-away                  a match that is passed over does not span the position
-- Assumes nothing.
use Prim.Native.Nat.{ℕ, ◌+◌, ◌≤◌, ◌<◌}
use native.Mathlib.Omega.{arith}
use mathlib.Core.Path.{◌≡◌, refl}
use mathlib.Core.Bool.{Bool, true, false, ◌&&◌}
use mathlib.Core.List.{List}
use mathlib.Core.Logic.{⊎_elim}
use lib.Dec.{leb}
use lib.ListN.{get_or}
use borrow.Author.Tests.{lt-leb}
use Rattle.arrangement.specs.Index.{ends_at, EndsListed}
use Rattle.near_blocks.specs.Places.{TooLate, PassedPlaces}

-- a position outside two ends
outside-right : (b : Bool) (g x : ℕ) → g < x → (b && leb x g) ≡ false
outside-right true g x l = rw (lt-leb x g l)
outside-right false g x l = refl

pub passed-away :
    {xs f g : List ℕ} {n x k r : ℕ} → EndsListed xs f g n → PassedPlaces xs n x k r → (j : ℕ) → k ≤ j → j < r
    → (leb (get_or f (get_or xs j 0) 0) x && leb x (get_or g (get_or xs j 0) 0)) ≡ false
passed-away {xs} {f} {g} {n} {x} e p j a b =
    ⊎_elim
    (λ (l : get_or xs (ends_at n + j) 0 < x).
    outside-right (leb (get_or f (get_or xs j 0) 0) x) (get_or g (get_or xs j 0) 0) x
    (omega (arith, e.ends j (omega (arith, p.to)))))
    (λ (l : TooLate xs n x j).
    let late = e.starts l.place j l.before (omega (arith, p.to)) in
    let early : x < get_or f (get_or xs j 0) 0 = omega (arith, late, l.behind) in
    rw (lt-leb (get_or f (get_or xs j 0) 0) x early))
    (p.past j a b)
