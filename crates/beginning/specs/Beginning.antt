-- What the closure is given, and what it begins with.
--     Lent                what the closure is given
--     zeros               no hits
--     Sowing              the first cuts are in the sets, which are gathered; or there is no room for them
-- Assumes nothing.
use Rattle.std.specs.Prelude.{ℕ, ◌≡◌, Bool, true, false, List, length}
use Rattle.refinement.specs.declared.Side.{Side}
use Rattle.refinement.specs.declared.Side.TheVariants.{A}
use Rattle.refining.specs.Columns.{Columns, count_of, Fit}
use Rattle.refining.specs.Demands.{EveryExceeds}
use Rattle.tracks.specs.Tracks.{Tracked, given_in, Kind}
use Rattle.tracks.specs.Engine.{books_of, Open}
use Rattle.tracks.specs.Groups.{Groups}

-- the matches, their groups, and as many tracks of marks as positions
pub record Lent (c : Columns) (gs ts ps : List ℕ) (g n : ℕ) : Type 0 where
  pub fit : Fit c
  pub groups : Groups gs g (count_of c) n
  pub marks : length ts ≡ length ps

abbrev pub zeros : Kind → Side → ℕ
zeros w u = 0

abbrev pub Sowing : Tracked → ℕ → ℕ → List ℕ → List ℕ → List ℕ → Bool → Type 0
Sowing t n cap ys a b true = Open t n cap ys (books_of a b) zeros A
Sowing t n cap ys a b false = EveryExceeds (given_in t) cap
