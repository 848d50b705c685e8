-- The first cuts of a side: the ends of its matches, each in the set of its track, and the marks that its matches span.
--     group_at             the group g, with its track on one side
--     SideGroups          the ends of matches on one side, and their groups
--     MatchIn             one of the first m matches with given ends, which has the track j
--     EndIn               an end of one of the first m matches, which has the track j
--     Spanning            y is not outside of two ends
--     SpannedHere, GroupSpans, SpannedIn      one of the matches spans y; one of the group g; one of the first m does,
--                         which has the track j
--     MarkAt              a mark of the track j, if it is spanned
--     MarkIn              one of the first k marks, which is spanned
-- Assumes nothing.
use Rattle.std.specs.Prelude.{ℕ, suc, ◌+◌, ◌*◌, ◌≤◌, ◌<◌, ◌≡◌, List, length, get_or, true}
use Rattle.refinement.specs.Match.{between}
use Rattle.tracks.specs.Groups.{start_at, track_at, tracks_of, Groups, part}
use Rattle.seeding.specs.Seeds.{EndAt, MatchHere}
use Rattle.seeding.specs.declared.Group.{Group}

-- where its matches start and end, as it is read
abbrev pub group_at : List ℕ → ℕ → ℕ → Group
group_at gs at g = record { start = start_at gs g; end = get_or gs (3 * g + 3) 0; track = track_at gs at g }

-- f and r are the left and the right ends, of n groups gs whose number at tells the track: 1 on A and 2 on B
pub record SideGroups (f r gs : List ℕ) (n at sets : ℕ) : Type 0 where
  pub same_length : length f ≡ length r
  pub groups : Groups gs n (length f) sets
  pub at_from : 1 ≤ at
  pub at_to : at ≤ 2

-- one of the first m matches, which has the track j and for whose ends R holds
pub record MatchIn (R : ℕ → ℕ → Type 0) (f r gs : List ℕ) (n at m j : ℕ) : Type 0 where
  pub index : ℕ
  pub below : index < m
  pub track_is : tracks_of gs n at index ≡ j
  pub is : R (get_or f index 0) (get_or r index 0)

-- y is one of its two ends
abbrev pub EndIn : List ℕ → List ℕ → List ℕ → ℕ → ℕ → ℕ → ℕ → ℕ → Type 0
EndIn f r gs n at m j y = MatchIn (λ i g. EndAt i g y) f r gs n at m j

-- the ends are i and g
abbrev pub Spanning : ℕ → ℕ → ℕ → Type 0
Spanning y i g = between i g y ≡ true

-- one of all matches spans y
abbrev pub SpannedHere : List ℕ → List ℕ → ℕ → Type 0
SpannedHere f r y = MatchHere (Spanning y) f r (length f)

-- the group g has the track j, and one of its matches spans y
pub record GroupSpans (f r gs : List ℕ) (at g j y : ℕ) : Type 0 where
  pub track_is : j ≡ track_at gs at g
  pub here : SpannedHere (part (start_at gs g) (start_at gs (suc g)) f) (part (start_at gs g) (start_at gs (suc g)) r) y

-- one of the first m matches spans y, and has the track j
abbrev pub SpannedIn : List ℕ → List ℕ → List ℕ → ℕ → ℕ → ℕ → ℕ → ℕ → Type 0
SpannedIn f r gs n at m j y = MatchIn (Spanning y) f r gs n at m j

-- of the numbers y of the set number i: the mark at x
pub record MarkAt (f r gs : List ℕ) (n at j x i y : ℕ) : Type 0 where
  pub set : i ≡ j
  pub is : y ≡ x
  pub spanned : SpannedIn f r gs n at (length f) j x

-- the marks have their tracks in ts, and their positions in ps
pub record MarkIn (f r gs : List ℕ) (n at : ℕ) (ts ps : List ℕ) (k j y : ℕ) : Type 0 where
  pub mark : ℕ
  pub before : mark < k
  pub track_is : get_or ts mark 0 ≡ j
  pub position_is : get_or ps mark 0 ≡ y
  pub spanned : SpannedIn f r gs n at (length f) j y
