-- Definitions 1 and 2 of the source document (002, section 10.2), for matches of two equally long stretches.
-- TO READ: contracts mean what stands here.
--     Support 𝒮 t h        h is in the support of 𝒮 on the track t: a left or right position of a match of 𝒮
--     Submatch S S'        S' is a submatch of S
--     Definition1 𝒮 𝒮'     the set 𝒮' is a refinement of 𝒮
--     Definition2 𝒮        the set 𝒮 is resolved
-- S = (A_ij, B_kl) has i = left S A, j = right S A, k = left S B, l = right S B, and the projections α = carry S A and
-- β = carry S B. Differs in the submatch clause by SCOPE, "Slips": where the source has β(l') = k' it must be j', and a
-- reversed match has the two ends on B exchanged. A set is a list in which no match stands twice, and a match of 𝒮'
-- stands in the part of the one match of 𝒮 that bears its number. Assumes nothing.
use Rattle.std.specs.Prelude.{ℕ, ◌≤◌, ◌<◌, ◌≡◌, ◌↔◌, ◌⊎◌, List}
use Rattle.refinement.specs.declared.Side.{Side}
use Rattle.refinement.specs.declared.Side.TheVariants.{A, B}
use Rattle.refinement.specs.Order.{◌∈◌, Distinct}
use Rattle.refinement.specs.Match.{Match, other, track, left, right, carry}
use Rattle.refinement.specs.Refinement.{facing_left, facing_right}

-- SCOPE, "Definitions 1 and 2": the left and right ends on the track of all matches of 𝒮
abbrev pub Support : List Match → ℕ → ℕ → Type 0
Support 𝒮 t h = (S : Match) × (S ∈ 𝒮) × (s : Side) × (track S s ≡ t) × ((h ≡ left S s) ⊎ (h ≡ right S s))

-- SCOPE, "Submatch": S' lies in S on both sides, has a letter there, projects as S does, and each of its ends on one
-- side goes to the facing end on the other, by α or by β
pub record Submatch (S S' : Match) : Type 0 where
  pub part : S'.number ≡ S.number
  pub tracks : (s : Side) → track S' s ≡ track S s
  pub restriction : S'.reversed ≡ S.reversed
  pub starts : (s : Side) → left S s ≤ left S' s
  pub segment : (s : Side) → left S' s < right S' s
  pub stops : (s : Side) → right S' s ≤ right S s
  pub first :
      (carry S A (left S' A) ≡ facing_left S'.reversed S') ⊎ (carry S B (facing_left S'.reversed S') ≡ left S' A)
  pub second :
      (carry S A (right S' A) ≡ facing_right S'.reversed S')
      ⊎ (carry S B (facing_right S'.reversed S') ≡ right S' A)

-- the half-open interval (i, j] of S on a side
abbrev pub Within : Match → Side → ℕ → Type 0
Within S s x = (left S s < x) × (x ≤ right S s)

-- SCOPE, "Definition 1": each S' is a submatch of an S, and the intervals of the part that belongs to S are together
-- that of S, on A and on B
pub record Definition1 (𝒮 𝒮' : List Match) : Type 0 where
  pub set : Distinct 𝒮'
  pub submatches : (S' : Match) → S' ∈ 𝒮' → (S : Match) × (S ∈ 𝒮) × Submatch S S'
  pub tiles :
      (S : Match) → S ∈ 𝒮 → (s : Side) (x : ℕ)
      → Within S s x ↔ ((S' : Match) × (S' ∈ 𝒮') × (S'.number ≡ S.number) × Within S' s x)

-- SCOPE, "Definition 2": from end to end of a match the support has its two ends alone, and what these project to is in
-- the support of the other side
pub record Definition2 (𝒮 : List Match) : Type 0 where
  pub only_ends :
      (S : Match) → S ∈ 𝒮 → (s : Side) (h : ℕ)
      → ((left S s ≤ h) × (h ≤ right S s) × Support 𝒮 (track S s) h) ↔ ((h ≡ left S s) ⊎ (h ≡ right S s))
  pub left_projected : (S : Match) → S ∈ 𝒮 → (s : Side) → Support 𝒮 (track S (other s)) (carry S s (left S s))
  pub right_projected : (S : Match) → S ∈ 𝒮 → (s : Side) → Support 𝒮 (track S (other s)) (carry S s (right S s))
