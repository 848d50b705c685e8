-- Taking cuts by both kinds of lanes, one after the other.
--     both-taken           both had room
--     over-not, along-not  the one or the other had none, or had too many hits
--     along-as             the columns that carry along the matches, as they are lent
--     lanes-named          the lanes take from sets that are there
-- Assumes nothing.
use Prim.Native.Nat.{ℕ, zero, suc, ◌+◌, ◌≤◌, ◌<◌}
use mathlib.Core.Path.{◌≡◌, refl, ap, subst, ◌∙◌}
use mathlib.Core.Bool.{Bool, false}
use mathlib.Core.Logic.{◌⊎◌, inl, inr, ⊎_elim}
use mathlib.Core.List.{List}
use native.Mathlib.Omega.{arith}
use lib.ListN.{length, replicate, length-replicate}
use Rattle.refinement.specs.Match.{Place}
use Rattle.cut_set.specs.Store.{Found, found_in}
use Rattle.refining.specs.Columns.{Columns, columns_of, count_of, from_at, from_right_at, Fit}
use Rattle.match_columns.specs.Held.{columns_in}
use Rattle.match_columns.specs.declared.MatchColumns.{MatchColumns}
use Rattle.carrying_match.specs.OneMatch.{hits_on}
use Rattle.shelf.specs.Shelf.{set_at, Shelf, Shelved}
use Rattle.shelf.proofs.Shelving.{shelf-then, shelf-as, jammed-as}
use Rattle.shelf.proofs.Members.{grown-member}
use Rattle.tracks.specs.Tracks.{Kind, over, along, Lane, LaneImage, lane_hits}
use Rattle.tracks.specs.Groups.{Groups, Takes, TakesNot}
use Rattle.carrying_lane.specs.Parts.{OneOfTwo, ClearBook}
use Rattle.carrying_lane.proofs.Lanes.{match-named, found-same, found_back}
use Rattle.taking.specs.Taking.{lane_to, of_kind, Image, Both, BothNot, excess, jammed}

-- a lane takes the same of two kinds of numbers that are equal in each set that it takes from
image-as :
    {l : Lane} {m n : ℕ} {D E : ℕ → ℕ → Type 0} {j y : ℕ} → ((k : ℕ) → k < m → l.from k < n)
    → ((i : ℕ) → i < n → (x : ℕ) → D i x → E i x) → LaneImage l m D j y → LaneImage l m E j y
image-as {l} named f p = record {
  index = p.index;
  below = p.below;
  to_is = p.to_is;
  x = p.x;
  taken = f (l.from p.index) (named p.index p.below) p.x p.taken;
  image = p.image;
}

hits-as :
    (l : Lane) (m : ℕ) (f g : ℕ → List ℕ) → ((k : ℕ) → k < m → f (l.from k) ≡ g (l.from k))
    → lane_hits l m f ≡ lane_hits l m g
hits-as l zero f g e = refl
hits-as l (suc m) f g e =
    omega (
      arith,
      hits-as l m f g (λ k h. e k (omega arith)),
      ap (hits_on (from_at l.columns m) (from_right_at l.columns m)) (e m (omega arith)),
    )

module _ (l : Kind → Lane) {m n lo hi : ℕ} {fb xs b : List ℕ} (o a most : ℕ)
    (named : (w : Kind) (k : ℕ) → k < m → (l w).from k < n)
    (clear : ClearBook xs fb n lo hi)
    (shelf : Shelf xs b n lo hi)
  where
    pub over-not : TakesNot (l over) m fb n lo hi xs b o most → BothNot l m fb n lo hi xs b (λ w. of_kind w o a) most
    over-not (inl h) = excess over h
    over-not (inr j) = jammed (jammed-as (λ p. ⊎_elim inl (λ q. inr (over, q))) j)

    module _ {ys b' : List ℕ} {o' : ℕ} (t : Takes (l over) m fb n lo hi xs b o most ys b' o')
        (same_work : length ys ≡ length xs)
      where
        back : {w : Kind} {j y : ℕ} → LaneImage (l w) m (λ i x. Found ys (set_at fb i) x) j y → LaneImage (l w) m (λ i x. Found xs (set_at fb i) x) j y
        back {w} p = image-as (named w) (λ i h x q. (found_back clear ys t.grown.outside i h x).0 q) p

        same-hits : lane_hits (l along) m (λ i. found_in ys (set_at fb i)) ≡ lane_hits (l along) m (λ i. found_in xs (set_at fb i))
        same-hits =
            hits-as (l along) m _ _ (λ k h.
            found-same clear ys t.grown.outside ((l along).from k) (named along k h) same_work)

        pub along-not :
            TakesNot (l along) m fb n lo hi ys b' a most → BothNot l m fb n lo hi xs b (λ w. of_kind w o a) most
        along-not (inl h) = excess along (omega (arith, same-hits))
        along-not (inr j) = jammed (jammed-as shown j)
          where
            shown :
                (p : Place) → Shelved ys b' n p ⊎ LaneImage (l along) m (λ i x. Found ys (set_at fb i) x) p.track p.position
                → Shelved xs b n p ⊎ Image l m xs fb p.track p.position
            shown p (inl q) =
                ⊎_elim (λ r. inl (record { set = q.set; member = r })) (λ r. inr (over, r))
                (grown-member (shelf.good p.track q.set) (t.grown.sets p.track q.set) q.member)
            shown p (inr q) = inr (along, back {w = along} q)

        pub both-taken :
            {zs b'' : List ℕ} {a' : ℕ} → Takes (l along) m fb n lo hi ys b' a most zs b'' a'
            → Both l m fb n lo hi xs b (λ w. of_kind w o a) most zs b'' (λ w. of_kind w o' a')
        both-taken {zs} {b''} {a'} u = record {
          grown = shelf-as (shelf-then t.grown u.grown) (λ i h y. (
            ⊎_elim (λ p. (over, p)) (λ p. (along, back {w = along} p)),
            λ q. part q.0 q.1,
          ));
          counted = counted;
          few = few;
        }
          where
            part :
                {i y : ℕ} (w : Kind) → LaneImage (l w) m (λ i x. Found xs (set_at fb i) x) i y
                → LaneImage (l over) m (λ i x. Found xs (set_at fb i) x) i y ⊎ LaneImage (l along) m (λ i x. Found ys (set_at fb i) x) i y
            part over p = inl p
            part along p =
                inr (image-as (named along) (λ i h x q. (found_back clear ys t.grown.outside i h x).1 q) p)

            counted :
                (w : Kind) → of_kind w o' a' ≡ of_kind w o a + lane_hits (l w) m (λ i. found_in xs (set_at fb i))
            counted over = t.counted
            counted along = omega (arith, u.counted, same-hits)

            few : (w : Kind) → of_kind w o' a' ≤ most
            few over = t.few
            few along = u.few

-- the columns that carry along the matches, as they are lent, where `w` tells that none is reversed
pub along-as :
    (P : Columns → ℕ → Type 0) (m p : MatchColumns) {w : List Bool} → w ≡ replicate (length m.reversed.now) false
    → p.lefts.now ≡ m.other_lefts.now → p.rights.now ≡ m.other_rights.now → p.other_lefts.now ≡ m.other_lefts.now
    → p.other_rights.now ≡ m.other_rights.now → p.reversed.now ≡ w → P (columns_in p) (length p.reversed.now)
    → P
    (columns_of m.other_lefts.now m.other_rights.now m.other_lefts.now m.other_rights.now
    (replicate (length m.reversed.now) false))
    (length m.reversed.now)
along-as P m p straight f g t u r h =
    let none = r ∙ straight in
    subst (λ (k : ℕ).
    P
    (columns_of m.other_lefts.now m.other_rights.now m.other_lefts.now m.other_rights.now
    (replicate (length m.reversed.now) false))
    k) (ap length none ∙ length-replicate (length m.reversed.now) false)
    (subst (λ (z : Columns). P z (length p.reversed.now)) (λ i. columns_of (f i) (g i) (t i) (u i) (none i)) h)

-- the lanes of a step take from sets that are there
pub lanes-named :
    {c : Columns} {gs : List ℕ} {g n fa ta : ℕ} → Fit c → Groups gs g (count_of c) n → OneOfTwo fa → OneOfTwo ta
    → (w : Kind) (k : ℕ) → k < count_of c → (lane_to w c gs g fa ta).from k < n
lanes-named fit groups fo to over k l = match-named groups fit fo k l
lanes-named fit groups fo to along k l = match-named groups fit to k l
