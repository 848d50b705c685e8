-- One row more is linked.
--     direct           the next row is direct
--     first-scored     where the best chain begins so far, there is a score
--     puttable         the next row's link may be written
--     linked-more      once the next row's link is found and written, it is linked too
-- Assumes nothing.
use Prim.Native.Nat.{ℕ, ◌+◌, ◌-◌, ◌≤◌, ◌<◌}
use mathlib.Core.Path.{◌≡◌, sym, ap, ◌∙◌}
use mathlib.Core.Logic.{◌⊎◌, inl, inr, ◌↔◌, ◌≢◌}
use mathlib.Core.List.Memᴰ.{head as here}
use mathlib.Core.List.Memᴰ.{tail as there}
use mathlib.Core.List.{List, ◌∷◌}
use native.Mathlib.Omega.{arith}
use lib.ListN.{length, get_or, take, length-set}
use lib.Seq.{take-take, get_or-take, get_or-set_same, get_or-set_other}
use Rattle.rows.specs.declared.Row.{Row}
use Rattle.refinement.specs.declared.Side.TheVariants.{A}
use Rattle.refinement.specs.Order.{◌∈◌}
use Rattle.table.specs.Covering.{left_of}
use Rattle.backbone.specs.Chains.{row_numbered, Direct}
use Rattle.best_chains.specs.Best.{Apart}
use Rattle.direct_rows.specs.Direct.{place_at}
use Rattle.weighing.specs.Weighing.{score_at}
use Rattle.best_rows.specs.Halves.{Halved}
use Rattle.best_rows.proofs.Halves.{halved-scores, halved-members}
use Rattle.walking.specs.Trail.{link_at, Trail, leads}
use Rattle.linking.specs.Linking.{links_in, held_in, LinkedRow, Foremost, foremost_of, Linked, Found, Puttable, Put}
use Rattle.linking.specs.declared.Step.{Step}
use Rattle.linking.proofs.Following.{ahead-other, ahead-left}
use Rattle.linking.proofs.Members.{stands, one_more}
use Rattle.linking.proofs.Parts.{links-many}
use Rattle.linking.proofs.Trails.{chain-other, trail-kept}
use Rattle.linking.proofs.Beginning.{foremost-alone, foremost-more, foremost-scores, foremost-members}
use Rattle.linking.proofs.Next.{row-direct, row-ahead, linked-direct, linked-ahead, next_place, next-placed}

module _ {price : ℕ} {rs : List Row} {d t : ℕ} {work scores : List ℕ} {first : ℕ} (apart : Apart rs)
    (l : Linked price rs d t work scores first) (more : t < d) {r : Step} (f : Found price rs t work r) where
  -- the row that is linked
  abbrev k : ℕ
  k = r.number

  -- how many rows there are
  abbrev n : ℕ
  n = length rs

  few : d ≤ n
  few = omega (arith, l.arranged.few, l.counted)

  pub direct : Direct rs k
  direct = rw f.number (row-direct apart l more t more)

  -- none so far, or one of those that are linked
  begun : ((t ≡ 0) × (first ≡ 0)) ⊎ Foremost scores (take t work) first → first ≤ length scores
  begun (inl (none, zero)) = omega arith
  begun (inr so_far) = omega (arith, (linked-direct apart l more so_far.one).to_last, l.score_room)

  pub first-scored : first ≤ length scores
  first-scored = begun l.begins

  pub puttable : price ≤ 1000 → Puttable price rs d work scores r
  puttable priced =
      record {
        scored = record { each = l.score_room; priced = priced };
        holding = l.holding;
        from_one = direct.from_one;
        to_last = direct.to_last;
        placed = rw (f.place, f.number) (next-placed apart l more);
        few = few;
        room = l.work_room;
      }

  module _ {work' scores' : List ℕ} (p : Put price rs d r work scores work' scores') where
    -- ---- the order stays

    order-kept : (i : ℕ) → i ≤ d → take i work' ≡ take i work
    order-kept i below =
        sym (take-take i n work' (omega (arith, few)))
        ∙ (ap (take i) p.ordered ∙ take-take i n work (omega (arith, few)))

    row_kept : (i : ℕ) → i < d → get_or work' i 0 ≡ get_or work i 0
    row_kept i below =
        sym (get_or-take d work' i 0 below)
        ∙ (ap (λ (xs : List ℕ). get_or xs i 0) (order-kept d (omega arith)) ∙ get_or-take d work i 0 below)

    -- ---- scores and links of the other rows stay

    -- two rows have their numbers at two places
    apart_from : (j : ℕ) → Direct rs j → j ≢ k → (j - 1) ≢ (k - 1)
    apart_from j dj other e = other (omega (arith, dj.from_one, direct.from_one))

    score-kept : (j : ℕ) → Direct rs j → j ≢ k → score_at scores' j ≡ score_at scores j
    score-kept j dj other = rw p.scored (get_or-set_other scores (k - 1) (j - 1) r.score 0 (apart_from j dj other))

    score-new : score_at scores' k ≡ r.score
    score-new =
        rw p.scored
        (get_or-set_same scores (k - 1) r.score 0 (omega (arith, direct.from_one, direct.to_last, l.score_room)))

    link-kept : (j : ℕ) → Direct rs j → j ≢ k → link_at (links_in n work') j ≡ link_at (links_in n work) j
    link-kept j dj other =
        rw p.linked (get_or-set_other (links_in n work) (k - 1) (j - 1) r.next 0 (apart_from j dj other))

    link-new : link_at (links_in n work') k ≡ r.next
    link-new =
        rw p.linked
        (get_or-set_same (links_in n work) (k - 1) r.next 0
        (omega (arith, direct.from_one, direct.to_last, links-many n work l.work_room)))

    -- ---- the trails

    trail-same : {j : ℕ} {js : List ℕ} → Trail (links_in n work) j js → ((m : ℕ) → m ∈ js → m ≢ k)
        → Trail (links_in n work') j js
    trail-same trail other = rw p.linked (trail-kept k r.next direct.from_one trail other)

    -- the next row is linked, and no link of its chain is that which is written
    new_row : LinkedRow price rs (links_in n work') scores' k
    new_row =
        record {
          rest = f.onward.rest;
          best = rw score-new f.onward.best;
          trail =
              leads {ks = f.onward.rest} direct.from_one long (rw link-new (trail-same f.onward.trail other));
        }
      where
        long : k ≤ length (links_in n work')
        long = rw p.linked (rw length-set (omega (arith, links-many n work l.work_room, direct.to_last)))

        other : (m : ℕ) → m ∈ f.onward.rest → m ≢ k
        other m among = chain-other apart f.onward.best.chain (omega arith) m among

    -- the others that are linked
    linked-other : {j : ℕ} → j ∈ take t work → j ≢ k
    linked-other {j} m e = ahead-other rs A j (get_or work t 0) (linked-ahead apart l more m) (e ∙ f.number)

    scores-kept : (j : ℕ) → j ∈ take t work → score_at scores' j ≡ score_at scores j
    scores-kept j among = score-kept j (linked-direct apart l more among) (linked-other among)

    -- the others keep their best chains
    kept_row : (j : ℕ) → j ∈ take t work → LinkedRow price rs (links_in n work') scores' j
    kept_row j among =
        record {
          rest = row.rest;
          best = rw (scores-kept j among) row.best;
          trail = trail-same row.trail other;
        }
      where
        row : LinkedRow price rs (links_in n work) scores j
        row = l.linked j among

        no-further : left_of A (row_numbered rs k) ≤ left_of A (row_numbered rs j)
        no-further =
            ahead-left apart (linked-direct apart l more among) direct
            (rw f.number (linked-ahead apart l more among))

        other : (m : ℕ) → m ∈ (j ∷ row.rest) → m ≢ k
        other m (here e) = rw e (linked-other among)
        other m (there on) = chain-other apart row.best.chain no-further m on

    -- ---- all together

    members : (j : ℕ) → (j ∈ (k ∷ take t work)) ↔ (j ∈ take (t + 1) work)
    members = rw f.number (one_more work t (omega (arith, few, l.work_room)))

    each-linked : (j : ℕ) → j ∈ (k ∷ take t work) → LinkedRow price rs (links_in n work') scores' j
    each-linked j (here e) = rw e new_row
    each-linked j (there among) = kept_row j among

    waits : (i : ℕ) → t + 1 ≤ i → i < d → link_at (links_in n work') (get_or work i 0) ≡ place_at l.places (get_or work i 0)
    waits i behind below =
        link-kept (get_or work i 0) (row-direct apart l more i below)
        (λ e. ahead-other rs A (get_or work t 0) (get_or work i 0) (row-ahead apart l more t i (omega arith) below)
        (sym (e ∙ f.number)))
        ∙ l.waiting i (omega arith) below

    halved-more : Halved price rs scores' (take (t + 1) work) l.places (held_in n work') 0 d
    halved-more =
        halved-members members
        (p.entered.halved (take t work) l.places placed
        (halved-scores (λ j among. sym (scores-kept j among)) l.halved))
      where
        placed : place_at l.places k ≡ r.place
        placed = rw f.number (sym (next_place apart l more) ∙ sym (rw f.number at f.place))

    begins : ((t ≡ 0) × (first ≡ 0)) ⊎ Foremost scores (take t work) first
        → Foremost scores' (take (t + 1) work) (foremost_of scores' first k)
    begins (inl (none, zero)) =
        rw zero
        (foremost-members members
        (foremost-alone scores' (take t work) k λ j m. absurd (omega (arith, (stands work t m).before))))
    begins (inr so_far) = foremost-members members
        (foremost-more scores' (take t work) k (foremost-scores scores scores' scores-kept so_far)
        (linked-direct apart l more so_far.one).from_one)

    pub linked-more : Linked price rs d (t + 1) work' scores' (foremost_of scores' first k)
    linked-more =
        record {
          places = l.places;
          arranged = rw (order-kept d (omega arith)) l.arranged;
          counted = rw (order-kept d (omega arith)) l.counted;
          so_far = omega arith;
          work_room = omega (arith, l.work_room, p.as_long);
          score_room = rw p.scored (rw length-set l.score_room);
          waiting = λ i behind below. rw (row_kept i below) (waits i behind below);
          linked = λ j among. each-linked j ((members j).1 (rw (order-kept (t + 1) (omega arith)) at among));
          holding = p.entered.holding;
          halved = rw (order-kept (t + 1) (omega arith)) halved-more;
          begins = inr (rw (order-kept (t + 1) (omega arith)) (begins l.begins));
        }
