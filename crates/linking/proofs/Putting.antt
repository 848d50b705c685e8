-- A link is written, and its row entered.
--     linked_work, linked_scores     the buffers once the link is written
--     lent-size                    how long the part is that is lent for entering
--     put                          the buffers once the row is entered
-- Assumes nothing.
use Prim.Native.Nat.{ℕ, ◌+◌, ◌-◌, ◌*◌, ◌≤◌, ◌<◌}
use mathlib.Core.Path.{◌≡◌, refl, ◌∙◌}
use mathlib.Core.List.{List}
use native.Mathlib.Omega.{arith}
use lib.ListN.{length, set, length-set}
use Rattle.rows.specs.declared.Row.{Row}
use Rattle.weighing.specs.Weighing.{Scored}
use Rattle.best_rows.specs.Halves.{Holding, Entered}
use Rattle.linking.specs.Linking.{held_in, Puttable, Put}
use Rattle.linking.specs.declared.Step.{Step}
use Rattle.linking.proofs.Parts.{lent_in, lent-held, held-many, written-order, written-links, written_held}
use Rattle.linking.proofs.Parts.{renewed, renewed-length, renewed-order, renewed-links, renewed-held}

-- the link of row k stands at place n + (k - 1) ..
abbrev pub linked_work : ℕ → List ℕ → Step → List ℕ
linked_work n work r = set work (n + (r.number - 1)) r.next

-- .. and its score at place k - 1
abbrev pub linked_scores : List ℕ → Step → List ℕ
linked_scores scores r = set scores (r.number - 1) r.score

module _ {price n : ℕ} {rs : List Row} {d : ℕ} {work scores : List ℕ} {r : Step} (p : Puttable price rs d work scores r)
    (counted : n ≡ length rs) where
  -- the row is there
  below : r.number - 1 < length rs
  below = omega (arith, p.from_one, p.to_last)

  -- the part that is lent is not yet altered
  lent-kept : lent_in n (linked_work n work r) ≡ held_in (length rs) work
  lent-kept =
      rw counted
      (lent-held (length rs) (linked_work (length rs) work r)
      ∙ written_held (length rs) work (r.number - 1) r.next below)

  pub lent-size : length (lent_in n (linked_work n work r)) ≡ length rs
  lent-size = rw lent-kept (held-many (length rs) work p.room)

  -- the work buffer is as long
  room : 4 * length rs ≤ length (linked_work (length rs) work r)
  room = rw length-set p.room

  pub put : (held : List ℕ) → length held ≡ length (lent_in n (linked_work n work r))
      → Entered price rs (linked_scores scores r) (lent_in n (linked_work n work r)) 0 d r.place r.number held
      → Put price rs d r work scores (renewed n (linked_work n work r) held) (linked_scores scores r)
  put held size entered =
      let m = length rs in
      let w = linked_work m work r in
      let k = r.number - 1 in
      let many : length held ≡ m = size ∙ lent-size in
      rw counted
      (record {
        scored = refl;
        as_long = renewed-length m w held room many ∙ length-set work (m + k) r.next;
        ordered = renewed-order m w held room many ∙ written-order m work k r.next below;
        linked = renewed-links m w held room many ∙ written-links m work k r.next below;
        entered = rw (renewed-held m w held room many) (rw lent-kept at entered);
      })
