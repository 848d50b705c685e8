-- The numbers of a table name its rows: no two refinements of a script stand in the same numbers, so that the rows of
-- demand 2 and those of demand 3 are the same.
--     length-numbers   as many numbers for each piece as a row has
--     BetweenAB        a match between A and B
--     rows-ab          the rows of a script's refinement are such
--     stand-unique     the refinement that stands at the start of a table
-- Assumes nothing.
use Prim.Native.Nat.{ℕ, suc, ◌*◌}
use mathlib.Core.Path.{◌≡◌, refl, sym, ap, ap₂, ◌∙◌}
use mathlib.Core.Bool.{Bool}
use mathlib.Core.Logic.{⊎_elim}
use mathlib.Core.List.Memᴰ
use mathlib.Core.List.{List, [], ◌∷◌, map}
use mathlib.Core.List.Memᴰ.{head as here}
use mathlib.Core.List.Memᴰ.{tail as there}
use native.Mathlib.Omega.{arith}
use lib.Dec.{eqb}
use lib.ListN.{length, length-map}
use Rattle.script.specs.Commands.{bit_of}
use Rattle.script.specs.Outcomes.{Outcome}
use Rattle.script.specs.declared.command.Match.{Match as ScriptMatch}
use Rattle.script.proofs.Laws.{bit-told}
use Rattle.script.proofs.Outcome.{reach-tracks}
use Rattle.rows.specs.Rows.{row_width, numbers_of}
use Rattle.rows.proofs.Numbers.{numbers-length}
use Rattle.refinement.specs.declared.Side.TheVariants.{A, B}
use Rattle.refinement.specs.Order.{◌∈◌}
use Rattle.refinement.specs.Match.{Match}
use Rattle.refinement.specs.Refinement.{Refines}
use Rattle.refining.specs.Rows.{row_of_piece, piece_numbers}
use Rattle.refining.specs.Refining.{numbered, Given}
use Rattle.refining.specs.Demands.{Admitted, reads, Stand}

pub length-numbers : (rs : List Match) → length (piece_numbers rs) ≡ row_width * length rs
length-numbers rs = omega (arith, numbers-length (map row_of_piece rs), length-map rs row_of_piece)

-- a match, or a piece of one, between A and B
pub record BetweenAB (m : Match) : Type 0 where
  pub on_a : m.track_a ≡ 0
  pub on_b : m.track_b ≡ 1

numbered-ab : {m : Match} (n : ℕ) (ms : List ScriptMatch)
    → ((x : ScriptMatch) → x ∈ ms → (x.track_a ≡ 0) × (x.track_b ≡ 1)) → m ∈ numbered n ms → BetweenAB m
numbered-ab n [] h i = absurd (Memᴰ.not-nil i)
numbered-ab n (x ∷ ms) h i =
    let t = h x (here refl) in
    ⊎_elim (λ e. record {
      on_a = ap (λ (z : Match). z.track_a) e ∙ t.0;
      on_b = ap (λ (z : Match). z.track_b) e ∙ t.1;
    })
    (λ j. numbered-ab (suc n) ms (λ y k. h y (there k)) j) (Memᴰ.cases_cons i)

admitted-ab : {script : List ℕ} {g : Given} {m : Match} → Admitted script g → m ∈ g.matches → BetweenAB m
admitted-ab (reads {ms = xs} (Outcome.is_admitted r b e)) i = numbered-ab 1 xs (λ x k. reach-tracks r k) i

pub rows-ab :
    {script : List ℕ} {g : Given} {rs : List Match} → Admitted script g → Refines g.matches rs → (r : Match) → r ∈ rs
    → BetweenAB r
rows-ab a R r i =
    let p = R.pieces r i in
    let m = admitted-ab a p.1 in
    record { on_a = p.2.same_track A ∙ m.on_a; on_b = p.2.same_track B ∙ m.on_b }

direction-inj : (b b' : Bool) → bit_of b ≡ bit_of b' → b ≡ b'
direction-inj b b' e = sym (bit-told b) ∙ ap (λ (n : ℕ). eqb n 1) e ∙ bit-told b'

numbers-inj :
    (rs rs' : List Match) → ((r : Match) → r ∈ rs → BetweenAB r) → ((r : Match) → r ∈ rs' → BetweenAB r)
    → piece_numbers rs ≡ piece_numbers rs' → rs ≡ rs'
unfolding numbers_of
numbers-inj [] [] h h' e = refl
numbers-inj [] (r ∷ rs) h h' e = let z : ◌≡◌ {A = ℕ} 0 1 = cc in absurd (omega arith)
numbers-inj (r ∷ rs) [] h h' e = let z : ◌≡◌ {A = ℕ} 0 1 = cc in absurd (omega arith)
numbers-inj (r ∷ rs) (r' ∷ rs') h h' e =
    let t = h r (here refl) in
    let t' = h' r' (here refl) in
    let number : r.number ≡ r'.number = cc in
    let left_a : r.left_a ≡ r'.left_a = cc in
    let left_b : r.left_b ≡ r'.left_b = cc in
    let letters : r.length ≡ r'.length = cc in
    let way : bit_of r.reversed ≡ bit_of r'.reversed = cc in
    let reversed = direction-inj r.reversed r'.reversed way in
    let onA = t.on_a ∙ sym t'.on_a in
    let onB = t.on_b ∙ sym t'.on_b in
    let later : piece_numbers rs ≡ piece_numbers rs' = cc in
    let same : r ≡ r' = λ i. record {
      number = number i;
      track_a = onA i;
      left_a = left_a i;
      track_b = onB i;
      left_b = left_b i;
      length = letters i;
      reversed = reversed i;
    } in
    ap₂ ◌∷◌ same (numbers-inj rs rs' (λ x k. h x (there k)) (λ x k. h' x (there k)) later)

pub stand-unique :
    {script table : List ℕ} {g : Given} {rs rs' : List Match} {n : ℕ} → Admitted script g → Refines g.matches rs
    → Refines g.matches rs' → Stand rs n table → Stand rs' n table → rs ≡ rs'
stand-unique {rs = rs} {rs' = rs'} a R R' s s' =
    numbers-inj rs rs' (rows-ab a R) (rows-ab a R') (sym s.numbers ∙ s'.numbers)
