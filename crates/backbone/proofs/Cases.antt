-- What `chaining_of` is in each of its cases, and that one of them applies.
--     Narrow, narrow-or-lent                  18's condition, and its contrary
--     call-short, call-dear, call-narrow, call-crowded, call-found
--                                             an admitted script: 11, 17, 18, 12, and the backbone
--     chaining-refused, chaining-admitted     the script's refusal, and its matches
--     Case, case                              the six as a data type, for proofs that go through them
-- Assumes nothing.
use Prim.Native.Nat.{ℕ, ◌≤◌, ◌<◌}
use mathlib.Core.Path.{◌≡◌, refl, ap, ◌∙◌}
use mathlib.Core.Logic.{◌⊎◌, inl, inr}
use mathlib.Core.Bool.{or-true}
use mathlib.Core.List.{List, ◌++◌}
use native.Mathlib.Omega.{arith}
use native.Mathlib.Decide.{dec_le, dec_lt}
use borrow.Author.Tests.{lt-ltb, le-ltb}
use lib.Dec.{ltb}
use lib.ListN.{length, drop}
use Rattle.std.specs.Prelude.{Ok, Err}
use Rattle.script.specs.Refusals.{number_of, place_of}
use Rattle.script.specs.Reading.{Reading, admitted, refused, read_script}
use Rattle.script.specs.Answers.{refusal}
use Rattle.script.specs.Outcomes.{Outcome}
use Rattle.script.specs.declared.refusal.Refusal.{Refusal}
use Rattle.script.specs.declared.refusal.Refusal.TheVariants.{WorkTooShort, TooManyPieces, PriceTooHigh, ChainTooShort}
use Rattle.script.proofs.Outcome.{read-outcome, outcome-admitted}
use Rattle.refining.specs.Refining.{Given, least_of, capacity_of, work_needed, zeroed, Refining, refining_of_matches}
use Rattle.refining.specs.Demands.{Admitted, reads}
use Rattle.refining.proofs.Numbered.{admitted_of}
use Rattle.refining.proofs.RefiningCases.{written, matches-crowded, matches-written}
use Rattle.backbone.specs.Backbone.{backbone_of, points_of}
use Rattle.backbone.specs.Chaining.{most_price, most_rows, Chaining, kept_by, least_rows}
use Rattle.backbone.specs.Chaining.{chaining_after, chaining_of_matches, chaining_of}
use Rattle.backbone.specs.Demands.{Begun, Lent}

-- 18's condition
abbrev pub Narrow : List ℕ → List ℕ → List ℕ → Type 0
Narrow table chain scores =
    (length chain < capacity_of table) ⊎ ((length scores < capacity_of table) ⊎ (most_rows < capacity_of table))

-- 12: the score buffer is zero too
abbrev pub crowded_by : List ℕ → List ℕ → List ℕ → List ℕ → Chaining
crowded_by table work chain scores =
    record { reply = Err TooManyPieces; table = table; work = zeroed work; chain = chain; scores = zeroed scores }

-- success: the backbone over the start of the chain buffer
abbrev pub found_by : Given → ℕ → List ℕ → List ℕ → List ℕ → List ℕ → Chaining
found_by g price table work chain scores =
    let ks = backbone_of price (least_rows g) in
    record {
      reply = Ok (record { score = points_of price (least_rows g); rows = length (least_of g); length = length ks });
      table = written (least_of g) table;
      work = zeroed work;
      chain = ks ++ drop (length ks) chain;
      scores = zeroed scores;
    }

-- ---- an admitted script

module _ (g : Given) (price : ℕ) (table work chain scores : List ℕ) where
  pub call-short : length work < work_needed table
      → chaining_of_matches g price table work chain scores ≡ kept_by WorkTooShort table work chain scores
  unfolding chaining_of_matches
  call-short short = rw (lt-ltb (length work) (work_needed table) short)

  module _ (enough : work_needed table ≤ length work) where
    pub call-dear : most_price < price
        → chaining_of_matches g price table work chain scores ≡ kept_by PriceTooHigh table work chain scores
    unfolding chaining_of_matches
    call-dear dear = rw (le-ltb (length work) (work_needed table) enough, lt-ltb most_price price dear)

    pub call-narrow : price ≤ most_price → Narrow table chain scores
        → chaining_of_matches g price table work chain scores ≡ kept_by ChainTooShort table work chain scores
    unfolding chaining_of_matches
    call-narrow cheap (inl h) =
        rw (
          le-ltb (length work) (work_needed table) enough,
          le-ltb most_price price cheap,
          lt-ltb (length chain) (capacity_of table) h,
        )
    call-narrow cheap (inr (inl h)) =
        rw (
          le-ltb (length work) (work_needed table) enough,
          le-ltb most_price price cheap,
          lt-ltb (length scores) (capacity_of table) h,
          or-true (ltb (length chain) (capacity_of table)),
        )
    call-narrow cheap (inr (inr h)) =
        rw (
          le-ltb (length work) (work_needed table) enough,
          le-ltb most_price price cheap,
          lt-ltb most_rows (capacity_of table) h,
          or-true (ltb (length scores) (capacity_of table)),
          or-true (ltb (length chain) (capacity_of table)),
        )

    module _ (lent : Lent price table chain scores) where
      call-refined : chaining_of_matches g price table work chain scores
          ≡ chaining_after g price (refining_of_matches g table work) chain scores
      unfolding chaining_of_matches
      call-refined =
          rw (
            le-ltb (length work) (work_needed table) enough,
            le-ltb most_price price lent.price_fits,
            le-ltb (length chain) (capacity_of table) lent.chain_fits,
            le-ltb (length scores) (capacity_of table) lent.scores_fit,
            le-ltb most_rows (capacity_of table) lent.numbers_fit,
          )

      pub call-crowded : capacity_of table < length (least_of g)
          → chaining_of_matches g price table work chain scores ≡ crowded_by table work chain scores
      call-crowded many =
          call-refined
          ∙ ap (λ (made : Refining). chaining_after g price made chain scores) (matches-crowded g table work enough many)

      pub call-found : length (least_of g) ≤ capacity_of table
          → chaining_of_matches g price table work chain scores ≡ found_by g price table work chain scores
      call-found room =
          call-refined
          ∙ ap (λ (made : Refining). chaining_after g price made chain scores) (matches-written g table work enough room)

-- ---- scripts

module _ (script : List ℕ) (price : ℕ) (table work chain scores : List ℕ) where
  pub chaining-refused : {r : Refusal} → read_script script ≡ refused r
      → chaining_of script price table work chain scores ≡ kept_by r table work chain scores
  unfolding chaining_of
  chaining-refused e = rw e

  pub chaining-admitted : {g : Given} → Admitted script g
      → chaining_of script price table work chain scores ≡ chaining_of_matches g price table work chain scores
  unfolding chaining_of
  chaining-admitted (reads o) = rw (outcome-admitted o)

-- the reply and the buffers after the call, with the case that they are of
pub data Case (script : List ℕ) (price : ℕ) (table work chain scores : List ℕ) : Chaining → Type 0 where
  refusing :
      {r : Refusal} → Outcome script (refusal (number_of r) (place_of r))
      → Case script price table work chain scores (kept_by r table work chain scores)
  short :
      {g : Given} → Admitted script g → length work < work_needed table
      → Case script price table work chain scores (kept_by WorkTooShort table work chain scores)
  dear :
      {g : Given} → Begun script table work g → most_price < price
      → Case script price table work chain scores (kept_by PriceTooHigh table work chain scores)
  narrow :
      {g : Given} → Begun script table work g → price ≤ most_price → Narrow table chain scores
      → Case script price table work chain scores (kept_by ChainTooShort table work chain scores)
  crowded :
      {g : Given} → Begun script table work g → Lent price table chain scores → capacity_of table < length (least_of g)
      → Case script price table work chain scores (crowded_by table work chain scores)
  found :
      {g : Given} → Begun script table work g → Lent price table chain scores → length (least_of g) ≤ capacity_of table
      → Case script price table work chain scores (found_by g price table work chain scores)

module _ (script : List ℕ) (price : ℕ) (table work chain scores : List ℕ) where
  -- the two that come of refining
  refined-case : {g : Given} → Begun script table work g → Lent price table chain scores
      → Dec (capacity_of table < length (least_of g))
      → Case script price table work chain scores (chaining_of_matches g price table work chain scores)
  refined-case {g} b lent (yes many) =
      rw (call-crowded g price table work chain scores b.enough lent many) (crowded b lent many)
  refined-case {g} b lent (no few) =
      let room : length (least_of g) ≤ capacity_of table = omega arith in
      rw (call-found g price table work chain scores b.enough lent room) (found b lent room)

  pub narrow-or-lent : Narrow table chain scores ⊎ (price ≤ most_price → Lent price table chain scores)
  narrow-or-lent =
      go (dec_lt (length chain) (capacity_of table)) (dec_lt (length scores) (capacity_of table))
      (dec_lt most_rows (capacity_of table))
    where
      go : Dec (length chain < capacity_of table) → Dec (length scores < capacity_of table)
          → Dec (most_rows < capacity_of table)
          → Narrow table chain scores ⊎ (price ≤ most_price → Lent price table chain scores)
      go (yes h) s n = inl (inl h)
      go (no c) (yes h) n = inl (inr (inl h))
      go (no c) (no s) (yes h) = inl (inr (inr h))
      go (no c) (no s) (no n) =
          inr (λ cheap. record {
            price_fits = cheap;
            chain_fits = omega arith;
            scores_fit = omega arith;
            numbers_fit = omega arith;
          })

  begun-case : {g : Given} → Begun script table work g → Dec (price ≤ most_price)
      → Narrow table chain scores ⊎ (price ≤ most_price → Lent price table chain scores)
      → Case script price table work chain scores (chaining_of_matches g price table work chain scores)
  begun-case {g} b (no h) n =
      let above : most_price < price = omega arith in
      rw (call-dear g price table work chain scores b.enough above) (dear b above)
  begun-case {g} b (yes cheap) (inl n) =
      rw (call-narrow g price table work chain scores b.enough cheap n) (narrow b cheap n)
  begun-case {g} b (yes cheap) (inr lent) = refined-case b (lent cheap) (dec_lt (capacity_of table) (length (least_of g)))

  admitted-case : {g : Given} → Admitted script g → Dec (work_needed table ≤ length work)
      → Case script price table work chain scores (chaining_of_matches g price table work chain scores)
  admitted-case {g} a (no h) =
      let little : length work < work_needed table = omega arith in
      rw (call-short g price table work chain scores little) (short a little)
  admitted-case a (yes enough) =
      begun-case (record { admitted = a; enough = enough }) (dec_le price most_price) narrow-or-lent

  pub case : Case script price table work chain scores (chaining_of script price table work chain scores)
  case = by-reading (read_script script) refl
    where
      by-reading : (x : Reading) → read_script script ≡ x
          → Case script price table work chain scores (chaining_of script price table work chain scores)
      by-reading (refused r) e =
          rw (chaining-refused script price table work chain scores e) (refusing (read-outcome e))
      by-reading (admitted ls ms ks) e =
          let a = admitted_of e in
          rw (chaining-admitted script price table work chain scores a)
          (admitted-case a (dec_le (work_needed table) (length work)))
