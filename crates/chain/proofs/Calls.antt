-- From what the inner functions ensure to what the chaining call ensures.
--     admitting-lent, admitting-unlent      the test of the price and the buffers, both ways
--     read-admitted                         what an admitted script gives
--     refuse-script, refuse-work, refuse-price, refuse-chain
--                                           a call that the test does not pass: the script's refusal, 11, 17, 18
--     Tabled                                the rows that refining makes
--     tabled-findable, tabled-found         the backbone of them, before it is looked for and when it is found
--     refined-tabled, refined-refused       what refining ensures is one of two: rows, or a refusal
-- Assumes nothing.
use Prim.Native.Nat.{ℕ, ◌*◌, ◌≤◌, ◌<◌}
use mathlib.Core.Path.{◌≡◌, refl, sym, ap, ◌∙◌}
use mathlib.Core.Logic.{⊎_elim}
use mathlib.Core.Bool.{Bool, true, false, ◌&&◌, false≢true}
use mathlib.Core.List.{List, ◌++◌}
use native.Mathlib.Omega.{arith}
use borrow.Author.Tests.{leb-true, le-leb, ne_eqb}
use lib.Dec.{leb}
use lib.ListN.{length, take, drop, replicate, length-take, length-replicate, take-append-drop}
use Rattle.std.specs.Prelude.{Result, Ok, Err}
use Rattle.script.specs.Refusals.{number_of}
use Rattle.script.specs.Reading.{Reading, admitted, refused, read_script, verdict_of}
use Rattle.script.specs.declared.Admitted.{Admitted as Told}
use Rattle.script.specs.declared.refusal.Refusal.{Refusal}
use Rattle.script.specs.declared.refusal.Refusal.TheVariants.{WorkTooShort, TooManyPieces, PriceTooHigh, ChainTooShort}
use Rattle.script.proofs.Outcome.{read-outcome}
use Rattle.script.proofs.Holding.{holds-admitted, reading-refused}
use Rattle.rows.specs.Rows.{row_width, rows_of}
use Rattle.rows.proofs.TableRows.{rows-length}
use Rattle.refining.specs.Refining.{Given, given_by, least_of, capacity_of, work_needed, zeroed, Refining, refining_of}
use Rattle.refining.specs.Demands.{Admitted}
use Rattle.refining.proofs.Numbered.{admitted_of, admitted-matches}
use Rattle.refining.proofs.RefiningCases.{written, exceeds-many, MatchesCase, short, crowded, writing, matches-case}
use Rattle.refining.proofs.RefiningCases.{refining-refused, refining-admitted}
use Rattle.refining.proofs.Demands.{script-twelve}
use Rattle.backbone.specs.Backbone.{backbone_of, points_of}
use Rattle.backbone.specs.Chaining.{most_price, most_rows, least_rows}
use Rattle.backbone.specs.Demands.{Lent}
use Rattle.backbone.proofs.Backbones.{backbone-unique}
use Rattle.backbone.proofs.LeastRows.{least-length, least-read}
use Rattle.backbone.proofs.Demands.{least-backbone}
use Rattle.backbone.proofs.Cases.{narrow-or-lent, call-short, call-dear, call-narrow, call-crowded, call-found}
use Rattle.backbone.proofs.Cases.{chaining-refused, chaining-admitted}
use Rattle.best_chains.proofs.Apart.{least-apart}
use Rattle.finding_chain.specs.Finding.{Findable, FoundChain}
use Rattle.finding_chain.specs.declared.Found.{Found}
use Rattle.chain.specs.Calls.{admitting, Refuses, scores_after, Chains}

-- ---- the test

-- four tests of which each must hold
passed-all :
    (a b c d : Bool) → a && (b && (c && d)) ≡ true → (a ≡ true) × (b ≡ true) × (c ≡ true) × (d ≡ true)
passed-all true true true d e = (refl, refl, refl, e)
passed-all true true false d e = absurd (false≢true e)
passed-all true false c d e = absurd (false≢true e)
passed-all false b c d e = absurd (false≢true e)

module _ (price : ℕ) (table chain scores : List ℕ) {capacity : ℕ} {told : Bool}
    (counted : capacity ≡ length (rows_of table))
    (asked : told ≡ admitting price capacity (length chain) (length scores)) where
  pub admitting-lent : told ≡ true → Lent price table chain scores
  admitting-lent passed =
      let tests =
      passed-all (leb price most_price) (leb capacity (length chain)) (leb capacity (length scores))
      (leb capacity most_rows) (sym asked ∙ passed) in
      let rows = rows-length table in
      record {
        price_fits = leb-true price most_price tests.0;
        chain_fits = omega (arith, leb-true capacity (length chain) tests.1);
        scores_fit = omega (arith, leb-true capacity (length scores) tests.2);
        numbers_fit = omega (arith, leb-true capacity most_rows tests.3);
      }

  pub admitting-unlent : told ≡ false → ¬ Lent price table chain scores
  admitting-unlent failed lent =
      let rows = rows-length table in
      let cheap = le-leb price most_price lent.price_fits in
      let chain_fits = le-leb capacity (length chain) (omega (arith, lent.chain_fits)) in
      let scores_fit = le-leb capacity (length scores) (omega (arith, lent.scores_fit)) in
      let numbers_fit = le-leb capacity most_rows (omega (arith, lent.numbers_fit)) in
      false≢true (sym failed ∙ asked ∙ rw (cheap, chain_fits, scores_fit, numbers_fit))

-- ---- a call that it does not pass

pub refuse-script :
    (script : List ℕ) (price : ℕ) (table work : List ℕ) {told : Result Told Refusal} {r : Refusal}
    → told ≡ verdict_of (read_script script) → told ≡ Err r → Refuses script price table work r
refuse-script script price table work reads v =
    record {
      refuses = λ chain scores _.
          chaining-refused script price table work chain scores (reading-refused script reads v);
    }

pub read-admitted :
    (script : List ℕ) {told : Result Told Refusal} {a : Told} → told ≡ verdict_of (read_script script)
    → told ≡ Ok a → (g : Given) × Admitted script g
read-admitted script reads v =
    let held = holds-admitted script reads v in (given_by held.matches held.points, admitted_of held.read)

module _ (script : List ℕ) (price : ℕ) (table work : List ℕ) (a : (g : Given) × Admitted script g) where
  pub refuse-work : length work < work_needed table → Refuses script price table work WorkTooShort
  refuse-work little =
      record {
        refuses = λ chain scores _.
            chaining-admitted script price table work chain scores a.1
            ∙ call-short a.0 price table work chain scores little;
      }

  pub refuse-price : work_needed table ≤ length work → most_price < price → Refuses script price table work PriceTooHigh
  refuse-price enough dear =
      record {
        refuses = λ chain scores _.
            chaining-admitted script price table work chain scores a.1
            ∙ call-dear a.0 price table work chain scores enough dear;
      }

  pub refuse-chain : work_needed table ≤ length work → price ≤ most_price → Refuses script price table work ChainTooShort
  refuse-chain enough cheap =
      record {
        refuses = λ chain scores unlent.
            let narrow =
            ⊎_elim (λ n. n) (λ lent. absurd (unlent (lent cheap)))
            (narrow-or-lent script price table work chain scores) in
            chaining-admitted script price table work chain scores a.1
            ∙ call-narrow a.0 price table work chain scores enough cheap narrow;
      }

-- ---- a call that it passes, by what refining makes

-- the reply of refining and what it leaves, with the case that they are of
data Made (script table work : List ℕ) : Result ℕ Refusal → List ℕ → List ℕ → Type 0 where
  unread : {r : Refusal} → read_script script ≡ refused r → Made script table work (Err r) table work
  matched :
      {g : Given} {reply : Result ℕ Refusal} {table' work' : List ℕ} → Admitted script g
      → MatchesCase g table work reply table' work' → Made script table work reply table' work'

-- the same of what a call of refining makes
abbrev MadeBy : List ℕ → List ℕ → List ℕ → Refining → Type 0
MadeBy script table work x = Made script table work x.reply x.table x.work

made : (script table work : List ℕ) → MadeBy script table work (refining_of script table work)
made script table work = by-reading (read_script script) refl
  where
    by-reading : (x : Reading) → read_script script ≡ x → MadeBy script table work (refining_of script table work)
    by-reading (refused r) e = rw (refining-refused script table work e) (unread e)
    by-reading (admitted ls ms ks) e =
        let a = admitted_of e in
        rw (refining-admitted script table work a) (matched a (matches-case (admitted-matches a) table work))

-- a cleared buffer is clear
zeroed-twice : (work : List ℕ) → zeroed (zeroed work) ≡ zeroed work
zeroed-twice work = ap (λ (k : ℕ). replicate k 0) (length-replicate (length work) 0)

-- the rows that refining makes
pub record Tabled (script table work : List ℕ) (n : ℕ) (table' work' : List ℕ) : Type 0 where
  pub given : Given
  pub admits : Admitted script given
  pub enough : work_needed table ≤ length work
  pub room : length (least_of given) ≤ capacity_of table
  pub count : n ≡ length (least_of given)
  pub rows : table' ≡ written (least_of given) table
  pub clear : work' ≡ zeroed work

matched-tabled : {script table work : List ℕ} {g : Given} {reply : Result ℕ Refusal} {n : ℕ} {table' work' : List ℕ}
    → Admitted script g → MatchesCase g table work reply table' work' → reply ≡ Ok n
    → Tabled script table work n table' work'
matched-tabled a (short h) is = let z : ◌≡◌ {A = ℕ} 0 1 = cc in absurd (omega arith)
matched-tabled a (crowded enough exceeds) is = let z : ◌≡◌ {A = ℕ} 0 1 = cc in absurd (omega arith)
matched-tabled {g = g} {n = n} a (writing enough room) is =
    let count : n ≡ length (least_of g) = cc in
    record { given = g; admits = a; enough = enough; room = room; count = count; rows = refl; clear = refl }

made-tabled : {script table work : List ℕ} {reply : Result ℕ Refusal} {n : ℕ} {table' work' : List ℕ}
    → Made script table work reply table' work' → reply ≡ Ok n → Tabled script table work n table' work'
made-tabled (unread e) is = let z : ◌≡◌ {A = ℕ} 0 1 = cc in absurd (omega arith)
made-tabled (matched a m) is = matched-tabled a m is

module _ (script : List ℕ) (price : ℕ) (table work chain scores : List ℕ) (lent : Lent price table chain scores) where
  matched-refused :
      {g : Given} {reply : Result ℕ Refusal} {table' work' : List ℕ} {r : Refusal} → Admitted script g
      → MatchesCase g table work reply table' work' → reply ≡ Err r
      → Chains script price table work chain scores (Err r) table' work' chain (scores_after r scores)
  matched-refused {g = g} {r = r} a (short h) is =
      let same : r ≡ WorkTooShort = cc in
      rw same
      (chaining-admitted script price table work chain scores a ∙ call-short g price table work chain scores h)
  matched-refused {g = g} {r = r} a (crowded enough exceeds) is =
      let same : r ≡ TooManyPieces = cc in
      let many = exceeds-many (admitted-matches a) exceeds in
      rw same
      (chaining-admitted script price table work chain scores a
      ∙ call-crowded g price table work chain scores enough lent many)
  matched-refused a (writing enough room) is = let z : ◌≡◌ {A = ℕ} 0 1 = cc in absurd (omega arith)

  made-refused :
      {reply : Result ℕ Refusal} {table' work' : List ℕ} {r : Refusal} → Made script table work reply table' work'
      → reply ≡ Err r
      → Chains script price table work chain scores (Err r) table' work' chain (scores_after r scores)
  made-refused {r = r} (unread {r = f} e) is =
      let same : r ≡ f = cc in
      let other = ne_eqb (number_of f) 12 (script-twelve (read-outcome e)) in
      rw (same, other) (chaining-refused script price table work chain scores e)
  made-refused (matched a m) is = matched-refused a m is

  module _ {n : ℕ} {table' work' : List ℕ} (t : Tabled script table work n table' work') where
    -- the rows in the table's start are those of the least table
    tabled-rows : rows_of (take (row_width * n) table') ≡ least_rows t.given
    tabled-rows = rw (t.count, t.rows) (least-read t.given table)

    pub tabled-findable : Findable (rows_of (take (row_width * n) table')) price work' chain scores
    tabled-findable =
        let many = least-length t.given in
        let long : length (zeroed work) ≡ length work = length-replicate (length work) 0 in
        rw (tabled-rows, t.clear)
        (record {
          apart = least-apart t.admits;
          priced = lent.price_fits;
          counted = omega (arith, t.room, lent.numbers_fit);
          work_room = omega (arith, t.room, t.enough);
          work_clear = sym (zeroed-twice work);
          chain_room = omega (arith, t.room, lent.chain_fits);
          score_room = omega (arith, t.room, lent.scores_fit);
        })

    module _ {found : Found} {work'' chain' scores' : List ℕ} (kept : length chain' ≡ length chain)
        (f : FoundChain (rows_of (take (row_width * n) table')) price work' chain scores found work'' chain' scores') where
      -- what is found is the computed backbone
      found-unique :
          (take found.length chain' ≡ backbone_of price (least_rows t.given))
          × (found.score ≡ points_of price (least_rows t.given))
      found-unique =
          let best = least-backbone t.given (admitted-matches t.admits) price in
          backbone-unique best (rw tabled-rows at f.backbone)

      pub tabled-found :
          Chains script price table work chain scores
          (Ok (record { score = found.score; rows = n; length = found.length })) table' work'' chain' scores'
      tabled-found =
          let ks = backbone_of price (least_rows t.given) in
          let long : found.length ≡ length ks =
          sym (ap length (sym found-unique.0) ∙ length-take found.length chain' ∙ omega (arith, f.within)) in
          let chained : chain' ≡ ks ++ drop (length ks) chain =
          rw (← long, ← f.past, ← found-unique.0) (sym (take-append-drop found.length chain')) in
          let clear : work'' ≡ zeroed work = f.work_zero ∙ ap zeroed t.clear ∙ zeroed-twice work in
          rw (found-unique.1, t.count, long, t.rows, clear, chained, f.scores_zero)
          (chaining-admitted script price table work chain scores t.admits
          ∙ call-found t.given price table work chain scores t.enough lent t.room)

-- ---- by the equations that refining ensures

module _ (script table work : List ℕ) {reply : Result ℕ Refusal} {table' work' : List ℕ}
    (replies : reply ≡ (refining_of script table work).reply) (tables : table' ≡ (refining_of script table work).table)
    (works : work' ≡ (refining_of script table work).work) where
  is_made : Made script table work reply table' work'
  is_made = rw (replies, tables, works) (made script table work)

  pub refined-tabled : {n : ℕ} → reply ≡ Ok n → Tabled script table work n table' work'
  refined-tabled is = made-tabled is_made is

  pub refined-refused :
      (price : ℕ) (chain scores : List ℕ) {r : Refusal} {scores' : List ℕ} → Lent price table chain scores
      → reply ≡ Err r → scores' ≡ scores_after r scores
      → Chains script price table work chain scores (Err r) table' work' chain scores'
  refined-refused price chain scores lent is after =
      rw after (made-refused script price table work chain scores lent is_made is)
