-- `count_classes` meets its contract: row by row, the class of its length has one more. Assumes nothing.
use Prim.Native.Nat.{ℕ}
use mathlib.Core.List.{List}
use mathlib.Core.Path.{◌≡◌, refl, sym, ap, ◌∙◌}
use native.Mathlib.Omega.{arith}
use borrow.Author.Tests.{ne_eqb}
use lib.ListN.{get_or, take}
use lib.Seq.{length-take-le}
use Rattle.std.specs.Prelude.{Option, Some, None, MatchOption}
use Rattle.rows.specs.Rows.{rows_of}
use Rattle.table.specs.Summing.{total, class_count, in_class, classes_from}
use Rattle.table.proofs.Sums.{classes-at, classes-same, classes-more}
use Rattle.table.proofs.Counting.{count-inside}
use Rattle.summary.proofs.count_classes.Goals as goal
use Rattle.summary.proofs.count_classes.Goals.{in-Some, in_default}

no_class : (P : Type 0) (Q : ℕ → Type 0) (o : Option ℕ) → ((j : ℕ) → o ≡ Some j → ⊥) → MatchOption o P Q → P
no_class P Q None apart told = told
no_class P Q (Some j) apart told = absurd (apart j refl)

pub loop-k-init : goal.loop-k-init
unfolding classes_from total
loop-k-init c =
    refl

pub overflow_add-classes : goal.overflow_add-classes
overflow_add-classes c =
    let rs = rows_of c.args.table.now in
    let class = c.in-Some.class in
    let passed = take c.loop-k.k rs in
    omega (
      arith,
      ap (λ (xs : List ℕ). get_or xs class 0) c.loop-k.invariant ∙ classes-at passed class c.in-Some.ensures.0,
      count-inside (in_class class) passed,
      length-take-le c.loop-k.k rs (omega arith),
    )

pub loop-k-preserved : goal.loop-k-preserved
loop-k-preserved c =
    let rs = rows_of c.args.table.now in
    elim c.match-class_of.branch [
      | in-Some w ↦
          let told = w.in-Some.ensures in
          let more = classes-more rs c.loop-k.k w.in-Some.class (omega arith) c.row_at.ensures told.1 told.0 in
          rw (w.classes-is, c.loop-k.invariant) more
      | in_default w ↦
          let none = no_class _ _ c.class_of.result w.in_default.not-Some c.class_of.ensures in
          w.classes-is ∙ c.loop-k.invariant
          ∙ classes-same rs c.loop-k.k class_count (omega arith) c.row_at.ensures
          (λ d l. none d l ∙ sym (ne_eqb d class_count (λ e. omega arith))) (omega arith)
    ]
