-- The proof of the cycle of calls {a_step, b_step}. Both go by one law of a step (Sides), for A and for B. Assumes
-- nothing.
use mathlib.Core.Path.{refl}
use native.Mathlib.Omega.{arith}
use borrow.Author.Rules.{rules}
use Rattle.std.proofs.lemmas.Result.{err_from_is_err_and}
use Rattle.match_columns.specs.Held.{columns_in}
use Rattle.tracks.specs.Engine.{books_of}
use Rattle.tracks.proofs.Grouped.{grouped-fit}
use Rattle.stepping.specs.Steps.{hits_of}
use Rattle.stepping.specs.declared.Counts.{Counts}
use Rattle.stepping.proofs.Sides.{step-able, step-open, step_less, step-done, step-not, halves-within, goes_on}
use Rattle.stepping.proofs.+a_step_b_step.Goals as goal

pub a_step-overflow_mul-capacity : goal.a_step-overflow_mul-capacity
a_step-overflow_mul-capacity t c = let within = halves-within c.requires.opened.1 in search rules

pub a_step-overflow_mul-capacity-2 : goal.a_step-overflow_mul-capacity-2
a_step-overflow_mul-capacity-2 t c = let within = halves-within c.requires.opened.1 in search rules

pub a_step-overflow_mul-capacity-3 : goal.a_step-overflow_mul-capacity-3
a_step-overflow_mul-capacity-3 t c = let within = halves-within c.requires.opened.1 in search rules

pub a_step-overflow_add-capacity : goal.a_step-overflow_add-capacity
a_step-overflow_add-capacity t c = let within = halves-within c.requires.opened.1 in search rules

pub a_step-take_step-requires-clause-able : goal.a_step-take_step-requires-clause-able
a_step-take_step-requires-clause-able t c = step-able c.requires.given.groups c.requires.opened.1

pub a_step-returns-then-not-any_found : goal.a_step-returns-then-not-any_found
a_step-returns-then-not-any_found t c =
    let given = c.requires.given in
    let after = books_of c.take_step.new.from_book c.take_step.new.book in
    let next : Counts = record { over_a = c.in_ok-taken.taken.over; over_b = c.args.counts.over_b; along_a = c.in_ok-taken.taken.along; along_b = c.args.counts.along_b } in
    λ marks held.
    step-done given.groups held (grouped-fit given.groups given.fit refl marks) after (hits_of next) c.in_ok-taken.ensures
    (λ w. refl) (c.any_found.ensures.unless c.if-not-any_found.true)

pub a_step-returns-then-budget-eq0 : goal.a_step-returns-then-budget-eq0
a_step-returns-then-budget-eq0 t c =
    let given = c.requires.given in
    let after = books_of c.take_step.new.from_book c.take_step.new.book in
    let next : Counts = record { over_a = c.in_ok-taken.taken.over; over_b = c.args.counts.over_b; along_a = c.in_ok-taken.taken.along; along_b = c.args.counts.along_b } in
    let some = c.any_found.ensures.when c.if-not-any_found.false in
    λ marks held.
    let fit = grouped-fit given.groups given.fit refl marks in (
      step-open given.groups held fit after (hits_of next) c.in_ok-taken.ensures (λ w. refl),
      step_less given.groups held fit after (hits_of next) c.in_ok-taken.ensures (λ w. refl) some,
    )

pub a_step-b_step-requires : goal.a_step-b_step-requires
a_step-b_step-requires t c =
    let given = c.requires.given in
    let after = books_of c.take_step.new.from_book c.take_step.new.book in
    let next : Counts = record { over_a = c.in_ok-taken.taken.over; over_b = c.args.counts.over_b; along_a = c.in_ok-taken.taken.along; along_b = c.args.counts.along_b } in
    let some = c.any_found.ensures.when c.if-not-any_found.false in
    let opened = c.requires.opened in
    let fit = grouped-fit given.groups given.fit refl opened.0 in (
      omega (
        arith,
        c.decreases,
        step_less given.groups opened.1 fit after (hits_of next) c.in_ok-taken.ensures (λ w. refl) some,
      ),
      (given, (opened.0, step-open given.groups opened.1 fit after (hits_of next) c.in_ok-taken.ensures (λ w. refl))),
    )

pub a_step-returns-in_err-taken : goal.a_step-returns-in_err-taken
a_step-returns-in_err-taken t c =
    let given = c.requires.given in
    let p = err_from_is_err_and c.from_residual.result c.from_residual.ensures.1 in
    λ marks held.
    rw p.1 (step-not given.groups held (grouped-fit given.groups given.fit refl marks) c.in_err-taken.ensures)

pub a_step-returns : goal.a_step-returns
a_step-returns t c =
    let a = c.args in
    let given = c.requires.given in
    let after = books_of c.take_step.new.from_book c.take_step.new.book in
    let next : Counts = record { over_a = c.in_ok-taken.taken.over; over_b = c.args.counts.over_b; along_a = c.in_ok-taken.taken.along; along_b = c.args.counts.along_b } in
    let some = c.any_found.ensures.when c.if-not-any_found.false in
    λ marks held.
    let fit = grouped-fit given.groups given.fit refl marks in
    goes_on
    (columns_in a.grouped.now.matches) a.grouped.now.groups.now a.grouped.now.count a.grouped.now.sets
    a.capacity marks _ _ _ _ _
    (step_less given.groups held fit after (hits_of next) c.in_ok-taken.ensures (λ w. refl) some) c.b_step.result
    (c.b_step.ensures marks
    (step-open given.groups held fit after (hits_of next) c.in_ok-taken.ensures (λ w. refl)))

pub b_step-overflow_mul-capacity : goal.b_step-overflow_mul-capacity
b_step-overflow_mul-capacity t c = let within = halves-within c.requires.opened.1 in search rules

pub b_step-overflow_mul-capacity-2 : goal.b_step-overflow_mul-capacity-2
b_step-overflow_mul-capacity-2 t c = let within = halves-within c.requires.opened.1 in search rules

pub b_step-overflow_mul-capacity-3 : goal.b_step-overflow_mul-capacity-3
b_step-overflow_mul-capacity-3 t c = let within = halves-within c.requires.opened.1 in search rules

pub b_step-overflow_add-capacity : goal.b_step-overflow_add-capacity
b_step-overflow_add-capacity t c = let within = halves-within c.requires.opened.1 in search rules

pub b_step-take_step-requires-clause-able : goal.b_step-take_step-requires-clause-able
b_step-take_step-requires-clause-able t c =
    rw (c.turned.ensures.reversed, c.turned.ensures.groups, c.turned.ensures.count, c.turned.ensures.sets) (step-able c.requires.given.groups c.requires.opened.1)

pub b_step-returns-then-not-any_found : goal.b_step-returns-then-not-any_found
b_step-returns-then-not-any_found t c =
    let lent = c.turned.ensures in
    let taken = rw (
      lent.lefts,
      lent.rights,
      lent.other_lefts,
      lent.other_rights,
      lent.reversed,
      lent.groups,
      lent.count,
      lent.sets,
    ) at c.in_ok-taken.ensures in
    let given = c.requires.given in
    let after = books_of c.take_step.new.book c.take_step.new.from_book in
    let next : Counts = record { over_a = c.args.counts.over_a; over_b = c.in_ok-taken.taken.over; along_a = c.args.counts.along_a; along_b = c.in_ok-taken.taken.along } in
    λ marks held.
    step-done given.groups held (grouped-fit given.groups given.fit refl marks) after (hits_of next) taken
    (λ w. refl) (c.any_found.ensures.unless c.if-not-any_found.true)

pub b_step-returns-then-budget-eq0 : goal.b_step-returns-then-budget-eq0
b_step-returns-then-budget-eq0 t c =
    let lent = c.turned.ensures in
    let taken = rw (
      lent.lefts,
      lent.rights,
      lent.other_lefts,
      lent.other_rights,
      lent.reversed,
      lent.groups,
      lent.count,
      lent.sets,
    ) at c.in_ok-taken.ensures in
    let given = c.requires.given in
    let after = books_of c.take_step.new.book c.take_step.new.from_book in
    let next : Counts = record { over_a = c.args.counts.over_a; over_b = c.in_ok-taken.taken.over; along_a = c.args.counts.along_a; along_b = c.in_ok-taken.taken.along } in
    let some = c.any_found.ensures.when c.if-not-any_found.false in
    λ marks held.
    let fit = grouped-fit given.groups given.fit refl marks in (
      step-open given.groups held fit after (hits_of next) taken (λ w. refl),
      step_less given.groups held fit after (hits_of next) taken (λ w. refl) some,
    )

pub b_step-a_step-requires : goal.b_step-a_step-requires
b_step-a_step-requires t c =
    let lent = c.turned.ensures in
    let taken = rw (
      lent.lefts,
      lent.rights,
      lent.other_lefts,
      lent.other_rights,
      lent.reversed,
      lent.groups,
      lent.count,
      lent.sets,
    ) at c.in_ok-taken.ensures in
    let given = c.requires.given in
    let after = books_of c.take_step.new.book c.take_step.new.from_book in
    let next : Counts = record { over_a = c.args.counts.over_a; over_b = c.in_ok-taken.taken.over; along_a = c.args.counts.along_a; along_b = c.in_ok-taken.taken.along } in
    let some = c.any_found.ensures.when c.if-not-any_found.false in
    let opened = c.requires.opened in
    let fit = grouped-fit given.groups given.fit refl opened.0 in (
      omega (
        arith,
        c.decreases,
        step_less given.groups opened.1 fit after (hits_of next) taken (λ w. refl) some,
      ),
      (given, (opened.0, step-open given.groups opened.1 fit after (hits_of next) taken (λ w. refl))),
    )

pub b_step-returns-in_err-taken : goal.b_step-returns-in_err-taken
b_step-returns-in_err-taken t c =
    let lent = c.turned.ensures in
    let taken = rw (
      lent.lefts,
      lent.rights,
      lent.other_lefts,
      lent.other_rights,
      lent.reversed,
      lent.groups,
      lent.count,
      lent.sets,
    ) at c.in_err-taken.ensures in
    let given = c.requires.given in
    let p = err_from_is_err_and c.from_residual.result c.from_residual.ensures.1 in
    λ marks held.
    rw p.1 (step-not given.groups held (grouped-fit given.groups given.fit refl marks) taken)

pub b_step-returns : goal.b_step-returns
b_step-returns t c =
    let lent = c.turned.ensures in
    let taken = rw (
      lent.lefts,
      lent.rights,
      lent.other_lefts,
      lent.other_rights,
      lent.reversed,
      lent.groups,
      lent.count,
      lent.sets,
    ) at c.in_ok-taken.ensures in
    let a = c.args in
    let given = c.requires.given in
    let after = books_of c.take_step.new.book c.take_step.new.from_book in
    let next : Counts = record { over_a = c.args.counts.over_a; over_b = c.in_ok-taken.taken.over; along_a = c.args.counts.along_a; along_b = c.in_ok-taken.taken.along } in
    let some = c.any_found.ensures.when c.if-not-any_found.false in
    λ marks held.
    let fit = grouped-fit given.groups given.fit refl marks in
    goes_on
    (columns_in a.grouped.now.matches) a.grouped.now.groups.now a.grouped.now.count a.grouped.now.sets
    a.capacity marks _ _ _ _ _
    (step_less given.groups held fit after (hits_of next) taken (λ w. refl) some) c.a_step.result
    (c.a_step.ensures marks
    (step-open given.groups held fit after (hits_of next) taken (λ w. refl)))
