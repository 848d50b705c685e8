-- `make_text` meets its contract: the buffer has room for every report. Assumes nothing.
use mathlib.Core.Path.{◌≡◌, sym, ap, ◌∙◌}
use Prim.Native.Nat.{ℕ}
use native.Mathlib.Omega.{arith}
use Rattle.reporting.proofs.Fits.{report-printed}
use Rattle.notchergrey.proofs.make_text.Goals as goal

pub returns-in-Err : goal.returns-in-Err
returns-in-Err c =
    let whole = report-printed c.args.script.now c.args.text.now c.requires in
    let told = sym c.in-Err.is ∙ c.report.ensures.reply ∙ ap (λ x. x.reply) whole in
    let z : ◌≡◌ {A = ℕ} 0 1 = cc in
    absurd (omega arith)
