-- A line is put, if its parts are put one behind the other.
--     put_refused                   the answer that is a refusal
--     put-read, put-answered        a heading and an answer behind it
-- Assumes nothing.
use Prim.Native.Nat.{ℕ}
use mathlib.Core.Path.{◌≡◌, sym, ap, ◌∙◌}
use mathlib.Core.List.{List, ◌++◌}
use Rattle.std.specs.Prelude.{Result}
use Rattle.script.specs.Reading.{read_script, verdict_of}
use Rattle.script.specs.Refusals.{number_of, place_of}
use Rattle.script.specs.declared.refusal.Refusal.{Refusal}
use Rattle.script.specs.declared.Admitted.{Admitted}
use Rattle.text.specs.Putting.{Put}
use Rattle.text.proofs.Stores.{put_then, put_same}
use Rattle.edge_answers.specs.Lines.{entry, blank, newline, refused, refused_text, read_text, read_line}

pub put_refused :
    (r : Refusal) {n p k₀ k₁ k₂ k₃ : ℕ} {t₀ t₁ t₂ t₃ : List ℕ} → n ≡ number_of r → p ≡ place_of r
    → Put (entry refused n) t₀ k₀ t₁ k₁
    → Put (entry blank p) t₁ k₁ t₂ k₂
    → Put newline t₂ k₂ t₃ k₃
    → Put (refused_text r) t₀ k₀ t₃ k₃
put_refused r number place x y z = rw (← number, ← place) (put_then (put_then x y) z)

-- what is told is the answer
pub put-answered :
    {X : Type 0} (says : X → List ℕ) {answer reply told : X} {heading t₀ t₁ t₂ : List ℕ} {k₀ k₁ k₂ : ℕ}
    → reply ≡ answer → reply ≡ told
    → Put heading t₀ k₀ t₁ k₁
    → Put (says told) t₁ k₁ t₂ k₂
    → Put (heading ++ says answer) t₀ k₀ t₂ k₂
put-answered says {heading = heading} answered told x y =
    put_same (ap (λ a. heading ++ says a) (sym told ∙ answered)) (put_then x y)

pub put-read :
    (script : List ℕ) {heading t₀ t₁ t₂ : List ℕ} {k₀ k₁ k₂ : ℕ} {read told : Result Admitted Refusal}
    → read ≡ verdict_of (read_script script)
    → read ≡ told
    → Put heading t₀ k₀ t₁ k₁
    → Put (read_text told) t₁ k₁ t₂ k₂
    → Put (read_line heading script) t₀ k₀ t₂ k₂
put-read script reads told x y = put-answered read_text reads told x y
