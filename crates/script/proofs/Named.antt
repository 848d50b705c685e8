-- 01's number and place tell the refusals apart, and with them the readings.
--     refusal-named     the refusal of a number and a place is the one that they are of
--     answer-inj        two readings with one answer are the same
-- Assumes nothing.
use Prim.Native.Nat.{ℕ, ◌-◌}
use mathlib.Core.Path.{◌≡◌, refl, sym, ap, ap₂, ◌∙◌}
use mathlib.Core.List.{[], ◌∷◌}
use native.Mathlib.Omega.{arith}
use lib.ListN.{get_or}
use Rattle.script.specs.Refusals.{number_of, place_of}
use Rattle.script.specs.Reading.{Reading, admitted, refused}
use Rattle.script.specs.Answers.{reading_answer}
use Rattle.script.specs.declared.refusal.Refusal.{Refusal}
use Rattle.script.specs.declared.refusal.Refusal.TheVariants.{Headless, UnknownCommand, CutShort, SecondLengths}
use Rattle.script.specs.declared.refusal.Refusal.TheVariants.{LengthOutOfRange, TooManyMatches, EmptyMatch}
use Rattle.script.specs.declared.refusal.Refusal.TheVariants.{BeyondA, BeyondB, Tail, WorkTooShort}
use Rattle.script.specs.declared.refusal.Refusal.TheVariants.{TooManyPieces, NoSuchMatch, OffTheMatch}
use Rattle.script.specs.declared.refusal.Refusal.TheVariants.{MalformedRecords, BufferTooShort}
use Rattle.script.specs.declared.refusal.Refusal.TheVariants.{PriceTooHigh, ChainTooShort}
use Rattle.script.specs.declared.refusal.Refusal.TheVariants.{TooManyMarks, NoSuchSide, MarkBeyond, CountsDiffer}

-- the rows of 01's table, in its order
abbrev refusal_of : ℕ → ℕ → Refusal
refusal_of number at =
    get_or
    (Headless ∷ UnknownCommand at ∷ CutShort at ∷ SecondLengths at ∷ LengthOutOfRange ∷ TooManyMatches at
    ∷ EmptyMatch at ∷ BeyondA at ∷ BeyondB at ∷ Tail at ∷ WorkTooShort ∷ TooManyPieces ∷ NoSuchMatch ∷ OffTheMatch
    ∷ MalformedRecords at ∷ BufferTooShort ∷ PriceTooHigh ∷ ChainTooShort ∷ TooManyMarks at ∷ NoSuchSide at
    ∷ MarkBeyond at ∷ CountsDiffer ∷ [])
    (number - 1) Headless

pub refusal-named : (r : Refusal) → refusal_of (number_of r) (place_of r) ≡ r
refusal-named Headless = refl
refusal-named (UnknownCommand at) = refl
refusal-named (CutShort at) = refl
refusal-named (SecondLengths at) = refl
refusal-named LengthOutOfRange = refl
refusal-named (TooManyMatches at) = refl
refusal-named (EmptyMatch at) = refl
refusal-named (BeyondA at) = refl
refusal-named (BeyondB at) = refl
refusal-named (Tail at) = refl
refusal-named WorkTooShort = refl
refusal-named TooManyPieces = refl
refusal-named NoSuchMatch = refl
refusal-named OffTheMatch = refl
refusal-named (MalformedRecords at) = refl
refusal-named BufferTooShort = refl
refusal-named PriceTooHigh = refl
refusal-named ChainTooShort = refl
refusal-named (TooManyMarks at) = refl
refusal-named (NoSuchSide at) = refl
refusal-named (MarkBeyond at) = refl
refusal-named CountsDiffer = refl

pub answer-inj : (x y : Reading) → reading_answer x ≡ reading_answer y → x ≡ y
answer-inj (admitted ls ms ks) (admitted ls' ms' ks') e = cc
answer-inj (admitted ls ms ks) (refused r) e = let z : ◌≡◌ {A = ℕ} 0 1 = cc in absurd (omega arith)
answer-inj (refused r) (admitted ls ms ks) e = let z : ◌≡◌ {A = ℕ} 0 1 = cc in absurd (omega arith)
answer-inj (refused r) (refused r') e =
    let number : number_of r ≡ number_of r' = cc in
    let place : place_of r ≡ place_of r' = cc in
    let same : r ≡ r' = sym (refusal-named r) ∙ ap₂ refusal_of number place ∙ refusal-named r' in
    ap refused same
