-- A call that is not refused: the routine's own answer, and what it leaves. Assumes nothing.
use mathlib.Core.Path.{◌≡◌, refl}
use mathlib.Core.List.{List}
use lib.Ieee.{Float}
use Rattle.laws.specs.Faults.{Fault, fine}
use Rattle.floats.proofs.Rust.{gutter-call-agrees, distribution-call-agrees, fr-call-agrees, maximise-call-agrees}
use Rattle.floats.specs.Rule.{Told, told_or, Outcome, outcome_or}

pub told-answer : (f : Fault) (answer : Told) → fine ≡ f → answer ≡ told_or f answer
told-answer f answer none = rw (← none) refl

pub outcome-answer : (f : Fault) (rows : List (List Float)) (after : Outcome) → fine ≡ f → after ≡ outcome_or f rows after
outcome-answer f rows after none = rw (← none) refl

-- for the check of the calls that take a minimum or a maximum
pub ruleset as_rust = (told-answer, outcome-answer, gutter-call-agrees, distribution-call-agrees, fr-call-agrees, maximise-call-agrees)
