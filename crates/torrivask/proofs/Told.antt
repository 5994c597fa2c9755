-- What the float functions answer and write, by what a proved call told. Assumes nothing.
use Prim.Native.Nat.{ℕ}
use mathlib.Core.Path.{◌≡◌, refl}
use mathlib.Core.Bool.{Bool}
use mathlib.Core.List.{List}
use lib.Ieee.{Float}
use Rattle.float_domain.specs.declared.refusal.Refusal.{Refusal}
use Rattle.float_domain.specs.Answer.{number_of, place_of}
use Rattle.float_track.specs.declared.track.Track.{Track}
use Rattle.std.specs.Prelude.{Option, None, Result, Err}
use Rattle.float_gutters.specs.declared.AlignContent.{AlignContent}
use Rattle.floats.specs.Rule.{Told}
use Rattle.floats.specs.Answer.{number_told, flush_told}
use Rattle.torrivask.specs.Face.{number_left, number_face, marked_left, marked_face, gutter_face}

-- ---- A number

module _ (answer : Result Float Refusal) (told : Told) (is : number_told answer ≡ told) (before : Float) (place : ℕ) where
  pub number-refused : (refusal : Refusal) (n p : ℕ) → answer ≡ Err refusal → n ≡ number_of refusal → p ≡ place_of refusal
      → number_left n before p ≡ number_face told before place
  number-refused refusal n p refuses number at = rw (← is, refuses, number, at) refl

-- ---- A track

module _ (answer : Result Track Refusal) (told : Told) (is : flush_told answer ≡ told) (before : List Float) (place : ℕ) where
  pub marked_refused : (mark : Bool) (refusal : Refusal) (n p : ℕ) → answer ≡ Err refusal → n ≡ number_of refusal
      → p ≡ place_of refusal → marked_left n before mark p ≡ marked_face told before mark place
  marked_refused mark refusal n p refuses number at = rw (← is, refuses, number, at) refl

-- ---- A listed word is the call's own; one that is not is 4 at place 0

module _ (word : Option AlignContent) (asked : Option Float) (known : List Bool) (estimates : List Float) where
  pub gutter-unlisted : (before : Float) (place : ℕ) → word ≡ None →
      number_left 4 before 0 ≡ number_face (gutter_face word asked known estimates) before place
  gutter-unlisted before place lists = rw lists refl
