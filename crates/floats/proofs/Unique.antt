-- Two answers that tell the same are the same. Assumes nothing.
use mathlib.Core.Path.{◌≡◌, refl, sym, ap, subst}
use lib.Ieee.{Float}
use Rattle.std.specs.Prelude.{Result, Ok, Err}
use Rattle.laws.specs.Faults.{Fault, fine, fault}
use Rattle.float_domain.specs.declared.refusal.Refusal.{Refusal}
use Rattle.float_domain.proofs.Outside.{found-of-fault}
use Rattle.float_track.specs.declared.track.Track.{Track}
use Rattle.floats.specs.Rule.{Told, number, sized, flushed, refused}
use Rattle.floats.specs.Answer.{refusal_told, number_told, tracks_told, flush_told}

-- what is told, taken apart
abbrev IsRefused : Told → Type 0
IsRefused (number x) = ⊥
IsRefused sized = ⊥
IsRefused (flushed t) = ⊥
IsRefused (refused n place) = Unit {0}

abbrev fault_in : Told → Fault
fault_in (number x) = fine
fault_in sized = fine
fault_in (flushed t) = fine
fault_in (refused n place) = fault n place

abbrev refusal_in : Refusal → Result Unit Refusal → Refusal
refusal_in r (Ok passed) = r
refusal_in r (Err s) = s

-- a refusal is known by its number and place
pub refusal-of-told : (r s : Refusal) → refusal_told r ≡ refusal_told s → r ≡ s
refusal-of-told r s e = ap (refusal_in r) (found-of-fault (Err r) (Err s) (ap fault_in e))

abbrev number_in : Float → Told → Float
number_in d (number x) = x
number_in d sized = d
number_in d (flushed t) = d
number_in d (refused n place) = d

abbrev track_in : Track → Told → Track
track_in d (number x) = d
track_in d sized = d
track_in d (flushed t) = t
track_in d (refused n place) = d

pub number-of-told : (a b : Result Float Refusal) → number_told a ≡ number_told b → a ≡ b
number-of-told (Ok x) (Ok y) e = ap Ok (ap (number_in x) e)
number-of-told (Ok x) (Err s) e = absurd (subst IsRefused (sym e) tt)
number-of-told (Err r) (Ok y) e = absurd (subst IsRefused e tt)
number-of-told (Err r) (Err s) e = ap Err (refusal-of-told r s e)

pub tracks-of-told : (a b : Result Unit Refusal) → tracks_told a ≡ tracks_told b → a ≡ b
tracks-of-told (Ok x) (Ok y) e = refl
tracks-of-told (Ok x) (Err s) e = absurd (subst IsRefused (sym e) tt)
tracks-of-told (Err r) (Ok y) e = absurd (subst IsRefused e tt)
tracks-of-told (Err r) (Err s) e = ap Err (refusal-of-told r s e)

pub flush-of-told : (a b : Result Track Refusal) → flush_told a ≡ flush_told b → a ≡ b
flush-of-told (Ok t) (Ok u) e = ap Ok (ap (track_in t) e)
flush-of-told (Ok t) (Err s) e = absurd (subst IsRefused (sym e) tt)
flush-of-told (Err r) (Ok u) e = absurd (subst IsRefused e tt)
flush-of-told (Err r) (Err s) e = ap Err (refusal-of-told r s e)
