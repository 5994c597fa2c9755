-- What a call tells and leaves, each float by its bit pattern, and what a case wants of it. Assumes nothing.
use Rattle.std.specs.Prelude.{ℕ, Bool, List, map, Float, Result, Ok, Err}
use Rattle.std.specs.Float.{binary32}
use Rattle.std.specs.Float.Ieee.{to_bits}
use Rattle.cases.specs.declared.wanted.Answer.{Answer}
use Rattle.cases.specs.declared.wanted.Refused.{Refused}
use Rattle.float_track.specs.declared.track.Track.{Track}
use Rattle.float_track.specs.Track.{row_of}
use Rattle.floats.specs.Rule as Rule
use Rattle.floats.specs.Rule.{Told, Outcome}

-- Two f32s are the same where their patterns are; every NaN has the one pattern.
abbrev pub bits_of : Float → ℕ
bits_of x = to_bits binary32 x

abbrev pub row_bits : List Float → List ℕ
row_bits row = map bits_of row

abbrev pub rows_bits : List (List Float) → List (List ℕ)
rows_bits rows = map row_bits rows

pub data ToldBits : Type 0 where
  number : ℕ → ToldBits
  sized : ToldBits
  flushed : List ℕ → Bool → ToldBits
  refused : ℕ → ℕ → ToldBits

abbrev pub track_bits : Track → ToldBits
track_bits t = flushed (row_bits (row_of t)) t.infinitely_growable

abbrev pub told_bits : Told → ToldBits
told_bits (Rule.number x) = number (bits_of x)
told_bits Rule.sized = sized
told_bits (Rule.flushed t) = track_bits t
told_bits (Rule.refused n place) = refused n place

pub record LeftBits : Type 0 where
  pub told : ToldBits
  pub tracks : List (List ℕ)

abbrev pub left_as : ToldBits → List (List ℕ) → LeftBits
left_as told tracks = record { told = told; tracks = tracks }

abbrev pub outcome_bits : Outcome → LeftBits
outcome_bits o = left_as (told_bits o.told) (rows_bits o.tracks)

-- the refusal that is wanted, or the answer where none is
abbrev pub told_as : Result Answer Refused → ToldBits → ToldBits
told_as (Ok numbers) answer = answer
told_as (Err refusal) answer = refused refusal.number refusal.place
