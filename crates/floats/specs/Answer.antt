-- The code's answers in the words of the rule: what each tells. Assumes nothing.
use Rattle.std.specs.Prelude.{Result, Ok, Err, Float}
use Rattle.float_domain.specs.declared.refusal.Refusal.{Refusal}
use Rattle.float_domain.specs.Answer.{number_of, place_of}
use Rattle.float_track.specs.declared.track.Track.{Track}
use Rattle.floats.specs.Rule.{Told, number, sized, flushed, refused}

-- The paper's number of a refusal, and its place.
abbrev pub refusal_told : Refusal → Told
refusal_told refusal = refused (number_of refusal) (place_of refusal)

-- a number: what is left, the size of an fr, a gutter's adjustment
abbrev pub number_told : Result Float Refusal → Told
number_told (Ok x) = number x
number_told (Err refusal) = refusal_told refusal

-- the sizes stand in the lent tracks
abbrev pub tracks_told : Result Unit Refusal → Told
tracks_told (Ok done) = sized
tracks_told (Err refusal) = refusal_told refusal

-- the track, flushed
abbrev pub flush_told : Result Track Refusal → Told
flush_told (Ok t) = flushed t
flush_told (Err refusal) = refusal_told refusal
