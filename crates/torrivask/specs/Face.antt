-- What a float function of the C face leaves: its answer, and what then stands in everything that was lent to be written. The answer is 0,
-- or the number of a refusal; only a refusal writes the place, and nothing else. Assumes nothing.
use Rattle.std.specs.Prelude.{ℕ, Bool, List, Float}
use Rattle.std.specs.Prelude.{Option, Some, None}
use Rattle.float_track.specs.declared.space.AvailableSpace.{AvailableSpace}
use Rattle.float_gutters.specs.declared.AlignContent.{AlignContent}
use Rattle.float_track.specs.Track.{row_of}
use Rattle.floats.specs.Rule.{Told, number, sized, flushed, refused, Outcome, outcome, gutter_call, maximise_call, stretch_call}

-- ---- A number: the gutter adjustment, the size of an fr

pub record NumberLeft : Type 0 where
  pub code : ℕ
  pub value : Float
  pub place : ℕ

abbrev pub number_left : ℕ → Float → ℕ → NumberLeft
number_left code value place = record { code = code; value = value; place = place }

-- what the call told, over what stood there before; here and below, a call that tells another kind of answer would write nothing
abbrev pub number_face : Told → (value : Float) → (place : ℕ) → NumberLeft
number_face (number x) value place = number_left 0 x place
number_face sized value place = number_left 0 value place
number_face (flushed t) value place = number_left 0 value place
number_face (refused n at) value place = number_left n value at

-- ---- Tracks and a number: the distribution

pub record SharedLeft : Type 0 where
  pub code : ℕ
  pub rows : List (List Float)
  pub value : Float
  pub place : ℕ

abbrev pub shared_left : ℕ → List (List Float) → Float → ℕ → SharedLeft
shared_left code rows value place = record { code = code; rows = rows; value = value; place = place }

abbrev pub shared_writes : Told → List (List Float) → (value : Float) → (place : ℕ) → SharedLeft
shared_writes (number x) rows value place = shared_left 0 rows x place
shared_writes sized rows value place = shared_left 0 rows value place
shared_writes (flushed t) rows value place = shared_left 0 rows value place
shared_writes (refused n at) rows value place = shared_left n rows value at

abbrev pub shared_face : Outcome → (value : Float) → (place : ℕ) → SharedLeft
shared_face call = shared_writes call.told call.tracks

-- ---- Tracks: maximising, stretching

pub record TracksLeft : Type 0 where
  pub code : ℕ
  pub rows : List (List Float)
  pub place : ℕ

abbrev pub tracks_left : ℕ → List (List Float) → ℕ → TracksLeft
tracks_left code rows place = record { code = code; rows = rows; place = place }

abbrev pub tracks_writes : Told → List (List Float) → (place : ℕ) → TracksLeft
tracks_writes (number x) rows place = tracks_left 0 rows place
tracks_writes sized rows place = tracks_left 0 rows place
tracks_writes (flushed t) rows place = tracks_left 0 rows place
tracks_writes (refused n at) rows place = tracks_left n rows at

abbrev pub tracks_face : Outcome → (place : ℕ) → TracksLeft
tracks_face call = tracks_writes call.told call.tracks

-- ---- A track: the flush of the base size, which leaves the mark alone, and that of the growth limit

pub record TrackLeft : Type 0 where
  pub code : ℕ
  pub row : List Float
  pub place : ℕ

abbrev pub track_left : ℕ → List Float → ℕ → TrackLeft
track_left code row place = record { code = code; row = row; place = place }

abbrev pub track_face : Told → (row : List Float) → (place : ℕ) → TrackLeft
track_face (number x) row place = track_left 0 row place
track_face sized row place = track_left 0 row place
track_face (flushed t) row place = track_left 0 (row_of t) place
track_face (refused n at) row place = track_left n row at

pub record MarkedLeft : Type 0 where
  pub code : ℕ
  pub row : List Float
  pub mark : Bool
  pub place : ℕ

abbrev pub marked_left : ℕ → List Float → Bool → ℕ → MarkedLeft
marked_left code row mark place = record { code = code; row = row; mark = mark; place = place }

abbrev pub marked_face : Told → (row : List Float) → (mark : Bool) → (place : ℕ) → MarkedLeft
marked_face (number x) row mark place = marked_left 0 row mark place
marked_face sized row mark place = marked_left 0 row mark place
marked_face (flushed t) row mark place = marked_left 0 (row_of t) t.infinitely_growable place
marked_face (refused n at) row mark place = marked_left n row mark at

-- ---- The words of C

-- 4: a kind of space or an alignment that is not listed. It comes before every other refusal.
abbrev pub unlisted : Told
unlisted = refused 4 0

abbrev pub gutter_face : Option AlignContent → Option Float → List Bool → List Float → Told
gutter_face (Some listed) inner known estimates = gutter_call listed inner known estimates
gutter_face None inner known estimates = unlisted

abbrev pub maximise_face : List (List Float) → List Float → Option AvailableSpace → Outcome
maximise_face rows fits (Some listed) = maximise_call rows fits listed
maximise_face rows fits None = outcome unlisted rows

abbrev pub stretch_face : List (List Float) → List Bool → Option Float → Option AvailableSpace → Outcome
stretch_face rows autos minimum (Some listed) = stretch_call rows autos minimum listed
stretch_face rows autos minimum None = outcome unlisted rows
