-- Stretch: the Rust's float steps in the Rust's order. Assumes nothing.
use Rattle.std.specs.Prelude.{◌≡◌, Bool, false, cond, Option, ℕ, ◌≤◌, ltb, pos, length, Float}
use mathlib.Core.List.{List, zip_with}
use Rattle.std.specs.Float.Ieee as Ieee
use Rattle.std.specs.Float.{binary32}
use Rattle.laws.specs.Marks.{number}
use Rattle.float_laws.specs.Numbers.{zero32, most_tracks}
use Rattle.float_track.specs.declared.track.Track.{Track}
use Rattle.float_track.specs.declared.space.AvailableSpace.{AvailableSpace}
use Rattle.float_track.specs.Space.{stretch_space}
use Rattle.float_track.specs.Track.{track_of, row_of, with_sizes, used_space}

-- ---- One track

abbrev pub track_stretched : Float → Track → Track
track_stretched extra t = with_sizes t (Ieee.add binary32 t.base_size extra) t.item_incurred_increase

abbrev pub stretched_row : Bool → Float → List Float → List Float
stretched_row auto extra row = cond auto (row_of (track_stretched extra (track_of row false))) row

-- ---- The tracks

abbrev pub grown_by : Float → List Bool → List (List Float) → List (List Float)
grown_by extra autos rows = zip_with (λ auto row. stretched_row auto extra row) autos rows

-- the free space in equal parts, one for each auto track
abbrev pub extra_of : Float → ℕ → Float
extra_of free count = Ieee.div binary32 free (Ieee.of_int binary32 (pos count))

abbrev pub stretched_by : Float → List Bool → List (List Float) → List (List Float)
stretched_by free autos rows = cond (Ieee.lt zero32 free) (grown_by (extra_of free (number autos)) autos rows) rows

abbrev pub stretched : Option Float → AvailableSpace → List Bool → List (List Float) → List (List Float)
stretched minimum space autos rows =
    cond (ltb 0 (number autos)) (stretched_by (stretch_space space minimum (used_space rows)) autos rows) rows

-- a mark for each track, and not too many
pub record StretchLengths (rows : List (List Float)) (autos : List Bool) : Type 0 where
  pub same : length autos ≡ length rows
  pub few : length rows ≤ most_tracks
