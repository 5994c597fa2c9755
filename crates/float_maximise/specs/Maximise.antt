-- Maximise: the Rust's float steps in the Rust's order. Assumes nothing.
use Rattle.std.specs.Prelude.{◌≡◌, true, false, cond, ◌+◌, ◌≤◌, length, get_or, replicate, Float}
use mathlib.Core.List.{List, map, zip_with}
use Rattle.std.specs.Float.Ieee as Ieee
use Rattle.std.specs.Float.{nan, binary32}
use Rattle.float_laws.specs.Numbers.{zero32, one32, infinity, most_tracks}
use Rattle.float_laws.specs.Std.{min_of}
use Rattle.float_track.specs.declared.track.Track.{Track}
use Rattle.float_track.specs.declared.space.AvailableSpace.{AvailableSpace}
use Rattle.float_track.specs.Space.{free_space}
use Rattle.float_track.specs.Track.{track_of, row_of, with_sizes, base_size, used_space}
use Rattle.float_distribution.specs.Distribution.{Lists, lists, left, passes}

-- ---- One track

-- Infinite space sets base to growth limit, fit-content not consulted.
abbrev pub track_to_limit : Track → Track
track_to_limit t = with_sizes t t.growth_limit t.item_incurred_increase

-- The base takes what it has grown by.
abbrev pub track_with_increase : Track → Track
track_with_increase t = with_sizes t (Ieee.add binary32 t.base_size t.item_incurred_increase) zero32

abbrev pub to_limit : List Float → List Float
to_limit row = row_of (track_to_limit (track_of row false))

abbrev pub with_increase : List Float → List Float
with_increase row = row_of (track_with_increase (track_of row false))

-- ---- The tracks

-- The limit elsewhere is read as the smaller of growth and fit-content limit.
abbrev pub limit_of : Float → List Float → Float
limit_of fit row = min_of (get_or row 1 nan) fit

abbrev pub limits_of : List Float → List (List Float) → List Float
limits_of fits rows = zip_with limit_of fits rows

-- Every track is affected, in the proportion 1.
abbrev pub growing : List Float → List (List Float) → Lists
growing fits rows =
    lists (replicate (length rows) true) (replicate (length rows) one32) (map base_size rows) (limits_of fits rows)

abbrev pub filled_up : Float → List Float → List (List Float) → List (List Float)
filled_up free fits rows = (passes (growing fits rows) (length rows + 1) (left free rows)).tracks

abbrev pub maximised_by : Float → List Float → List (List Float) → List (List Float)
maximised_by free fits rows =
    cond (Ieee.eq free infinity) (map to_limit rows)
    (cond (Ieee.lt zero32 free) (map with_increase (filled_up free fits rows)) rows)

abbrev pub maximised : AvailableSpace → List Float → List (List Float) → List (List Float)
maximised space fits rows = maximised_by (free_space space (used_space rows)) fits rows

-- as many fit-content limits as tracks, and not too many
pub record MaximiseLengths (rows : List (List Float)) (fits : List Float) : Type 0 where
  pub same : length fits ≡ length rows
  pub few : length rows ≤ most_tracks
