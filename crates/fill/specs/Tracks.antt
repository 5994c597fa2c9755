-- The code's tracks in the words of the rule. Assumes nothing.
use Rattle.std.specs.Prelude.{false, List, ℕ, get_or}
use Rattle.fill.specs.Rule as Rule
use Rattle.fill.specs.Rule.{track_of, tracks_of}
use Rattle.fill.specs.declared.tracks.Tracks.{Tracks}

abbrev pub in_rule : Tracks → List Rule.Track
in_rule ts = tracks_of ts.affected.now ts.limited.now ts.rooms.now

-- one of them, before the first round
abbrev pub track_at : Tracks → ℕ → Rule.Track
track_at ts i = track_of (get_or ts.affected.now i false) (get_or ts.limited.now i false) (get_or ts.rooms.now i 0)
