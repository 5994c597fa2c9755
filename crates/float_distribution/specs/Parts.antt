-- The code's lists in the words of the distribution, and what a fold over them answers. Assumes nothing.
use Rattle.std.specs.Prelude.{◌≡◌, List, ℕ, length, Float}
use Rattle.laws.specs.Turns.{turns}
use Rattle.float_track.specs.declared.track.Track.{Track}
use Rattle.float_distribution.specs.declared.part.Part.{Part}
use Rattle.float_distribution.specs.Distribution.{Lists, lists, part_at, track_at}
use Rattle.float_distribution.specs.declared.parts.Parts.{Parts}

abbrev pub in_lists : Parts → Lists
in_lists ps = lists ps.affected.now ps.proportions.now ps.sizes.now ps.limits.now

-- how many tracks they are of
abbrev pub count : Parts → ℕ
count ps = length ps.affected.now

-- n turns of every step that answers what the code's step may
abbrev pub IsFold : (Part → Track → Float → Float → Type 0) → Lists → List (List Float) → ℕ → Float → Float → Type 0
IsFold may l rows n start result =
    (step : Part → Track → Float → Float)
    → ((p : Part) (t : Track) (x r : Float) → may p t x r → r ≡ step p t x)
    → result ≡ turns (λ i x. step (part_at l i) (track_at rows i) x) n start
