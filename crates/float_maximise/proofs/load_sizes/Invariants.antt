-- The loop of `load_sizes`: what it keeps true.
use mathlib.Core.Path.{◌≡◌}
use mathlib.Core.List.{◌++◌, map}
use lib.ListN.{take, drop}
use Rattle.float_track.specs.Track.{base_size}
use Rattle.float_maximise.proofs.load_sizes.Given as goal

abbrev pub invariant-loop-i : goal.invariant-loop-i
invariant-loop-i l = take l.i l.sizes ++ map base_size (drop l.i l.tracks) ≡ map base_size l.tracks
