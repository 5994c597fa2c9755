-- The loop of `used_space`: what it keeps true.
use mathlib.Core.Path.{◌≡◌}
use mathlib.Core.List.{map}
use lib.ListN.{drop}
use Rattle.float_laws.specs.Sum.{sum_from}
use Rattle.float_track.specs.Track.{base_size}
use Rattle.float_track.proofs.used.used_space.Given as goal

abbrev pub invariant-loop-row : goal.invariant-loop-row
invariant-loop-row l = sum_from l.used (map base_size (drop l.row-index l.tracks)) ≡ sum_from l.initial.used (map base_size l.tracks)
