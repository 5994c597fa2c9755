-- The loops of `maximise_tracks`: what they keep true.
use mathlib.Core.Path.{◌≡◌}
use mathlib.Core.List.{◌++◌, map}
use lib.ListN.{take, drop}
use Rattle.float_maximise.specs.Maximise.{to_limit, with_increase}
use Rattle.float_maximise.proofs.maximise_tracks.Given as goal

abbrev pub invariant-loop-row : goal.invariant-loop-row
invariant-loop-row l = take l.row-index l.tracks ++ map to_limit (drop l.row-index l.tracks) ≡ map to_limit l.initial.tracks

abbrev pub invariant-loop-grown : goal.invariant-loop-grown
invariant-loop-grown l = take l.grown-index l.tracks ++ map with_increase (drop l.grown-index l.tracks) ≡ map with_increase l.initial.tracks
