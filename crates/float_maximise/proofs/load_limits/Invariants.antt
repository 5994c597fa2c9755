-- The loop of `load_limits`: what it keeps true.
use mathlib.Core.Path.{◌≡◌}
use mathlib.Core.List.{◌++◌}
use lib.ListN.{take, drop}
use Rattle.float_maximise.specs.Maximise.{limits_of}
use Rattle.float_maximise.proofs.load_limits.Given as goal

abbrev pub invariant-loop-i : goal.invariant-loop-i
invariant-loop-i l = take l.i l.limits ++ limits_of (drop l.i l.fits) (drop l.i l.tracks) ≡ limits_of l.fits l.tracks
