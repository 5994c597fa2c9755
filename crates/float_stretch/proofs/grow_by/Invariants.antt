-- The loop of `grow_by`: what it keeps true.
use mathlib.Core.Path.{◌≡◌}
use mathlib.Core.List.{◌++◌}
use lib.ListN.{take, drop}
use Rattle.float_stretch.specs.Stretch.{grown_by}
use Rattle.float_stretch.proofs.grow_by.Given as goal

abbrev pub invariant-loop-i : goal.invariant-loop-i
invariant-loop-i l = take l.i l.tracks ++ grown_by l.extra (drop l.i l.autos) (drop l.i l.tracks) ≡ grown_by l.extra l.autos l.initial.tracks
