-- What the loop of `load` keeps true: the caps written, and those of the tracks still to come, are all.
use Rattle.std.proofs.Common.{◌≡◌, ◌++◌, take}
use Rattle.rounds.specs.Rests.{caps}
use Rattle.fill.specs.Tracks.{in_rule}
use Rattle.fill.proofs.Turns.{rest_from}
use Rattle.fill.proofs.tracks.Tracks.load.Given as goal

abbrev pub invariant-loop-i : goal.invariant-loop-i
invariant-loop-i l = take l.i l.rests ++ caps l.dots (rest_from l.self l.i) ≡ caps l.dots (in_rule l.self)
