-- What the loop of `to_gains` keeps true: the gains written, and what the rest still gives, are all.
use Rattle.std.proofs.Common.{◌≡◌, ◌++◌, take, drop}
use Rattle.rounds.specs.Rests.{caps, lost}
use Rattle.fill.specs.Tracks.{in_rule}
use Rattle.fill.proofs.Turns.{rest_from}
use Rattle.fill.proofs.tracks.Tracks.to_gains.Given as goal

abbrev pub invariant-loop-i : goal.invariant-loop-i
invariant-loop-i l = take l.i l.rests ++ lost (caps l.dots (rest_from l.self l.i)) (drop l.i l.rests) ≡ lost (caps l.dots (in_rule l.self)) l.initial.rests
