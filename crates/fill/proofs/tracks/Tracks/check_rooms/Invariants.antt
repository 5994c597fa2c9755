-- What the loop of `check_rooms` keeps true: the tracks passed are not over.
use Rattle.std.proofs.Common.{◌≡◌, ◌+◌}
use Rattle.fill.specs.Rule.{first_over}
use Rattle.fill.specs.Tracks.{in_rule}
use Rattle.fill.proofs.Turns.{rest_from}
use Rattle.fill.proofs.tracks.Tracks.check_rooms.Given as goal

abbrev pub invariant-loop-i : goal.invariant-loop-i
invariant-loop-i l = l.i + first_over (rest_from l.self l.i) ≡ first_over (in_rule l.self)
