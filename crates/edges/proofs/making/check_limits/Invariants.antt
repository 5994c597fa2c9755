-- What the loop of `check_limits` keeps true: what is refused from a track on is what is refused at all.
use Rattle.std.proofs.Common.{◌≡◌}
use Rattle.edges.specs.Rule.{bases_in, limits_fault}
use Rattle.edges.proofs.Made.{limits_at}
use Rattle.edges.proofs.making.check_limits.Given as goal

abbrev pub invariant-loop-track : goal.invariant-loop-track
invariant-loop-track l = limits_at (bases_in l.places) l.track l.edge ≡ limits_fault 0 0 (bases_in l.places)
