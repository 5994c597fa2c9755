-- What the loop of `check_falls` keeps true: what is refused from an entry on is what is refused at all.
use Rattle.std.proofs.Common.{◌≡◌}
use Rattle.edges.specs.Steps.{behind_fault}
use Rattle.edges.proofs.Falls.{falls_at}
use Rattle.edges.proofs.checking.check_falls.Given as goal

abbrev pub invariant-loop-entry : goal.invariant-loop-entry
invariant-loop-entry l = falls_at l.edges l.entry ≡ behind_fault l.edges
