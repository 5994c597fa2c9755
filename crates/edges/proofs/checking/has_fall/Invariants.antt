-- What the loop of `has_fall` keeps true: one has fallen, or falls from i on, just where one falls at all.
use Rattle.std.proofs.Common.{◌≡◌, ◌||◌}
use Rattle.edges.specs.Steps.{is_fault, behind_fault}
use Rattle.edges.proofs.Falls.{falls_at}
use Rattle.edges.proofs.checking.has_fall.Given as goal

abbrev pub invariant-loop-i : goal.invariant-loop-i
invariant-loop-i l = (l.has_fallen || is_fault (falls_at l.edges l.i)) ≡ is_fault (behind_fault l.edges)
