-- The loop of `narrow`: what it keeps true, and what falls.
use Rattle.edges.proofs.Scan.{Narrowed}
use Rattle.edges.proofs.looking.narrow.Given as goal

abbrev pub invariant-loop-count : goal.invariant-loop-count
invariant-loop-count l = Narrowed l.edges l.dot l.at l.count

abbrev pub decreases-loop-count : goal.decreases-loop-count
decreases-loop-count l = l.count
