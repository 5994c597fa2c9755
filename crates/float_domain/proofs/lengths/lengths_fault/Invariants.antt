-- The loop of `lengths_fault`: what it keeps true.
use mathlib.Core.Path.{◌≡◌}
use lib.ListN.{drop}
use Rattle.float_domain.specs.Domain.{lengths_fit}
use Rattle.float_domain.proofs.lengths.lengths_fault.Given as goal

abbrev pub invariant-loop-other : goal.invariant-loop-other
invariant-loop-other l = lengths_fit l.n (drop l.other-index l.others) ≡ lengths_fit l.n l.others
