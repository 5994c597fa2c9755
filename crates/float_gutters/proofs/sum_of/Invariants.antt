-- The loop of `sum_of`: what it keeps true.
use mathlib.Core.Path.{◌≡◌}
use lib.ListN.{drop}
use Rattle.float_laws.specs.Sum.{sum_from}
use Rattle.float_gutters.proofs.sum_of.Given as goal

abbrev pub invariant-loop-estimate : goal.invariant-loop-estimate
invariant-loop-estimate l = sum_from l.sum (drop l.estimate-index l.estimates) ≡ sum_from l.initial.sum l.estimates
