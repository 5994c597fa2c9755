-- `proportion_sum`: each call of the step answers `add_proportion`. Assumes nothing.
use Rattle.std.proofs.Common.{rules}
use Rattle.float_distribution.specs.Distribution.{add_proportion}
use Rattle.float_distribution.proofs.pass.proportion_sum.Goals as goal

pub returns : goal.returns
returns c = c.fold.ensures add_proportion (λ p t x r k. search rules)
