-- `least_room`: each call of the step answers `less_room`. Assumes nothing.
use Rattle.std.proofs.Common.{rules}
use Rattle.float_distribution.specs.Distribution.{less_room}
use Rattle.float_distribution.proofs.pass.least_room.Goals as goal

pub returns : goal.returns
returns c = c.fold.ensures less_room (λ p t x r k. search rules)
