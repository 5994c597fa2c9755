-- `stretch_fault` refuses a stretch byte that is not listed: the listed ones are those below 2. Assumes nothing.
use mathlib.Core.Path.{ap, ◌∙◌}
use mathlib.Core.Bool.{Bool}
use Rattle.records.specs.Rule.{unless, fault}
use Rattle.records.proofs.Marks.{below-two-is-listed}
use Rattle.records.proofs.tags.stretch_fault.Goals as goal

pub returns : goal.returns
returns c = c.unless.ensures ∙ ap (λ (b : Bool). unless b (fault 4 c.args.at)) (below-two-is-listed _)
