-- `axis_fault` refuses an axis byte that is not listed: the listed ones go up to that of the block axis. Assumes nothing.
use mathlib.Core.Path.{sym, ap, ◌∙◌}
use mathlib.Core.Bool.{Bool}
use lib.Dec.{leb-suc-suc}
use Rattle.records.specs.Rule.{unless, fault}
use Rattle.records.proofs.Marks.{below-two-is-listed}
use Rattle.records.proofs.tags.axis_fault.Goals as goal

pub returns : goal.returns
returns c = c.unless.ensures ∙ ap (λ (b : Bool). unless b (fault 4 c.args.at)) (sym (leb-suc-suc c.args.byte 1) ∙ below-two-is-listed c.args.byte)
