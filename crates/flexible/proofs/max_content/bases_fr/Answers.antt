-- `bases_fr` meets its contract. The loop's invariant: the rest leads from the fr so far to that of all. Assumes nothing.
use mathlib.Core.Path.{refl}
use Rattle.lines.specs.Rule.{bases_fr}
use Rattle.flexible.proofs.Lines.{bases-step, bases-end}
use Rattle.flexible.proofs.max_content.bases_fr.Goals as goal

pub loop-line-init : goal.loop-line-init
unfolding bases_fr
loop-line-init c = refl

pub loop-line-preserved : goal.loop-line-preserved
loop-line-preserved c =
    bases-step c.args.lines.now c.loop-line.line-index c.loop-line.fr _ _ c.line_fr-fr.result c.loop-line-test.true c.line_fr-fr.ensures c.loop-line.invariant

pub returns : goal.returns
returns c = bases-end c.args.lines.now c.loop-line.line-index c.loop-line.fr _ c.loop-line-test.false c.loop-line.invariant
