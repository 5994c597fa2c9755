-- `stretch` fills where it is asked for in a definite space. Assumes nothing.
use mathlib.Core.Path.{sym, ap, ap₂, ◌∙◌}
use mathlib.Core.Bool.{Bool}
use Rattle.kinds.specs.declared.constraint.Constraint.{Constraint}
use Rattle.lines.specs.Rule.{stretched}
use Rattle.sizing.proofs.Filled.{stretch-definite, stretch-not-asked, stretch-elsewhere}
use mathlib.Core.Bool.{not}
use Rattle.sizing.proofs.dots.stretch.Goals as goal

pub returns-then-not-asked : goal.returns-then-not-asked
returns-then-not-asked c = stretch-not-asked c.args.asked c.args.expansion c.args.lines.now (ap not c.if-not-asked.true)

pub returns-in-Definite : goal.returns-in-Definite
returns-in-Definite c =
    stretch-definite c.args.lines.now _ c.requires.0.none _ _ _ c.base_total.ensures c.beyond-dots.ensures _ c.fill_bases.ensures.0
    ∙ ap₂ (λ (asked : Bool) (e : Constraint). stretched asked e c.args.lines.now) (sym c.if-not-asked.false) (sym c.in-Definite.is)

pub returns-in_default : goal.returns-in_default
returns-in_default c = stretch-elsewhere c.args.asked c.args.expansion c.args.lines.now c.in_default.not-Definite
