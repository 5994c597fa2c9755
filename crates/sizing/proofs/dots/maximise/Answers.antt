-- `maximise` goes by the constraint. Assumes nothing.
use mathlib.Core.Path.{sym, ap, ◌∙◌}
use mathlib.Core.List.{List}
use Rattle.kinds.specs.declared.constraint.Constraint.{Constraint}
use Rattle.lines.specs.declared.line.Line.{Line}
use Rattle.lines.specs.Rule.{maximise}
use Rattle.sizing.specs.Size.{maximised}
use Rattle.sizing.proofs.Filled.{maximise-definite, maximise-min-content}
use Rattle.sizing.proofs.dots.maximise.Goals as goal

pub returns-in-Definite : goal.returns-in-Definite
returns-in-Definite c = (
  maximise-definite c.args.lines.now _ c.requires.0.none _ _ _ c.base_total.ensures c.beyond-dots.ensures _ _ c.fill_bases.ensures.0 c.fill_bases.ensures.1 ∙ ap (λ (k : Constraint). maximise k c.args.lines.now) (sym c.in-Definite.is),
  c.fill_bases.ensures.2,
)

pub returns-in-MinContent : goal.returns-in-MinContent
returns-in-MinContent c = (
  maximise-min-content c.args.lines.now _ c.requires.0.none _ _ c.fill_bases-in-MinContent.ensures.0 c.fill_bases-in-MinContent.ensures.1 ∙ ap (λ (k : Constraint). maximise k c.args.lines.now) (sym c.in-MinContent.is),
  c.fill_bases-in-MinContent.ensures.2,
)

pub returns-in-MaxContent : goal.returns-in-MaxContent
unfolding maximise
returns-in-MaxContent c = (
  ap (λ (ls : List Line). maximised ls 0) c.bases_to_limits.ensures ∙ ap (λ (k : Constraint). maximise k c.args.lines.now) (sym c.in-MaxContent.is),
  c.requires.0.none,
)
