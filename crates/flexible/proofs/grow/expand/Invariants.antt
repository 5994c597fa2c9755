-- The loop of `expand`: what it keeps true.
use mathlib.Core.Path.{◌≡◌}
use mathlib.Core.List.{◌++◌}
use lib.ListN.{take, drop}
use Rattle.laws.specs.Lists.{All}
use Rattle.lines.specs.Rule.{expand}
use Rattle.flexible.specs.Flexes.{FactorFits}
use Rattle.flexible.proofs.grow.expand.Given as goal

abbrev pub invariant-loop-line : goal.invariant-loop-line
invariant-loop-line l = All FactorFits l.lines × (take l.line-index l.lines ++ expand l.fr (drop l.line-index l.lines) ≡ expand l.fr l.initial.lines)
