-- `expand` meets its contract. The loop's invariant: the lines grown, and what the rest grows to, are all. Assumes nothing.
use borrow.Author.Rules.{rules}
use mathlib.Core.Path.{refl, sym, ap}
use Prim.Native.Nat.{◌+◌}
use lib.ListN.{drop}
use mathlib.Core.List.{List, ◌∷◌, map}
use Rattle.laws.specs.Lists.{all-at}
use Rattle.laws.specs.Walk.{store_step, store-end}
use Rattle.lines.specs.declared.line.Line.{Line}
use Rattle.lines.specs.Rule.{flexed, expand}
use Rattle.flexible.proofs.Sizes.{factors-fit}
use Rattle.flexible.specs.Flexes.{FactorFits}
use Rattle.flexible.proofs.Lines.{factors-kept}
use Rattle.flexible.proofs.grow.expand.Goals as goal

pub loop-line-init : goal.loop-line-init
loop-line-init c = (factors-fit _ c.requires.lines_fit, search rules)

pub flexed-requires-clause-factor_fits : goal.flexed-requires-clause-factor_fits
flexed-requires-clause-factor_fits c = all-at FactorFits c.loop-line.lines c.loop-line.line-index _ c.loop-line.invariant.0 (search rules)

pub loop-line-preserved : goal.loop-line-preserved
unfolding expand
loop-line-preserved c = (
  factors-kept c.loop-line.lines c.loop-line.line-index _ c.loop-line.invariant.0 (search rules) c.args.fr c.flexed.result c.flexed.ensures,
  store_step c.loop-line.lines c.loop-line.line-index (map (flexed c.args.fr)) (map (flexed c.args.fr)) c.flexed.result _ _ (search rules) (ap (◌∷ map (flexed c.args.fr) (drop (c.loop-line.line-index + 1) c.loop-line.lines)) (sym c.flexed.ensures)) c.loop-line.invariant.1,
)

pub returns : goal.returns
unfolding expand
returns c = store-end c.loop-line.lines c.loop-line.line-index (λ (ls : List Line). map (flexed c.args.fr) ls) _ (search rules) refl c.loop-line.invariant.1
