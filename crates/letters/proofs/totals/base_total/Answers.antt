-- `base_total` adds the bases, front to back: those added and those to come are all. Assumes nothing.
use borrow.Author.Rules.{rules}
use mathlib.Core.Path.{refl}
use Prim.Native.Nat.{ℕ}
use Rattle.lines.specs.declared.line.Line.{Line}
use Rattle.lines.specs.Rule.{bases}
use Rattle.letters.proofs.Steps.{total-step, total-end}
use Rattle.letters.proofs.totals.base_total.Goals as goal

abbrev base : Line → ℕ
base l = l.base

pub loop-line-preserved : goal.loop-line-preserved
loop-line-preserved c = (
  search rules,
  total-step c.args.lines.now c.loop-line.line-index _ base c.loop-line.total _ _ (search rules) refl c.loop-line.invariant.1,
)

pub returns : goal.returns
unfolding bases
returns c = total-end c.args.lines.now c.loop-line.line-index base c.loop-line.total _ (search rules) c.loop-line.invariant.1
