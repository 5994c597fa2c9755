-- `maxima` adds the maxima, front to back, while they are fixed or fit-content: those added and those to come are all. Assumes nothing.
use borrow.Author.Rules.{rules}
use mathlib.Core.Path.{sym, ◌∙◌}
use Prim.Native.Nat.{◌≤◌}
use Rattle.spanned.specs.Rule.{most_size}
use Rattle.letters.proofs.Steps.{maxima-step, maxima-stop, maxima-end, fixed-fits}
use Rattle.letters.proofs.contribution.Span.maxima.Goals as goal

pub overflow_add-sum : goal.overflow_add-sum
overflow_add-sum c =
    let e = sym c.fixed_maximum.ensures ∙ c.in_ok-sum.was in
    let n : c.in_ok-sum.field-0 ≤ most_size = fixed-fits c.args.self.lines.now c.loop-line.line-index _ _ c.args.self.fit (search rules) e in
    search rules

pub returns-in_err-sum : goal.returns-in_err-sum
returns-in_err-sum c =
    let e = sym c.fixed_maximum.ensures ∙ c.in_err-sum.was in
    c.from_residual.ensures ∙ maxima-stop c.args.self.lines.now c.loop-line.line-index c.loop-line.sum _ _ (search rules) e c.loop-line.invariant.1

pub loop-line-preserved : goal.loop-line-preserved
loop-line-preserved c =
    let e = sym c.fixed_maximum.ensures ∙ c.in_ok-sum.was in
    let n : c.in_ok-sum.field-0 ≤ most_size = fixed-fits c.args.self.lines.now c.loop-line.line-index _ _ c.args.self.fit (search rules) e in
    (search rules, maxima-step c.args.self.lines.now c.loop-line.line-index c.loop-line.sum _ _ _ (search rules) e c.loop-line.invariant.1)

pub returns : goal.returns
returns c = maxima-end c.args.self.lines.now c.loop-line.line-index c.loop-line.sum _ (search rules) c.loop-line.invariant.1
