-- `load_factors` writes each factor twice and adds it to the others, front to back: those that are done, and those of the lines still to come,
-- are all. Assumes nothing.
use borrow.Author.Rules.{rules}
use mathlib.Core.List.{List}
use Prim.Native.Nat.{ℕ, ◌+◌}
use Rattle.laws.specs.Walk.{store_step, store-end}
use Rattle.letters.specs.Factors.{line_factor}
use Rattle.letters.proofs.Steps.{total-step, total-end}
use Rattle.letters.proofs.ByFactor.{factors_from, factors-step, factors-end}
use Rattle.letters.proofs.by_factor.load_factors.Goals as goal

pub loop-i-preserved : goal.loop-i-preserved
loop-i-preserved c =
    let from = factors_from c.args.letter c.args.lines.now in
    let turn = factors-step c.args.letter c.args.lines.now c.loop-i.i _ _ (search rules) c.line_factor-factor.ensures in (
      store_step c.loop-i.gains c.loop-i.i (λ (_ : List ℕ). from c.loop-i.i) (λ (_ : List ℕ). from (c.loop-i.i + 1)) _ 0 _ (search rules) turn c.loop-i.invariant.0,
      store_step c.loop-i.rests c.loop-i.i (λ (_ : List ℕ). from c.loop-i.i) (λ (_ : List ℕ). from (c.loop-i.i + 1)) _ 0 _ (search rules) turn c.loop-i.invariant.1,
      search rules,
      total-step c.args.lines.now c.loop-i.i _ (line_factor c.args.letter) c.loop-i.total _ _ (search rules) c.line_factor-factor.ensures c.loop-i.invariant.3,
    )

pub returns : goal.returns
returns c =
    let from = factors_from c.args.letter c.args.lines.now in
    let all = factors-end c.args.letter c.args.lines.now c.loop-i.i (search rules) in (
      store-end c.loop-i.gains c.loop-i.i (λ (_ : List ℕ). from c.loop-i.i) _ (search rules) all c.loop-i.invariant.0,
      store-end c.loop-i.rests c.loop-i.i (λ (_ : List ℕ). from c.loop-i.i) _ (search rules) all c.loop-i.invariant.1,
      total-end c.args.lines.now c.loop-i.i (line_factor c.args.letter) c.loop-i.total _ (search rules) c.loop-i.invariant.3,
    )
