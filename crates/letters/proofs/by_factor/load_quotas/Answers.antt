-- `load_quotas` writes each quota with its factor on top and takes it off the dots, front to back. Assumes nothing.
use borrow.Author.Rules.{rules}
use mathlib.Core.Path.{refl, ap, ◌∙◌}
use mathlib.Core.List.{List}
use Prim.Native.Nat.{ℕ, ◌+◌}
use native.Mathlib.Omega.{arith}
use lib.ListN.{get_or}
use Rattle.laws.specs.Sums.{get_or-le-sum}
use Rattle.laws.specs.Walk.{store_step, store-end}
use Rattle.lines.specs.ByFactor.{quota}
use Rattle.letters.proofs.ByFactor.{quotas_from, quotas-step, quotas-end, quotas-all, over-all, over-step, over-end}
use Rattle.letters.proofs.by_factor.load_quotas.Goals as goal

pub loop-i-init : goal.loop-i-init
loop-i-init c = (refl, over-all c.args.dots c.args.factors.now)

pub quota-part-requires : goal.quota-part-requires
quota-part-requires c =
    let le = get_or-le-sum c.args.factors.now c.loop-i.i in
    (c.requires.2, omega arith)

pub loop-i-preserved : goal.loop-i-preserved
loop-i-preserved c =
    let from = quotas_from c.args.dots c.args.factors.now in
    let own = get_or c.args.factors.now c.loop-i.i 0 in
    let part = c.quota-part.ensures.0 ∙ ap (λ (t : ℕ). quota c.args.dots t own) c.requires.1 in
    let turn = quotas-step c.args.dots c.args.factors.now c.loop-i.i _ (search rules) (ap (◌+ own) part) in (
      store_step c.loop-i.gains c.loop-i.i (λ (_ : List ℕ). from c.loop-i.i) (λ (_ : List ℕ). from (c.loop-i.i + 1)) _ 0 _ (search rules) turn c.loop-i.invariant.0,
      over-step c.args.dots c.args.factors.now c.loop-i.i c.loop-i.over _ _ _ (search rules) part c.saturating_sub-over.ensures c.loop-i.invariant.1,
    )

pub returns : goal.returns
returns c =
    let from = quotas_from c.args.dots c.args.factors.now in (
      store-end c.loop-i.gains c.loop-i.i (λ (_ : List ℕ). from c.loop-i.i) _ (search rules) (quotas-end c.args.dots c.args.factors.now c.loop-i.i (search rules)) c.loop-i.invariant.0 ∙ quotas-all c.args.dots c.args.factors.now,
      over-end c.args.dots c.args.factors.now c.loop-i.i c.loop-i.over _ (search rules) c.loop-i.invariant.1,
    )
