-- `lay_over` keeps the larger of each two, front to back. Assumes nothing.
use borrow.Author.Rules.{rules}
use Prim.Native.Nat.{◌+◌}
use lib.ListN.{drop}
use Rattle.laws.specs.Lists.{larger}
use Rattle.laws.specs.Walk.{store_step, store-end}
use Rattle.letters.proofs.Steps.{larger-nil, larger-step}
use Rattle.letters.proofs.increase.lay_over.Goals as goal

pub loop-i-preserved : goal.loop-i-preserved
loop-i-preserved c =
    store_step c.loop-i.increases c.loop-i.i (larger (drop c.loop-i.i c.args.gains.now)) (larger (drop (c.loop-i.i + 1) c.args.gains.now)) _ 0 _ (search rules) (larger-step c.args.gains.now c.loop-i.i _ _ _ (search rules) c.max.ensures) c.loop-i.invariant

pub returns : goal.returns
returns c = store-end c.loop-i.increases c.loop-i.i (larger (drop c.loop-i.i c.args.gains.now)) _ (search rules) (larger-nil (drop c.loop-i.i c.args.gains.now)) c.loop-i.invariant
