-- `take_off` takes each rest from its gain, front to back: the gains written, and those still to come, are all. Assumes nothing.
use borrow.Author.Rules.{rules}
use Prim.Native.Nat.{◌+◌}
use Rattle.laws.specs.Walk.{store_step, store-end}
use Rattle.letters.proofs.ShareSteps.{lost_from, lost-step, lost-nil}
use Rattle.letters.proofs.share.take_off.Goals as goal

pub loop-i-preserved : goal.loop-i-preserved
loop-i-preserved c =
    store_step c.loop-i.gains c.loop-i.i (lost_from c.args.rests.now c.loop-i.i) (lost_from c.args.rests.now (c.loop-i.i + 1)) _ 0 _ (search rules)
    (lost-step c.args.rests.now c.loop-i.i _ _ _ (search rules) c.saturating_sub.ensures) c.loop-i.invariant

pub returns : goal.returns
returns c = store-end c.loop-i.gains c.loop-i.i (lost_from c.args.rests.now c.loop-i.i) _ (search rules) (lost-nil c.args.rests.now c.loop-i.i) c.loop-i.invariant
