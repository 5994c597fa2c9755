-- `take_each` meets its contract: a turn stores one rest, and at the end all are written. Assumes nothing.
use Rattle.std.proofs.Common.{refl, arith}
use Rattle.laws.specs.Walk.{store_step, store-end}
use Rattle.rounds.specs.Rests.{take_each}
use Rattle.rounds.proofs.rests.take_each.Goals as goal

pub loop-rest-preserved : goal.loop-rest-preserved
unfolding take_each
loop-rest-preserved c = store_step _ _ (take_each c.args.k) (take_each c.args.k) _ 0 _ (omega arith) (cc) c.loop-rest.invariant

pub returns : goal.returns
unfolding take_each
returns c = store-end _ _ (take_each c.args.k) _ (omega arith) refl c.loop-rest.invariant
