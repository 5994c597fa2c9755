-- `has_fall` finds whether an entry falls. Assumes nothing.
use Rattle.edges.proofs.Falls.{fault-turn, fault-end}
use Rattle.edges.proofs.checking.has_fall.Goals as goal

pub loop-i-preserved : goal.loop-i-preserved
loop-i-preserved c = fault-turn c.args.edges.now c.loop-i.i c.loop-i.has_fallen _ c.loop-i-test.true c.loop-i.invariant

pub returns : goal.returns
returns c = fault-end c.args.edges.now c.loop-i.i c.loop-i.has_fallen _ c.loop-i-test.false c.loop-i.invariant
