-- `auto_count`: the count so far and the number left are the number of marks. Assumes nothing.
use lib.ListN.{get_or}
use mathlib.Core.Bool.{false}
use native.Mathlib.Omega.{arith}
use Rattle.float_stretch.proofs.Count.{byte-le-one, number_step, number-end}
use Rattle.float_stretch.proofs.auto_count.Goals as goal

pub loop-auto-preserved : goal.loop-auto-preserved
loop-auto-preserved c =
    let few = byte-le-one (get_or c.args.autos.now c.loop-auto.auto-index false) in
    (rw c.from-count.ensures (omega arith), rw c.from-count.ensures (number_step c.args.autos.now c.loop-auto.auto-index c.loop-auto.count _ c.loop-auto-test.true c.loop-auto.invariant.1))

pub returns : goal.returns
returns c = number-end c.args.autos.now c.loop-auto.auto-index c.loop-auto.count _ (omega arith) c.loop-auto.invariant.1
