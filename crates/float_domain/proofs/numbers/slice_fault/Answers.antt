-- `slice_fault` by its rest: what is still to look at has the fault that all of them have. Assumes nothing.
use native.Mathlib.Omega.{arith}
use Rattle.float_domain.proofs.Outside.{numbers-from, numbers-end, is-refused, outside-found, outside-next, outside-end}
use Rattle.float_domain.proofs.numbers.slice_fault.Goals as goal

pub returns-in_err-number_fault : goal.returns-in_err-number_fault
returns-in_err-number_fault c =
    let parted = numbers-from c.args.kind c.args.xs.now c.loop-i.i c.loop-i-test.true in
    rw (is-refused _ _ c.from_residual.ensures.1) (outside-found _ _ _ parted c.loop-i.invariant _ c.in_err-number_fault.ensures)

pub loop-i-preserved : goal.loop-i-preserved
loop-i-preserved c =
    let parted = numbers-from c.args.kind c.args.xs.now c.loop-i.i c.loop-i-test.true in
    outside-next _ _ _ parted c.loop-i.invariant _ (omega arith) c.in_ok-number_fault.ensures

pub returns : goal.returns
returns c = outside-end _ c.loop-i.invariant (numbers-end c.args.kind c.args.xs.now c.loop-i.i (omega arith))
