-- `tracks_fault` by its rest: what is still to look at has the fault that all of them have, and each row that was looked at holds f32 numbers.
-- Assumes nothing.
use mathlib.Core.List.{[]}
use Prim.Native.Nat.{ℕ, ◌<◌}
use native.Mathlib.Omega.{arith}
use lib.ListN.{length}
use borrow.Author.Count.{below_more}
use Rattle.laws.specs.Lists.{All}
use Rattle.laws.specs.Alls.{all-of-at}
use Rattle.float_laws.specs.Numbers.{IsF32}
use Rattle.float_domain.proofs.Outside.{tracks-from, tracks-end, is-refused, outside-found, outside-next, outside-end}
use Rattle.float_domain.proofs.numbers.tracks_fault.Goals as goal

pub returns-in_err-track_fault-clause-fault : goal.returns-in_err-track_fault-clause-fault
returns-in_err-track_fault-clause-fault c =
    let parted = tracks-from c.args.tracks.now c.loop-i.i c.loop-i-test.true in
    rw (is-refused _ _ c.from_residual.ensures.1) (outside-found _ _ _ parted c.loop-i.invariant.walked _ c.in_err-track_fault.ensures.fault)

pub loop-i-preserved : goal.loop-i-preserved
loop-i-preserved c =
    let parted = tracks-from c.args.tracks.now c.loop-i.i c.loop-i-test.true in
    record {
      walked = outside-next _ _ _ parted c.loop-i.invariant.walked _ (omega arith) c.in_ok-track_fault.ensures.fault;
      f32s = below_more _ c.loop-i.i c.loop-i.invariant.f32s c.in_ok-track_fault.ensures.all;
    }

pub returns-clause-fault : goal.returns-clause-fault
returns-clause-fault c = outside-end _ c.loop-i.invariant.walked (tracks-end c.args.tracks.now c.loop-i.i (omega arith))

pub returns-clause-all : goal.returns-clause-all
returns-clause-all c = all-of-at (All IsF32) c.args.tracks.now [] (λ (k : ℕ) (l : k < length c.args.tracks.now). c.loop-i.invariant.f32s k (omega arith))
