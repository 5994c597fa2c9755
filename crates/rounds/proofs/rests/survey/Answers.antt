-- `survey` meets its contract: a turn counts one rest, and lowers the least room by it. Assumes nothing.
use Rattle.std.proofs.Common.{◌≡◌, ◌<◌, get_or, arith}
use Rattle.rounds.specs.Rests.{open_rests}
use Rattle.rounds.proofs.Turns.{open_step, open-end, least_step, least-end, lowered-less-one}
use Rattle.rounds.proofs.rests.survey.Goals as goal

pub loop-rest-preserved : goal.loop-rest-preserved
loop-rest-preserved c =
    let rests = c.args.rests.now in
    let i = c.loop-rest.rest-index in
    let room : get_or rests i 0 < 4294967296 = omega (arith, c.type_inv.rests i) in
    let so_far = c.loop-rest.invariant in
    let count = open_step rests i c.loop-rest-test.true in
    record {
      few = omega arith;
      fits = omega arith;
      counted = omega (arith, count);
      lowered = least_step rests i _ _ _ c.loop-rest-test.true
          (lowered-less-one c.args.most c.loop-rest.least_less_one (get_or rests i 0) _ so_far.fits room c.min-least_less_one.ensures)
          so_far.lowered;
    }

pub returns : goal.returns
returns c =
    let n : c.loop-rest.count ≡ open_rests c.args.rests.now = omega (arith, open-end c.args.rests.now c.loop-rest.rest-index c.loop-rest-test.false) in
    let m = least-end _ _ _ _ c.loop-rest-test.false c.loop-rest.invariant.lowered in
    cc
