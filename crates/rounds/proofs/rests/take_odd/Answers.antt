-- `take_odd` meets its contract: a turn stores one rest, and takes its dot off those that are left. Assumes nothing.
use Rattle.std.proofs.Common.{◌≡◌, ◌-◌, min, get_or, refl, ◌∙◌, arith}
use Rattle.laws.specs.Walk.{store_step, store-end}
use Rattle.rounds.specs.Rule.{odd_takers}
use Rattle.rounds.specs.Rests.{open_marks, take_marked, take_odd}
use Rattle.rounds.proofs.Odd.{odd_step}
use Rattle.rounds.proofs.rests.take_odd.Goals as goal

pub loop-rest-preserved : goal.loop-rest-preserved
loop-rest-preserved c =
    let left = c.loop-rest.left in
    let one : c.min-one.result ≡ min 1 (min left (get_or c.loop-rest.rests c.loop-rest.rest-index 0)) = omega arith in
    store_step _ _ (take_odd left) (take_odd (left - c.min-one.result)) _ 0 _ (omega arith) (odd_step left _ _ ∙ cc) c.loop-rest.invariant

pub returns : goal.returns
unfolding odd_takers open_marks take_marked
returns c = store-end _ _ (take_odd c.loop-rest.left) _ (omega arith) refl c.loop-rest.invariant
