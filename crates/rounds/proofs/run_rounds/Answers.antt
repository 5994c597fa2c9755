-- `run_rounds` meets its contract. The loop's invariant: the rounds still to come lead to the fill's end. Assumes nothing.
use Rattle.std.proofs.Common.{◌≡◌, ◌<◌, sym, ◌∙◌, arith, rules}
use native.Mathlib.Nat.{sub-zero}
use Rattle.laws.specs.Runs.{runs-stop}
use Rattle.rounds.specs.Rests.{open_rests, rest_round, rest_more, fill_rests}
use Rattle.rounds.proofs.RestRounds.{more-no-dots, more-none-open, turn, turn-less}
use Rattle.rounds.proofs.run_rounds.Goals as goal

pub loop-left-init : goal.loop-left-init
unfolding fill_rests
loop-left-init c = (search rules, search rules, rw (sub-zero c.args.dots))

pub loop-left-smaller : goal.loop-left-smaller
loop-left-smaller c =
    let n : c.survey-found.result.count ≡ open_rests c.loop-left.rests = cc in
    let o : 0 < open_rests c.loop-left.rests = omega (arith, n) in
    let r = c.round-left.ensures c.loop-left.rounds in
    turn-less c.args.dots _ _ _ _ _ (search rules) o r

pub loop-left-preserved : goal.loop-left-preserved
loop-left-preserved c =
    let n : c.survey-found.result.count ≡ open_rests c.loop-left.rests = cc in
    let o : 0 < open_rests c.loop-left.rests = omega (arith, n) in
    let r = c.round-left.ensures c.loop-left.rounds in
    let t = turn-less c.args.dots _ _ _ _ _ (search rules) o r in
    (search rules, search rules, turn _ _ _ _ _ _ (search rules) o r _ c.loop-left.invariant.0 c.loop-left.invariant.2)

pub returns-after-loop-left : goal.returns-after-loop-left
returns-after-loop-left c = sym c.loop-left.invariant.2 ∙ runs-stop rest_more rest_round _ _ (more-no-dots _ _ _ c.loop-left-test.false)

pub returns-then-found-eq0 : goal.returns-then-found-eq0
returns-then-found-eq0 c =
    let n : c.survey-found.result.count ≡ open_rests c.loop-left.rests = cc c.survey-found.ensures in
    sym c.loop-left.invariant.2 ∙ runs-stop rest_more rest_round _ _ (more-none-open _ _ _ (omega (arith, n)))
