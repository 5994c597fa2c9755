-- The loop of `run_rounds`: what it keeps true, and what falls.
use Rattle.std.proofs.Common.{◌≡◌, ◌+◌, ◌-◌, ◌≤◌, length}
use Rattle.laws.specs.Runs.{runs}
use Rattle.rounds.specs.Rests.{state_of, rest_round, rest_more, fill_rests}
use Rattle.rounds.proofs.run_rounds.Given as goal

abbrev pub invariant-loop-left : goal.invariant-loop-left
invariant-loop-left l = (l.left + l.rounds ≤ l.dots) × (length l.rests ≡ length l.initial.rests) × (runs rest_more rest_round (l.dots - l.rounds) (state_of l.rests l.left l.rounds) ≡ fill_rests l.dots l.initial.rests)

abbrev pub decreases-loop-left : goal.decreases-loop-left
decreases-loop-left l = l.left
