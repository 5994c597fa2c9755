-- What the loop of `take_each` keeps true: what is written, and what the walk makes of the rest, are the answer.
use Rattle.std.proofs.Common.{◌≡◌, ◌++◌, take, drop}
use Rattle.rounds.specs.Rests.{take_each}
use Rattle.rounds.proofs.rests.take_each.Given as goal

abbrev pub invariant-loop-rest : goal.invariant-loop-rest
invariant-loop-rest l = take l.rest-index l.rests ++ take_each l.k (drop l.rest-index l.rests) ≡ take_each l.k l.initial.rests
