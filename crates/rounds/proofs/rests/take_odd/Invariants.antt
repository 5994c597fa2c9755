-- What the loop of `take_odd` keeps true: what is written, and what the dots that are left do to the rest, are the answer.
use Rattle.std.proofs.Common.{◌≡◌, ◌++◌, take, drop}
use Rattle.rounds.specs.Rests.{take_odd}
use Rattle.rounds.proofs.rests.take_odd.Given as goal

abbrev pub invariant-loop-rest : goal.invariant-loop-rest
invariant-loop-rest l = take l.rest-index l.rests ++ take_odd l.left (drop l.rest-index l.rests) ≡ take_odd l.dots l.initial.rests
