-- What the loop of `survey` keeps true: those counted and those still to count are all, and the least room so far, of which
-- `least_less_one` is one less, lowered by the rests still to read, is the least of all.
use Rattle.std.proofs.Common.{◌≡◌, ◌+◌, ◌<◌, ◌≤◌, min, drop}
use Rattle.rounds.specs.Rests.{open_rests, least_rest}
use Rattle.rounds.proofs.rests.survey.Given as goal

abbrev pub invariant-loop-rest : goal.invariant-loop-rest
invariant-loop-rest l = record {
  few : l.count ≤ l.rest-index;
  fits : l.least_less_one < 4294967295;
  counted : l.count + open_rests (drop l.rest-index l.rests) ≡ open_rests l.rests;
  lowered : least_rest (min l.most (l.least_less_one + 1)) (drop l.rest-index l.rests) ≡ least_rest l.most l.rests;
}
