-- What a case wants told: a refusal's number and place, or a fill's leftover and rounds. Assumes nothing.
use Rattle.std.specs.Prelude.{Result, Ok, Err}
use Rattle.cases.specs.declared.wanted.Answer.{Answer}
use Rattle.cases.specs.declared.wanted.Refused.{Refused}
use Rattle.fill.specs.Rule.{Told, filled, refused}

abbrev pub told_as : Result Answer Refused → Told
told_as (Ok fill) = filled fill.first fill.second
told_as (Err refusal) = refused refusal.number refusal.place
