-- What a case wants told, by the mark and the two numbers in its text. Assumes nothing.
use Rattle.std.specs.Prelude.{Bool, true, false, ℕ, Result, Ok, Err}
use Rattle.cases.specs.declared.wanted.Answer.{Answer}
use Rattle.cases.specs.declared.wanted.Refused.{Refused}

-- where the mark is set a refusal's number and its place, else the two numbers of an answer
abbrev pub wanted_as : Bool → ℕ → ℕ → Result Answer Refused
wanted_as true number place = Err (record { number = number; place = place })
wanted_as false first second = Ok (record { first = first; second = second })
