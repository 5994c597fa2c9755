-- `without_number`: std's `split_once` cuts at the first mark.
use Rattle.std.proofs.Common.{arith, sym, ◌∙◌, Some, None}
use Rattle.std.proofs.lemmas.Str.Pattern.{split_text_parts}
use mathlib.Core.Logic.{inr}
use Rattle.input.specs.Reasons.{number_mark}
use Rattle.input.proofs.Marks.{unmarked_before}
use Rattle.input.proofs.reasons.without_number.Goals as goal

pub returns-in-Some-clause-front : goal.returns-in-Some-clause-front
returns-in-Some-clause-front c = inr (c.in-Some.field-0-1.now, split_text_parts number_mark c.args.said.now (Some (c.in-Some.words, c.in-Some.field-0-1)) c.in-Some.ensures.cases)

pub returns-in-Some-clause-first : goal.returns-in-Some-clause-first
returns-in-Some-clause-first c =
    let h = c.in-Some.ensures.cases in
    λ before after e. unmarked_before number_mark c.args.said.now h.0 (omega arith) h.2.0 before after (sym h.3 ∙ e)

pub returns-in-None-clause-first : goal.returns-in-None-clause-first
returns-in-None-clause-first c = split_text_parts number_mark c.args.said.now None c.in-None.ensures.cases
