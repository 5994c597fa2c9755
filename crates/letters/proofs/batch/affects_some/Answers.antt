-- `affects_some` looks at each line until one passes. Assumes nothing.
use Rattle.std.proofs.Common.{rules, ◌∙◌, tests}
use Rattle.std.proofs.lemmas.Iterator.{YieldsList-from_slice}
use Rattle.std.proofs.lemmas.Iterator.Search.{any_from_yields_List}
use Rattle.letters.specs.Letters.{letter_of}
use Rattle.letters.specs.Batches.{affected_in}
use Rattle.laws.specs.Lists.{some_of_any}
use Rattle.letters.proofs.batch.affects_some.Goals as goal

pub returns : goal.returns
returns c =
    any_from_yields_List
    (affected_in c.args.batch (letter_of c.args.letter)) _ _ c.any.result c.any.ensures.ran
    (YieldsList-from_slice c.args.lines.now (cc))
    (λ x b q k. search (rules, tests))
    ∙ some_of_any (affected_in c.args.batch (letter_of c.args.letter)) c.args.lines.now
