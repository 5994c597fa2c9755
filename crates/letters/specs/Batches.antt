-- The code's two sorts of batch, in the words of the rule: whom a letter affects, how extra dots are shared, and which letters run. Assumes nothing.
use Rattle.std.specs.Prelude.{Bool, List}
use Rattle.kinds.specs.declared.constraint.Constraint.{Constraint}
use Rattle.lines.specs.declared.line.Line.{Line}
use Rattle.lines.specs.declared.measured.Measured.{Measured}
use Rattle.lines.specs.Rule.{Sharing, shares, affects_fr, shares_by_factor, base_letters, letters, batched}
use Rattle.lines.specs.Rule as rule
use Rattle.letters.specs.declared.batch.Batch.{Batch}
use Rattle.letters.specs.declared.batch.Batch.TheVariants.{OfSpan, Last}

abbrev pub affected_in : Batch → rule.Letter → Line → Bool
affected_in OfSpan letter = letter.affected
affected_in Last letter = affects_fr letter

abbrev pub shares_in : Batch → Sharing
shares_in OfSpan = shares
shares_in Last = shares_by_factor

abbrev pub letters_in : Batch → Constraint → List rule.Letter
letters_in OfSpan c = letters c
letters_in Last c = base_letters c

abbrev pub batched_in : Batch → Constraint → List Measured → List Line → List Line
batched_in batch c = batched (shares_in batch) (letters_in batch c) c
