-- `is_auto` is true of an auto maximum alone. Assumes nothing.
use borrow.Author.Rules.{rules}
use Rattle.laws.specs.Lists.{among}
use Rattle.letters.proofs.KindTests.{not-auto}
use Rattle.letters.proofs.share.is_auto.Goals as goal

pub returns-in-Auto : goal.returns-in-Auto
unfolding among
returns-in-Auto c = search rules

pub returns-in_default : goal.returns-in_default
returns-in_default c = not-auto c.args.line.track.maximum c.in_default.not-Auto
