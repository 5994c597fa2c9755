-- `affected` goes by the minimum in the letters that raise bases, by the maximum in those that raise limits. Assumes nothing.
use mathlib.Core.Path.{sym, ap, ◌∙◌}
use Rattle.letters.specs.declared.letter.Letter.{Letter}
use Rattle.letters.specs.Letters.{letter_of}
use Rattle.letters.proofs.KindTests.{minimum-234, minimum-34, minimum-24, minimum-4, maximum-2345, maximum-245}
use Rattle.letters.proofs.letter.Letter.affected.Goals as goal

pub returns-in-A : goal.returns-in-A
returns-in-A c = c.by_minimum.ensures ∙ minimum-234 c.args.line.track.minimum ∙ ap (λ (k : Letter). (letter_of k).affected c.args.line) (sym c.in-A.is)

pub returns-in-B : goal.returns-in-B
returns-in-B c = c.by_minimum-in-B.ensures ∙ minimum-34 c.args.line.track.minimum ∙ ap (λ (k : Letter). (letter_of k).affected c.args.line) (sym c.in-B.is)

pub returns-in-C : goal.returns-in-C
returns-in-C c = c.by_minimum-in-C.ensures ∙ minimum-24 c.args.line.track.minimum ∙ ap (λ (k : Letter). (letter_of k).affected c.args.line) (sym c.in-C.is)

pub returns-in-D : goal.returns-in-D
returns-in-D c = c.by_minimum-in-D.ensures ∙ minimum-4 c.args.line.track.minimum ∙ ap (λ (k : Letter). (letter_of k).affected c.args.line) (sym c.in-D.is)

pub returns-in-E : goal.returns-in-E
returns-in-E c = c.by_maximum.ensures ∙ maximum-2345 c.args.line.track.maximum ∙ ap (λ (k : Letter). (letter_of k).affected c.args.line) (sym c.in-E.is)

pub returns-in-F : goal.returns-in-F
returns-in-F c = c.by_maximum-in-F.ensures ∙ maximum-245 c.args.line.track.maximum ∙ ap (λ (k : Letter). (letter_of k).affected c.args.line) (sym c.in-F.is)
