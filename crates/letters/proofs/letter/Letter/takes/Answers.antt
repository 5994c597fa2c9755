-- `takes` goes by the maximum where bases are raised; all take where limits are. Assumes nothing.
use mathlib.Core.Path.{◌∙◌}
use Rattle.letters.proofs.KindTests.{maximum-234, maximum-24, takes-234, takes-24}
use Rattle.letters.proofs.letter.Letter.takes.Goals as goal

pub returns-in-A : goal.returns-in-A
returns-in-A c = c.by_maximum.ensures ∙ maximum-234 c.args.line.track.maximum ∙ takes-234 c.args.self c.args.line c.in-A.is

pub returns-in-C : goal.returns-in-C
returns-in-C c = c.by_maximum-in-C.ensures ∙ maximum-24 c.args.line.track.maximum ∙ takes-24 c.args.self c.args.line c.in-C.is
