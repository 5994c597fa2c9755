-- `share_first` is a fill: the caps are loaded twice, the rounds run on the rests, and what was lost is gained. Assumes nothing.
use Rattle.letters.specs.Letters.{letter_of}
use Rattle.letters.proofs.Shared.{first-shared}
use Rattle.letters.proofs.share.share_first.Goals as goal

pub returns : goal.returns
returns c = first-shared (letter_of c.args.letter) c.args.dots c.args.lines.now _ _ _ _ _ _ c.load_first.ensures.0 c.load_first.ensures.1 c.run_rounds-done.ensures c.take_off.ensures
