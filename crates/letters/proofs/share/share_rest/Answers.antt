-- `share_rest` is a fill on top of the gains: the caps are loaded twice, the rounds run on the rests, and these are taken off.
-- Assumes nothing.
use Rattle.letters.specs.Letters.{letter_of}
use Rattle.letters.proofs.Shared.{rest-shared}
use Rattle.letters.proofs.share.share_rest.Goals as goal

pub returns : goal.returns
returns c = rest-shared (letter_of c.args.letter) c.args.takers_only c.args.dots c.args.lines.now c.args.gains.now _ _ _ _ _ _ c.load_rest.ensures.0 c.load_rest.ensures.1 c.run_rounds.ensures c.take_off.ensures
