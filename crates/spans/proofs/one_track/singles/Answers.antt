-- `singles` takes the items, then settles every line. Assumes nothing.
use lib.ListN.{length}
use Rattle.spans.proofs.OneTrack.{singles-made}
use Rattle.spans.proofs.one_track.singles.Goals as goal

pub returns : goal.returns
returns c = singles-made c.args.constraint (length c.args.lines.now) c.args.batch.now c.args.lines.now _ _ c.take_singles.ensures.0 c.settle.ensures c.requires.1 c.requires.0
