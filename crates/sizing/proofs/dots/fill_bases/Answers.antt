-- `fill_bases` shares the dots out and lets every base grow by its share. Assumes nothing.
use Rattle.sizing.proofs.Filled.{shared_long, shared-fits, shared-lines}
use Rattle.sizing.proofs.dots.fill_bases.Goals as goal

pub grow_bases-requires : goal.grow_bases-requires
grow_bases-requires c =
    record {
      long = shared_long c.args.share c.args.dots c.args.lines.now _ c.requires.0.none _ c.share_out-rounds.ensures.0;
      fits = shared-fits c.args.share c.args.dots c.args.lines.now _ c.requires.0.none _ c.share_out-rounds.ensures.0 c.requires.1 c.requires.0.bases-fit;
    }

pub returns : goal.returns
returns c = (shared-lines c.args.share c.args.dots c.args.lines.now _ c.requires.0.none _ c.share_out-rounds.ensures.0 _ c.grow_bases.ensures.0, c.share_out-rounds.ensures.1, c.grow_bases.ensures.1)
