-- `take_singles` takes the items of the batch, one after another: what those to come make of the lines stays the same. Assumes nothing.
use lib.ListN.{length}
use Rattle.lines.specs.Rule.{with_item_at}
use Rattle.lines.specs.Fits.{MeasuredFits}
use Rattle.lines.proofs.Chains.{walk_turn, walk_end, all_first, all_rest}
use Rattle.spans.proofs.one_track.take_singles.Goals as goal

pub with_item-requires : goal.with_item-requires
with_item-requires c = (c.loop-item.invariant.fit, rw c.loop-item.auto.lines (all_first _ _ _ c.in-Some.ensures.steps (MeasuredFits (length c.args.lines.now)) c.loop-item.invariant.items-fit))

pub loop-item-preserved : goal.loop-item-preserved
loop-item-preserved c =
    record {
      fit = c.with_item.ensures.1;
      items-fit = all_rest _ _ _ c.in-Some.ensures.steps (MeasuredFits (length c.args.lines.now)) c.loop-item.invariant.items-fit;
      left = walk_turn _ _ _ c.in-Some.ensures.steps (with_item_at c.args.constraint) c.loop-item.lines _ _ c.loop-item.invariant.left c.with_item.ensures.0;
    }

pub returns : goal.returns
returns c = (walk_end _ (with_item_at c.args.constraint) c.loop-item.lines _ c.in-None.ensures.steps.0 c.loop-item.invariant.left, c.loop-item.invariant.fit)
