-- `max_content_fr` meets its contract. The loop's invariant: the rest of the batch leads from the fr so far to that of all. Assumes nothing.
use mathlib.Core.Path.{ap₂, ◌∙◌}
use lib.ListN.{length}
use Rattle.laws.specs.Lists.{in_turn}
use Rattle.lines.specs.Rule.{item_fr}
use Rattle.lines.specs.Fits.{MeasuredFits}
use Rattle.lines.proofs.Chains.{walk_turn, walk_end, all_first, all_rest}
use Rattle.flexible.specs.Flexes.{batch_fr}
use Rattle.flexible.proofs.max_content.max_content_fr.Goals as goal

pub loop-item-init : goal.loop-item-init
unfolding batch_fr
loop-item-init c =
    let walks = c.into_iter-item-iterator.ensures.into_iter_gives ∙ c.walk-item-items.ensures in
    record {
      fit = rw walks c.requires.batch_fits;
      left = ap₂ (in_turn (item_fr c.args.lines.now)) walks c.bases_fr-fr.ensures;
    }

pub item_fr-fr-requires-clause-item_fits : goal.item_fr-fr-requires-clause-item_fits
item_fr-fr-requires-clause-item_fits c = all_first _ _ _ c.in-Some.ensures.steps (MeasuredFits (length c.args.lines.now)) c.loop-item.invariant.fit

pub loop-item-preserved : goal.loop-item-preserved
loop-item-preserved c =
    record {
      fit = all_rest _ _ _ c.in-Some.ensures.steps (MeasuredFits (length c.args.lines.now)) c.loop-item.invariant.fit;
      left = walk_turn _ _ _ c.in-Some.ensures.steps (item_fr c.args.lines.now) c.loop-item.fr _ _ c.loop-item.invariant.left c.item_fr-fr.ensures;
    }

pub returns : goal.returns
returns c = walk_end _ (item_fr c.args.lines.now) c.loop-item.fr _ c.in-None.ensures.steps.0 c.loop-item.invariant.left
