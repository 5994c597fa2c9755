-- `plan_batch` walks a batch: each item in its turn is laid over the increases. Assumes nothing.
use mathlib.Core.Path.{◌∙◌}
use lib.ListN.{length}
use Rattle.laws.specs.Lists.{in_turn}
use Rattle.lines.specs.Rule.{increased_by}
use Rattle.lines.specs.Fits.{MeasuredFits}
use Rattle.lines.proofs.Chains.{walk_turn, walk_end, all_first, all_rest}
use Rattle.letters.specs.Letters.{letter_of}
use Rattle.letters.specs.Batches.{shares_in}
use Rattle.letters.proofs.Nothing.{or-neither}
use Rattle.spans.proofs.batch.plan_batch.Goals as goal

pub plan_item-gives-requires : goal.plan_item-gives-requires
plan_item-gives-requires c = (
  record {
    few = c.requires.0.few;
    fit = c.requires.0.fit;
    increases-long = c.loop-item.auto.increases ∙ c.requires.0.increases-long;
    gains-long = c.loop-item.auto.gains ∙ c.requires.0.gains-long;
    rests-long = c.loop-item.auto.rests ∙ c.requires.0.rests-long;
    totals = c.requires.0.totals;
  },
  all_first _ _ _ c.in-Some.ensures.steps (MeasuredFits (length c.args.lines.now)) c.loop-item.invariant.fit,
)

pub loop-item-preserved : goal.loop-item-preserved
unfolding in_turn
loop-item-preserved c =
    let plan = increased_by (shares_in c.args.kind) (letter_of c.args.letter) c.args.constraint c.args.lines.now in
    record {
      fit = all_rest _ _ _ c.in-Some.ensures.steps (MeasuredFits (length c.args.lines.now)) c.loop-item.invariant.fit;
      left = walk_turn _ _ _ c.in-Some.ensures.steps plan c.loop-item.increases _ _ c.loop-item.invariant.left c.plan_item-gives.ensures.laid;
      nothing = λ e. let n = or-neither _ _ e in c.plan_item-gives.ensures.nothing n.1 ∙ c.loop-item.invariant.nothing n.0;
    }

pub returns : goal.returns
returns c =
    let plan = increased_by (shares_in c.args.kind) (letter_of c.args.letter) c.args.constraint c.args.lines.now in
    record {
      laid = walk_end _ plan c.loop-item.increases _ c.in-None.ensures.steps.0 c.loop-item.invariant.left;
      nothing = c.loop-item.invariant.nothing;
    }
