-- `raise_letters` raises letter by letter, in order. Assumes nothing.
use lib.ListN.{drop_of_length-le}
use Rattle.laws.specs.Walk.{next}
use Rattle.lines.proofs.Chains.{walk_turn, walk_end}
use Rattle.spans.specs.Work.{letter_step}
use Rattle.spans.proofs.batch.raise_letters.Goals as goal

pub loop-letter-preserved : goal.loop-letter-preserved
loop-letter-preserved c =
    record {
      working = c.raise_where_run-moved.ensures.1;
      left = walk_turn _ _ _ (next c.args.letters.now c.loop-letter.letter-index _ c.loop-letter-test.true) (letter_step c.args.kind c.args.constraint c.args.batch.now) c.loop-letter.lines _ _ c.loop-letter.invariant.left c.raise_where_run-moved.ensures.0;
      calm = c.raise_where_run-moved.ensures.2;
    }

pub returns : goal.returns
returns c = (walk_end _ (letter_step c.args.kind c.args.constraint c.args.batch.now) c.loop-letter.lines _ (drop_of_length-le c.args.letters.now c.loop-letter-test.false) c.loop-letter.invariant.left, c.loop-letter.invariant.working)
