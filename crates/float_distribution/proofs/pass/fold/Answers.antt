-- `fold`: up to i, the turns of the step. Assumes nothing.
use mathlib.Core.Path.{◌∙◌}
use Rattle.laws.specs.Turns.{turns-none, turns-round}
use Rattle.float_distribution.specs.Distribution.{part_at, track_at}
use Rattle.float_distribution.specs.Parts.{in_lists}
use Rattle.float_distribution.proofs.pass.fold.Goals as goal

pub loop-i-init : goal.loop-i-init
loop-i-init g c = λ step is. turns-none _ _

pub loop-i-preserved : goal.loop-i-preserved
loop-i-preserved g c = λ step is.
    let took = is _ _ _ _ c.step-sum.ensures ∙ (λ j. step (c.part.ensures j) (c.new.ensures j) c.loop-i.sum) in
    turns-round (λ i x. step (part_at (in_lists c.args.parts.now) i) (track_at c.args.tracks.now i) x) c.loop-i.i c.args.start c.loop-i.sum c.step-sum.result took (c.loop-i.invariant step is)
