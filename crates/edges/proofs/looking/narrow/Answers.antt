-- `narrow` finds the last entry that is not past the dot. The loop's invariant: it lies among the `count` entries from `at` on. Assumes nothing.
use mathlib.Core.Path.{refl}
use Rattle.edges.proofs.Scan.{narrowed-turn}
use Rattle.edges.proofs.looking.narrow.Goals as goal

pub loop-count-preserved : goal.loop-count-preserved
loop-count-preserved c = narrowed-turn c.args.edges.now c.args.dot c.requires c.loop-count.at c.loop-count.count _ refl c.loop-count-test.true c.loop-count.invariant _ c.farther-at.ensures
