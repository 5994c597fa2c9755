-- `finish` lets the fr tracks grow, stretches, and tells what the lines are then. Assumes nothing.
use borrow.Author.Rules.{rules}
use native.Mathlib.Omega.{arith}
use lib.ListN.{length}
use Rattle.sizing.proofs.Finished.{flexed-fits, finished, finished-free-fits}
use Rattle.sizing.proofs.finish.finish.Goals as goal

pub stretch-requires : goal.stretch-requires
stretch-requires c =
    let batch = c.args.batch.now in (
      record {
        few = search rules;
        bases-fit = flexed-fits c.args.expansion (length c.args.lines.now) batch c.args.lines.now _ c.flex.ensures c.requires.0.few c.requires.0.fit c.requires.2 c.requires.1;
        none = rw c.lines-1.given c.requires.0.none;
        rests-long = omega (arith, c.requires.0.rests-long);
      },
      c.requires.2,
    )

pub free_of-requires : goal.free_of-requires
free_of-requires c =
    let batch = c.args.batch.now in
    let ends = finished c.args.expansion c.args.asked batch c.args.lines.now _ _ c.flex.ensures c.stretch.ensures in (
      search rules,
      c.requires.2,
      finished-free-fits c.args.expansion c.args.asked batch c.args.lines.now _ ends c.requires.0.fit c.requires.0.few c.requires.2,
    )
