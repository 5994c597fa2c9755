-- `put_track_lines`, line by line: those of the first t tracks stand. Assumes nothing.
use mathlib.Core.Path.{refl}
use native.Mathlib.Omega.{arith}
use Rattle.printed.specs.Rule.{track_lines}
use Rattle.printed.proofs.Joined.{putting-then, putting-none, putting-as}
use Rattle.printed.proofs.Turns.{lines-turn}
use Rattle.printed.proofs.answer.put_track_lines.Goals as goal

pub loop-t-init : goal.loop-t-init
unfolding track_lines
loop-t-init c = putting-as (omega arith) refl (putting-none c.args.at c.args.into.now)

pub loop-t-preserved : goal.loop-t-preserved
loop-t-preserved c = putting-as (omega arith) (lines-turn c.args.sizes.now c.loop-t.t (omega (arith, c.requires.0))) (putting-then (omega (arith, c.requires.1)) c.loop-t.invariant c.put_track_line-next.ensures)
