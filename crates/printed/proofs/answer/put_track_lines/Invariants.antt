-- The loop of `put_track_lines`: the lines of the first t tracks stand.
use Prim.Native.Nat.{◌*◌}
use lib.ListN.{take}
use Rattle.printed.specs.Rule.{track_lines}
use Rattle.printed.specs.Putting.{Putting}
use Rattle.printed.proofs.answer.put_track_lines.Given as goal

abbrev pub invariant-loop-t : goal.invariant-loop-t
invariant-loop-t l = Putting (63 * l.t) l.at (track_lines 0 (take l.t l.sizes)) l.initial.into l.into l.next
