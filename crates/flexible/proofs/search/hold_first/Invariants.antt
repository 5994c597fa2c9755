-- The loop of `hold_first`: what it keeps true.
use mathlib.Core.Path.{◌≡◌}
use mathlib.Core.List.{◌++◌}
use lib.ListN.{take, drop}
use Rattle.flexible.specs.Flexes.{held_first}
use Rattle.flexible.proofs.search.hold_first.Given as goal

abbrev pub invariant-loop-i : goal.invariant-loop-i
invariant-loop-i l = (take l.i l.held ++ held_first (drop l.i l.lines) ≡ held_first l.lines)
