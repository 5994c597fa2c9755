-- The loop of `hold_short`: what it keeps true.
use mathlib.Core.Path.{◌≡◌}
use mathlib.Core.Bool.{◌||◌}
use mathlib.Core.List.{◌++◌}
use lib.ListN.{take, drop}
use Rattle.laws.specs.Lists.{some}
use Rattle.lines.specs.Fr.{short}
use Rattle.flexible.specs.Flexes.{flexes, held_next}
use Rattle.flexible.proofs.Walks.{flexes_from}
use Rattle.flexible.proofs.search.hold_short.Given as goal

abbrev pub invariant-loop-i : goal.invariant-loop-i
invariant-loop-i l = (take l.i l.held ++ held_next l.fr (drop l.i l.lines) (drop l.i l.held) ≡ held_next l.fr l.lines l.initial.held) × ((l.any || some (short l.fr) (flexes_from l.lines l.held l.i)) ≡ some (short l.fr) (flexes l.lines l.initial.held))
