-- The loop of `fr_now`: what it keeps true.
use mathlib.Core.Path.{◌≡◌}
use mathlib.Core.List.{map}
use Prim.Native.Nat.{◌+◌}
use Rattle.laws.specs.Sums.{sum}
use Rattle.lines.specs.Fr.{held_size, open_factor}
use Rattle.flexible.specs.Flexes.{flexes}
use Rattle.flexible.proofs.Walks.{flexes_from}
use Rattle.flexible.proofs.search.fr_now.Given as goal

abbrev pub invariant-loop-i : goal.invariant-loop-i
invariant-loop-i l = (l.sizes + sum (map held_size (flexes_from l.lines l.held l.i)) ≡ sum (map held_size (flexes l.lines l.held))) × (l.factors + sum (map open_factor (flexes_from l.lines l.held l.i)) ≡ sum (map open_factor (flexes l.lines l.held)))
