-- The loop of `write_sizes`: what it keeps true.
use mathlib.Core.Path.{◌≡◌}
use mathlib.Core.List.{◌++◌, map}
use lib.ListN.{take, drop}
use Rattle.lines.specs.Rule.{sizes_of}
use Rattle.sizing.proofs.finish.write_sizes.Given as goal

abbrev pub invariant-loop-i : goal.invariant-loop-i
invariant-loop-i l = take l.i l.sizes ++ map sizes_of (drop l.i l.lines) ≡ map sizes_of l.lines
