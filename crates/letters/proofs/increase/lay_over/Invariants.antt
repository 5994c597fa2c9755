-- The loop of `lay_over`: what it keeps true.
use mathlib.Core.Path.{◌≡◌}
use mathlib.Core.List.{◌++◌}
use lib.ListN.{take, drop}
use Rattle.laws.specs.Lists.{larger}
use Rattle.letters.proofs.increase.lay_over.Given as goal

abbrev pub invariant-loop-i : goal.invariant-loop-i
invariant-loop-i l =
    take l.i l.increases ++ larger (drop l.i l.gains) (drop l.i l.increases) ≡ larger l.gains l.initial.increases
