-- The loop of `load_quotas`: what it keeps true.
use mathlib.Core.Path.{◌≡◌}
use mathlib.Core.List.{◌++◌}
use lib.ListN.{take}
use Rattle.lines.specs.ByFactor.{dots_over}
use Rattle.letters.proofs.ByFactor.{quotas_from, over_from}
use Rattle.letters.proofs.by_factor.load_quotas.Given as goal

abbrev pub invariant-loop-i : goal.invariant-loop-i
invariant-loop-i l = (take l.i l.gains ++ quotas_from l.dots l.factors l.i ≡ quotas_from l.dots l.factors 0)
    × (over_from l.dots l.factors l.i l.over ≡ dots_over l.dots l.factors)
