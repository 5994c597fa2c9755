-- The loop of `load_factors`: what it keeps true.
use mathlib.Core.Path.{◌≡◌}
use mathlib.Core.List.{◌++◌}
use Prim.Native.Nat.{◌+◌, ◌*◌, ◌≤◌}
use lib.ListN.{take}
use Rattle.laws.specs.Sums.{sum}
use Rattle.letters.specs.Letters.{most}
use Rattle.letters.proofs.ByFactor.{factors_from}
use Rattle.letters.proofs.by_factor.load_factors.Given as goal

abbrev pub invariant-loop-i : goal.invariant-loop-i
invariant-loop-i l = (take l.i l.gains ++ factors_from l.letter l.lines l.i ≡ factors_from l.letter l.lines 0)
    × (take l.i l.rests ++ factors_from l.letter l.lines l.i ≡ factors_from l.letter l.lines 0)
    × (l.total ≤ l.i * most)
    × (l.total + sum (factors_from l.letter l.lines l.i) ≡ sum (factors_from l.letter l.lines 0))
