-- The loop of `tally`: what it keeps true.
use mathlib.Core.Path.{◌≡◌}
use mathlib.Core.List.{◌++◌}
use Prim.Native.Nat.{◌*◌, ◌≤◌}
use lib.ListN.{take, drop}
use Rattle.letters.specs.Letters.{most}
use Rattle.letters.specs.Totals.{tally_from, tallied}
use Rattle.letters.proofs.totals.tally.Given as goal

abbrev pub invariant-loop-i : goal.invariant-loop-i
invariant-loop-i l = (l.so_far.bases ≤ l.i * most)
    × (l.so_far.limits ≤ l.i * most)
    × (take l.i l.sums ++ tally_from l.so_far (drop l.i l.lines) ≡ tallied l.lines)
