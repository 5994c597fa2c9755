-- The loop of `collect`: what it keeps true.
use mathlib.Core.Path.{◌≡◌}
use mathlib.Core.List.{◌++◌}
use lib.ListN.{take, drop}
use Rattle.letters.proofs.ShareSteps.{gained_from}
use Rattle.letters.proofs.share.collect.Given as goal

abbrev pub invariant-loop-i : goal.invariant-loop-i
invariant-loop-i l = (drop l.i l.gains ≡ drop l.i l.initial.gains)
    × (take l.i l.gains ++ gained_from l.share l.dots l.lines l.rests l.i (drop l.i l.gains) ≡ gained_from l.share l.dots l.lines l.rests 0 l.initial.gains)
