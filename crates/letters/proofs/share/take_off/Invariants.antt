-- The loop of `take_off`: what it keeps true.
use mathlib.Core.Path.{◌≡◌}
use mathlib.Core.List.{◌++◌}
use lib.ListN.{take, drop}
use Rattle.rounds.specs.Rests.{lost}
use Rattle.letters.proofs.ShareSteps.{lost_from}
use Rattle.letters.proofs.share.take_off.Given as goal

abbrev pub invariant-loop-i : goal.invariant-loop-i
invariant-loop-i l =
    take l.i l.gains ++ lost_from l.rests l.i (drop l.i l.gains) ≡ lost l.initial.gains l.rests
