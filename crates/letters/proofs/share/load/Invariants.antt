-- The loop of `load`: what it keeps true.
use mathlib.Core.Path.{◌≡◌}
use mathlib.Core.List.{◌++◌}
use lib.ListN.{take}
use Rattle.letters.specs.Shares.{track_in}
use Rattle.letters.proofs.ShareSteps.{caps_from}
use Rattle.letters.proofs.share.load.Given as goal

abbrev pub invariant-loop-i : goal.invariant-loop-i
invariant-loop-i l =
    take l.i l.rests ++ caps_from (track_in l.share) l.dots l.lines l.i ≡ caps_from (track_in l.share) l.dots l.lines 0
