-- The loop of `load_first`: what it keeps true.
use mathlib.Core.Path.{◌≡◌}
use mathlib.Core.List.{◌++◌}
use lib.ListN.{take}
use Rattle.lines.specs.Rule.{first_track}
use Rattle.letters.specs.Letters.{letter_of}
use Rattle.letters.proofs.ShareSteps.{caps_from}
use Rattle.letters.proofs.share.load_first.Given as goal

abbrev pub invariant-loop-i : goal.invariant-loop-i
invariant-loop-i l = (take l.i l.gains ++ caps_from (first_track (letter_of l.letter)) l.dots l.lines l.i ≡ caps_from (first_track (letter_of l.letter)) l.dots l.lines 0)
    × (take l.i l.rests ++ caps_from (first_track (letter_of l.letter)) l.dots l.lines l.i ≡ caps_from (first_track (letter_of l.letter)) l.dots l.lines 0)
