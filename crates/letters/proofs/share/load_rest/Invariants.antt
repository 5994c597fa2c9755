-- The loop of `load_rest`: what it keeps true.
use mathlib.Core.Path.{◌≡◌}
use mathlib.Core.List.{◌++◌}
use lib.ListN.{take, drop}
use Rattle.letters.specs.Letters.{letter_of}
use Rattle.letters.proofs.ShareSteps.{rest_caps_from, capped_from}
use Rattle.letters.proofs.share.load_rest.Given as goal

abbrev pub invariant-loop-i : goal.invariant-loop-i
invariant-loop-i l = (drop l.i l.gains ≡ drop l.i l.initial.gains)
    × (take l.i l.gains ++ capped_from (letter_of l.letter) l.takers_only l.dots l.lines l.i (drop l.i l.gains) ≡ capped_from (letter_of l.letter) l.takers_only l.dots l.lines 0 l.initial.gains)
    × (take l.i l.rests ++ rest_caps_from (letter_of l.letter) l.takers_only l.dots l.lines l.initial.gains l.i ≡ rest_caps_from (letter_of l.letter) l.takers_only l.dots l.lines l.initial.gains 0)
