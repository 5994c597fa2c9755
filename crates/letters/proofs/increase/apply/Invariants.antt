-- The loop of `apply`: what it keeps true.
use mathlib.Core.Path.{◌≡◌}
use mathlib.Core.List.{◌++◌, zip_with}
use lib.ListN.{length, take, drop, replicate}
use Rattle.letters.specs.Letters.{letter_of}
use Rattle.letters.proofs.increase.apply.Given as goal

abbrev pub invariant-loop-i : goal.invariant-loop-i
invariant-loop-i l = (drop l.i l.lines ≡ drop l.i l.initial.lines)
    × (drop l.i l.increases ≡ drop l.i l.initial.increases)
    × (take l.i l.lines ++ zip_with (letter_of l.letter).grown (drop l.i l.lines) (drop l.i l.initial.increases) ≡ zip_with (letter_of l.letter).grown l.initial.lines l.initial.increases)
    × (take l.i l.increases ++ replicate (length (drop l.i l.increases)) 0 ≡ replicate (length l.initial.increases) 0)
