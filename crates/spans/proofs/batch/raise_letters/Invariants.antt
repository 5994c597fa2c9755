-- The loop of `raise_letters`: what it keeps true.
use mathlib.Core.Path.{◌≡◌}
use mathlib.Core.Bool.{false}
use lib.ListN.{drop}
use Rattle.spans.specs.Work.{Working, Calm, letter_steps}
use Rattle.spans.proofs.batch.raise_letters.Given as goal

abbrev pub invariant-loop-letter : goal.invariant-loop-letter
invariant-loop-letter l =
    record {
      working : Working l.lines l.increases l.gains l.rests l.sums;
      left : letter_steps l.kind l.constraint l.batch (drop l.letter-index l.letters) l.lines ≡ letter_steps l.kind l.constraint l.batch l.letters l.initial.lines;
      calm : l.moved ≡ false → Calm l.lines;
    }
