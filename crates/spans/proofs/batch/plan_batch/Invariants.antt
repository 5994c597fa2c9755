-- The loop of `plan_batch`: what it keeps true.
use mathlib.Core.Path.{◌≡◌}
use mathlib.Core.Bool.{false}
use lib.ListN.{length}
use Rattle.laws.specs.Lists.{in_turn}
use Rattle.lines.specs.Rule.{increased_by}
use Rattle.lines.specs.Fits.{MeasuredFit}
use Rattle.letters.specs.Letters.{letter_of}
use Rattle.letters.specs.Batches.{shares_in}
use Rattle.spans.proofs.batch.plan_batch.Given as goal

abbrev pub invariant-loop-item : goal.invariant-loop-item
invariant-loop-item l =
    record {
      fit : MeasuredFit (length l.lines) l.item-iterator;
      left : in_turn (increased_by (shares_in l.kind) (letter_of l.letter) l.constraint l.lines) l.item-iterator l.increases ≡ in_turn (increased_by (shares_in l.kind) (letter_of l.letter) l.constraint l.lines) l.batch l.initial.increases;
      nothing : l.planned ≡ false → l.increases ≡ l.initial.increases;
    }
