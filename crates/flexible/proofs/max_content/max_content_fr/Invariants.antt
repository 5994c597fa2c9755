-- The loop of `max_content_fr`: what it keeps true.
use mathlib.Core.Path.{◌≡◌}
use lib.ListN.{length}
use Rattle.laws.specs.Lists.{in_turn}
use Rattle.lines.specs.Rule.{item_fr}
use Rattle.lines.specs.Fits.{MeasuredFit}
use Rattle.flexible.specs.Flexes.{batch_fr}
use Rattle.flexible.proofs.max_content.max_content_fr.Given as goal

abbrev pub invariant-loop-item : goal.invariant-loop-item
invariant-loop-item l =
    record {
      fit : MeasuredFit (length l.lines) l.item-iterator;
      left : in_turn (item_fr l.lines) l.item-iterator l.fr ≡ batch_fr l.batch l.lines;
    }
