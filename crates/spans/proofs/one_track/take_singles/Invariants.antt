-- The loop of `take_singles`: what it keeps true.
use mathlib.Core.Path.{◌≡◌}
use lib.ListN.{length}
use Rattle.laws.specs.Lists.{in_turn}
use Rattle.lines.specs.Rule.{with_item_at}
use Rattle.lines.specs.Fits.{LinesFit, MeasuredFit}
use Rattle.spans.proofs.one_track.take_singles.Given as goal

abbrev pub invariant-loop-item : goal.invariant-loop-item
invariant-loop-item l =
    record {
      fit : LinesFit l.lines;
      items-fit : MeasuredFit (length l.initial.lines) l.item-iterator;
      left : in_turn (with_item_at l.constraint) l.item-iterator l.lines ≡ in_turn (with_item_at l.constraint) l.batch l.initial.lines;
    }
