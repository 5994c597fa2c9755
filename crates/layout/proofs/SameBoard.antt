-- Who reads the axis of a space: the expansion space alone, and that only without an inner size under min-content. So with an inner size,
-- or under definite or max-content, both axes give one board or one refusal; in the inline axis it is the board of a paper without axes;
-- and what the block axis changes is what the steps behind 5 read. Of every space, tracks, items and lent sizes. Assumes nothing.
use mathlib.Core.Path.{◌≡◌, refl, sym, ap, ap₂, ◌∙◌}
use mathlib.Core.Bool.{true, false}
use mathlib.Core.List.{List, map}
use Rattle.kinds.specs.Kinds.{Row}
use Rattle.kinds.specs.declared.constraint.Constraint.{Constraint}
use Rattle.kinds.specs.declared.constraint.Constraint.TheVariants.{MinContent, MaxContent}
use Rattle.kinds.specs.declared.item.Item.{Item}
use Rattle.sheet_kinds.specs.Axes.{along, reads_axis, axisless}
use Rattle.sheet_kinds.specs.Rule.{resolved}
use Rattle.sheet_kinds.specs.declared.axis.Axis.{Axis}
use Rattle.sheet_kinds.specs.declared.axis.Axis.TheVariants.{Inline, Block}
use Rattle.sheet_kinds.specs.declared.space.Space.{Space}
use Rattle.sheet_kinds.specs.declared.track.SheetTrack.{SheetTrack}
use Rattle.sheet_kinds.proofs.Axes.{expansion-of-inline, expansion-of-unread, min-content-of-read, expansion-of-block}
use Rattle.records.specs.Rule.{Fault, fine, fault}
use Rattle.checks.specs.Rule.{record_fault}
use Rattle.lines.specs.Rule.{Board, size}
use Rattle.layout.specs.Rule.{layout_fault, layout_sizes, sized_outcome, layout_as, layout_call}

module _ (s : Space) (ts : List SheetTrack) (is : List Item) where
  -- no refusal from 6 on reads the axis
  fault-of-any-axis : (axis : Axis) (sizes : List Row) → layout_fault (along axis s) ts is sizes ≡ layout_fault s ts is sizes
  unfolding record_fault
  fault-of-any-axis axis sizes = refl

  pub axes-give-one-board : (a b : Axis) (sizes : List Row) → reads_axis s.inner s.constraint ≡ false
      → layout_call (along a s) ts is sizes ≡ layout_call (along b s) ts is sizes
  unfolding layout_call
  axes-give-one-board a b sizes e = rw (fault-of-any-axis a sizes, fault-of-any-axis b sizes) (go (layout_fault s ts is sizes))
    where
      same : layout_sizes (along a s) ts is ≡ layout_sizes (along b s) ts is
      same =
          ap (λ (expansion' : Constraint). size s.constraint expansion' s.stretch (map resolved ts) is)
          (expansion-of-unread s a e ∙ sym (expansion-of-unread s b e))

      go : (f : Fault) → layout_as f (along a s) ts is sizes ≡ layout_as f (along b s) ts is sizes
      go fine = ap (λ (board : Board). sized_outcome board sizes) same
      go (fault number place) = refl

  pub inline-sizes : layout_sizes (along Inline s) ts is ≡ size s.constraint (axisless s) s.stretch (map resolved ts) is
  inline-sizes = ap (λ (expansion' : Constraint). size s.constraint expansion' s.stretch (map resolved ts) is) (expansion-of-inline s)

  -- where the axis has a say: the steps to 5 read min-content, as it is given, and the others max-content
  pub block-sizes : reads_axis s.inner s.constraint ≡ true → layout_sizes (along Block s) ts is ≡ size MinContent MaxContent s.stretch (map resolved ts) is
  block-sizes e = ap₂ (λ (c expansion' : Constraint). size c expansion' s.stretch (map resolved ts) is) (min-content-of-read s e) (expansion-of-block s e)
