-- What the sizing reads of a sheet: of the space its expansion space, of each track the one that is sized. The constraint, whether to
-- stretch, and the items are read as they are. This page follows the build paper, the first sentence of its step 6 among it. It
-- assumes nothing of the code and it computes.
use Rattle.std.specs.Prelude.{Some, None}
use Rattle.kinds.specs.Kinds.{Amount, track}
use Rattle.kinds.specs.declared.constraint.Constraint.{Constraint}
use Rattle.kinds.specs.declared.constraint.Constraint.TheVariants.{Definite, MinContent, MaxContent}
use Rattle.kinds.specs.declared.track.Minimum.{Minimum}
use Rattle.kinds.specs.declared.track.Minimum.TheVariants as minimum
use Rattle.kinds.specs.declared.track.Maximum.{Maximum}
use Rattle.kinds.specs.declared.track.Maximum.TheVariants as maximum
use Rattle.kinds.specs.declared.track.Track.{Track}
use Rattle.sheet_kinds.specs.declared.axis.Axis.{Axis}
use Rattle.sheet_kinds.specs.declared.axis.Axis.TheVariants.{Inline, Block}
use Rattle.sheet_kinds.specs.declared.space.Space.{Space}
use Rattle.sheet_kinds.specs.declared.track.SheetMinimum.{SheetMinimum}
use Rattle.sheet_kinds.specs.declared.track.SheetMinimum.TheVariants as least
use Rattle.sheet_kinds.specs.declared.track.SheetMaximum.{SheetMaximum}
use Rattle.sheet_kinds.specs.declared.track.SheetMaximum.TheVariants as greatest
use Rattle.sheet_kinds.specs.declared.track.SheetTrack.{SheetTrack}

-- ---- Expansion space: the inner size if given; without it, definite becomes max-content and the others stay, but that in the block axis
-- min-content becomes max-content too. Nothing else reads the axis

abbrev pub without_inner : Axis → Constraint → Constraint
without_inner axis (Definite n) = MaxContent
without_inner Inline MinContent = MinContent
without_inner Block MinContent = MaxContent
without_inner axis MaxContent = MaxContent

abbrev pub expansion_of : Axis → Amount → Constraint → Constraint
expansion_of axis (Some n) c = Definite n
expansion_of axis None c = without_inner axis c

abbrev pub expansion : Space → Constraint
expansion s = expansion_of s.axis s.inner s.constraint

-- ---- The track that is sized: each kind that a sheet can say, as a kind that the sizing knows

abbrev pub resolved_minimum : SheetMinimum → Minimum
resolved_minimum (least.Fixed n) = minimum.Fixed n
resolved_minimum least.Auto = minimum.Auto
resolved_minimum least.MinContent = minimum.MinContent
resolved_minimum least.MaxContent = minimum.MaxContent

abbrev pub resolved_maximum : SheetMaximum → Maximum
resolved_maximum (greatest.Fixed n) = maximum.Fixed n
resolved_maximum greatest.Auto = maximum.Auto
resolved_maximum greatest.MinContent = maximum.MinContent
resolved_maximum greatest.MaxContent = maximum.MaxContent
resolved_maximum (greatest.FitContent n) = maximum.FitContent n
resolved_maximum (greatest.Fr n) = maximum.Fr n

abbrev pub resolved : SheetTrack → Track
resolved t = track (resolved_minimum t.minimum) (resolved_maximum t.maximum)
