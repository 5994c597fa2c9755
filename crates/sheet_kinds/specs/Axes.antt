-- The words in which is said where the axis is read: a space in either axis, whether its axis has a say, and the expansion space of a paper
-- that knows of no axis. Assumes nothing.
use Rattle.std.specs.Prelude.{Bool, true, false, Some, None}
use Rattle.kinds.specs.Kinds.{Amount}
use Rattle.kinds.specs.declared.constraint.Constraint.{Constraint}
use Rattle.kinds.specs.declared.constraint.Constraint.TheVariants.{Definite, MinContent, MaxContent}
use Rattle.sheet_kinds.specs.declared.axis.Axis.{Axis}
use Rattle.sheet_kinds.specs.declared.space.Space.{Space}
use Rattle.sheet_kinds.specs.Kinds.{space}

-- the same space, its tracks along this axis
abbrev pub along : Axis → Space → Space
along axis s = space s.constraint s.inner s.stretch axis

-- the axis has a say: there is no inner size, and the constraint is min-content
abbrev pub reads_axis : Amount → Constraint → Bool
reads_axis (Some n) c = false
reads_axis None (Definite n) = false
reads_axis None MinContent = true
reads_axis None MaxContent = false

-- the inner size if given; without it, definite becomes max-content and the others stay
abbrev pub axisless_of : Amount → Constraint → Constraint
axisless_of (Some n) c = Definite n
axisless_of None (Definite n) = MaxContent
axisless_of None MinContent = MinContent
axisless_of None MaxContent = MaxContent

abbrev pub axisless : Space → Constraint
axisless s = axisless_of s.inner s.constraint
