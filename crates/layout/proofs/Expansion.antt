-- The expansion space of a space within its limit is within it too. Assumes nothing.
use Prim.Native.Nat.{◌≤◌, zero-le}
use Rattle.std.specs.Prelude.{None, Some}
use Rattle.rounds.specs.Rule.{most_dots}
use Rattle.kinds.specs.Kinds.{constraint_number, amount_number, Amount}
use Rattle.kinds.specs.declared.constraint.Constraint.{Constraint}
use Rattle.kinds.specs.declared.constraint.Constraint.TheVariants.{Definite, MinContent, MaxContent}
use Rattle.sheet_kinds.specs.Rule.{expansion_of, expansion}
use Rattle.sheet_kinds.specs.declared.axis.Axis.{Axis}
use Rattle.sheet_kinds.specs.declared.axis.Axis.TheVariants.{Inline, Block}
use Rattle.sheet_kinds.specs.declared.space.Space.{Space}
use Rattle.spanned.specs.Sound.{ConstraintFits}
use Rattle.checks.specs.Fits.{SpaceFits}

pub expansion-fits : (s : Space) → SpaceFits s → ConstraintFits (expansion s)
expansion-fits s f = go s.axis s.inner s.constraint f.0 f.1
  where
    go : (axis : Axis) (a : Amount) (c : Constraint) → constraint_number c ≤ most_dots → amount_number a ≤ most_dots → ConstraintFits (expansion_of axis a c)
    go axis (Some n) c h k = k
    go axis None (Definite n) h k = zero-le
    go Inline None MinContent h k = zero-le
    go Block None MinContent h k = zero-le
    go axis None MaxContent h k = zero-le
