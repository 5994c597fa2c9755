-- Where the axis is read: without an inner size under min-content, and there the block axis alone makes another expansion space. Assumes
-- nothing.
use mathlib.Core.Path.{◌≡◌, refl}
use mathlib.Core.Bool.{true, false}
use Rattle.std.specs.Prelude.{Some, None}
use Rattle.laws.specs.Tests.{never}
use Rattle.kinds.specs.Kinds.{Amount}
use Rattle.kinds.specs.declared.constraint.Constraint.{Constraint}
use Rattle.kinds.specs.declared.constraint.Constraint.TheVariants.{Definite, MinContent, MaxContent}
use Rattle.sheet_kinds.specs.declared.axis.Axis.{Axis}
use Rattle.sheet_kinds.specs.declared.axis.Axis.TheVariants.{Inline, Block}
use Rattle.sheet_kinds.specs.declared.space.Space.{Space}
use Rattle.sheet_kinds.specs.Rule.{expansion_of, expansion}
use Rattle.sheet_kinds.specs.Axes.{along, reads_axis, axisless_of, axisless}

-- in the inline axis the expansion space is that of a paper without axes
pub expansion-of-inline : (s : Space) → expansion (along Inline s) ≡ axisless s
expansion-of-inline s = go s.inner s.constraint
  where
    go : (a : Amount) (c : Constraint) → expansion_of Inline a c ≡ axisless_of a c
    go (Some n) c = refl
    go None (Definite n) = refl
    go None MinContent = refl
    go None MaxContent = refl

-- where the axis has no say, so it is in any
pub expansion-of-unread : (s : Space) (axis : Axis) → reads_axis s.inner s.constraint ≡ false → expansion (along axis s) ≡ axisless s
expansion-of-unread s axis e = go s.inner s.constraint e
  where
    go : (a : Amount) (c : Constraint) → reads_axis a c ≡ false → expansion_of axis a c ≡ axisless_of a c
    go (Some n) c e = refl
    go None (Definite n) e = refl
    go None MinContent e = never refl e
    go None MaxContent e = refl

-- where it has one, the constraint is min-content, and the expansion space in the block axis max-content
pub min-content-of-read : (s : Space) → reads_axis s.inner s.constraint ≡ true → s.constraint ≡ MinContent
min-content-of-read s e = go s.inner s.constraint e
  where
    go : (a : Amount) (c : Constraint) → reads_axis a c ≡ true → c ≡ MinContent
    go (Some n) c e = never e refl
    go None (Definite n) e = never e refl
    go None MinContent e = refl
    go None MaxContent e = never e refl

pub expansion-of-block : (s : Space) → reads_axis s.inner s.constraint ≡ true → expansion (along Block s) ≡ MaxContent
expansion-of-block s e = go s.inner s.constraint e
  where
    go : (a : Amount) (c : Constraint) → reads_axis a c ≡ true → expansion_of Block a c ≡ MaxContent
    go (Some n) c e = never e refl
    go None (Definite n) e = refl
    go None MinContent e = refl
    go None MaxContent e = refl
