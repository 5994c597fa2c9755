-- The free space of every board fits 32 bits with a sign: the bases start at 256 times 65,535 at most, and steps 6 and 7 add at
-- most the expansion space each. Assumes nothing.
use mathlib.Core.Bool.{Bool}
use mathlib.Core.List.{List}
use Prim.Native.Nat.{◌≤◌}
use native.Mathlib.Omega.{arith}
use lib.ListN.{length}
use Rattle.rounds.specs.Rule.{most_tracks}
use Rattle.kinds.specs.declared.constraint.Constraint.{Constraint}
use Rattle.kinds.specs.declared.constraint.Constraint.TheVariants.{Definite, MinContent, MaxContent}
use Rattle.spanned.specs.Sound.{ConstraintFits}
use Rattle.lines.specs.declared.line.Line.{Line}
use Rattle.lines.specs.declared.measured.Measured.{Measured}
use Rattle.lines.specs.Rule.{expand}
use Rattle.lines.specs.Fits.{LinesFit}
use Rattle.flexible.specs.Flexes.{definite_fr}
use Rattle.flexible.proofs.Growth.{bases-definite-le}
use Rattle.sizing.specs.Size.{FreeFits, finished_lines}
use Rattle.sizing.proofs.Bases.{bases-le, bases-stretched-le}

-- no free space is below what 32 bits say; above, the space itself is small enough
pub free-fits : (e : Constraint) (asked : Bool) (batch : List Measured) (ls : List Line) → LinesFit ls → length ls ≤ most_tracks → ConstraintFits e → FreeFits e (finished_lines e asked batch ls)
free-fits (Definite n) asked batch ls f few h = omega (arith, bases-le ls f, bases-definite-le n ls, bases-stretched-le asked n (expand (definite_fr n ls) ls))
free-fits MinContent asked batch ls f few h = tt
free-fits MaxContent asked batch ls f few h = tt
