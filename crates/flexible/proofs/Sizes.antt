-- How large the sums of a search can be, on lines that fit. Assumes nothing.
use mathlib.Core.Bool.{Bool, true, false}
use mathlib.Core.List.{List, [], ◌∷◌, map}
use Prim.Native.Nat.{◌*◌, ◌≤◌}
use native.Mathlib.Nat.{le_trans}
use native.Mathlib.Omega.{arith}
use lib.ListN.{length}
use Rattle.laws.specs.Lists.{All}
use Rattle.laws.specs.Alls.{all_map}
use Rattle.laws.specs.Sums.{sum}
use Rattle.kinds.specs.declared.track.Maximum.{Maximum}
use Rattle.kinds.specs.declared.track.Maximum.TheVariants as maximum
use Rattle.spanned.specs.Sound.{most_of}
use Rattle.lines.specs.declared.line.Line.{Line}
use Rattle.lines.specs.Fr.{held_size, open_factor}
use Rattle.lines.specs.Fits.{LineFits, LinesFit}
use Rattle.flexible.specs.Flexes.{flex_at, flexes, FactorFits, StoreFits}

most-of-le : (m : Maximum) → most_of m ≤ 100000
most-of-le (maximum.Fixed n) = omega arith
most-of-le maximum.Auto = omega arith
most-of-le maximum.MinContent = omega arith
most-of-le maximum.MaxContent = omega arith
most-of-le (maximum.FitContent n) = omega arith
most-of-le (maximum.Fr n) = omega arith

-- every number of a maximum is within the limit of a factor
pub factor-fits : (l : Line) → LineFits l → FactorFits l
factor-fits l f = le_trans f.track.1 (most-of-le l.track.maximum)

pub factors-fit : (ls : List Line) → LinesFit ls → All FactorFits ls
factors-fit ls a = all_map LineFits FactorFits factor-fits ls a

held-size-le : (l : Line) (h : Bool) → LineFits l → held_size (flex_at l h) ≤ 65535
held-size-le l true f = f.base
held-size-le l false f = omega arith

open-factor-le : (l : Line) (h : Bool) → LineFits l → open_factor (flex_at l h) ≤ 100000
open-factor-le l true f = omega arith
open-factor-le l false f = factor-fits l f

held-sizes-le : (ls : List Line) (hs : List Bool) → LinesFit ls → sum (map held_size (flexes ls hs)) ≤ 65535 * length ls
unfolding All flexes sum
held-sizes-le [] hs a = omega arith
held-sizes-le (l ∷ ls) [] a = omega arith
held-sizes-le (l ∷ ls) (h ∷ hs) a = omega (arith, held-size-le l h a.0, held-sizes-le ls hs a.1)

pub open-factors-le : (ls : List Line) (hs : List Bool) → LinesFit ls → sum (map open_factor (flexes ls hs)) ≤ 100000 * length ls
unfolding All flexes sum
open-factors-le [] hs a = omega arith
open-factors-le (l ∷ ls) [] a = omega arith
open-factors-le (l ∷ ls) (h ∷ hs) a = omega (arith, open-factor-le l h a.0, open-factors-le ls hs a.1)

module _ (lines : List Line) (held : List Bool) (s : StoreFits lines held) where
  pub held-sizes-small : sum (map held_size (flexes lines held)) ≤ 16776960
  held-sizes-small = omega (arith, held-sizes-le lines held s.fits, s.few)

  pub open-factors-small : sum (map open_factor (flexes lines held)) ≤ 25600000
  open-factors-small = omega (arith, open-factors-le lines held s.fits, s.few)
