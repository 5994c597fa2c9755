-- That lines fit is a fact with one proof at most. Assumes nothing.
use mathlib.Core.HLevel.{×_prop}
use mathlib.Core.List.{List, [], ◌∷◌}
use native.Mathlib.Bridge.{le_prop}
use Rattle.laws.specs.Lists.{All}
use Rattle.lines.specs.declared.line.Line.{Line}
use Rattle.lines.specs.Fits.{LineFits, LinesFit}

line-fits-once : (l : Line) → IsProp (LineFits l)
line-fits-once l = hlevel le_prop

pub lines-fit-once : (ls : List Line) → IsProp (LinesFit ls)
unfolding All
lines-fit-once [] = hlevel le_prop
lines-fit-once (l ∷ ls) = ×_prop (line-fits-once l) (lines-fit-once ls)
